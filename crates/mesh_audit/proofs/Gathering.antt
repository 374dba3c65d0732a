-- What each of a list gives, one behind the other.
use Rattle.std.proofs.Common.{◌≡◌, ℕ, ◌+◌, ◌<◌, List, [], ◌∷◌, ◌++◌, length, map, take, get_or, Some, None, refl, sym, ap, ◌∙◌, arith}
use Rattle.std.proofs.lemmas.List.{append-nil, append_assoc, take_more}
use Rattle.std.specs.Option.{option_map, option_and_then}
use Rattle.std.specs.declared.option.Option.{Option}
use Rattle.mesh_base_values.specs.declared.values.Cell.{Cell}
use Rattle.mesh_base_values.specs.declared.values.Name.{Name}
use Rattle.mesh_base.specs.declared.jobs.Input.{Input}
use Rattle.mesh_base.specs.declared.rules.plans.Plan.{Plan}
use Rattle.mesh_spec_query.specs.Sel.{Sel}
use Rattle.mesh_spec_model.specs.Scratch.{no_bounds, table_of}
use Rattle.mesh_house.specs.declared.world.World.{World}
use Rattle.mesh_spec_changes.specs.shown.Shown.{object_rows}
use Rattle.mesh_layer.specs.Lost.{first_of}
use Rattle.mesh_layer.proofs.Heights.{none_lost, rows_found}
use Rattle.mesh_audit.specs.declared.audits.Audit.{Audit}
use Rattle.mesh_audit.specs.declared.audits.Finding.{Finding}
use Rattle.mesh_audit.specs.Audited.{Placed, asked, asked_tables, audit_rows, finding, findings, found_by, gathered, lost_by, lost_for, lost_model, placed, shown_table}

-- one more
gathered_then : {A B : Type 0} (f : A → Option (List B)) (ts : List A) (t : A) (xs ys : List B) → gathered f ts ≡ Some xs → f t ≡ Some ys → gathered f (ts ++ t ∷ []) ≡ Some (xs ++ ys)
gathered_then f [] t xs ys h e =
    let none : Some [] ≡ Some xs = h in
    let empty : [] ≡ xs = cc in
    rw e (ap Some (append-nil ys ∙ ap (λ l. l ++ ys) empty))
gathered_then {B = B} f (s ∷ ts) t xs ys h e = at (λ zs b. gathered_then f ts t zs ys b e) (f s) refl (gathered f ts) refl h
  where
    at : ((zs : List B) → gathered f ts ≡ Some zs → gathered f (ts ++ t ∷ []) ≡ Some (zs ++ ys)) → (o : Option (List B)) → f s ≡ o → (os : Option (List B)) → gathered f ts ≡ os → option_and_then (λ y. option_map (λ l. y ++ l) os) o ≡ Some xs → gathered f (s ∷ ts ++ t ∷ []) ≡ Some (xs ++ ys)
    at rest None a os b k = absurd (let no : None ≡ Some xs = k in cc)
    at rest (Some y) a None b k = absurd (let no : None ≡ Some xs = k in cc)
    at rest (Some y) a (Some zs) b k =
        let all : y ++ zs ≡ xs = (let both : Some (y ++ zs) ≡ Some xs = k in cc) in
        rw (a, rest zs b) (ap Some (sym (append_assoc y zs ys) ∙ ap (λ l. l ++ ys) all))

pub gathered_step : {A B : Type 0} (f : A → Option (List B)) (ts : List A) (i : ℕ) (t : A) (xs ys : List B) → i < length ts → t ≡ get_or ts i t → gathered f (take i ts) ≡ Some xs → f t ≡ Some ys → gathered f (take (i + 1) ts) ≡ Some (xs ++ ys)
gathered_step {A = A} f ts i t xs ys lt here all is =
    ap (gathered f) (take_more ts i t lt ∙ ap (λ (p : A). take i ts ++ p ∷ []) (sym here))
    ∙ gathered_then f (take i ts) t xs ys all is

-- where each gives something, none is lost
pub none_lost_of : {A B : Type 0} (f : A → Option (List B)) (g : A → Option Name) → ((a : A) (ys : List B) → f a ≡ Some ys → g a ≡ None) → (ts : List A) (xs : List B) → gathered f ts ≡ Some xs → first_of (map g ts) ≡ None
none_lost_of f g none [] xs h = refl
none_lost_of {B = B} f g none (t ∷ ts) xs h = at (none_lost_of f g none ts) (f t) refl (gathered f ts) refl h
  where
    at : ((ys : List B) → gathered f ts ≡ Some ys → first_of (map g ts) ≡ None) → (o : Option (List B)) → f t ≡ o → (os : Option (List B)) → gathered f ts ≡ os → option_and_then (λ y. option_map (λ l. y ++ l) os) o ≡ Some xs → first_of (map g (t ∷ ts)) ≡ None
    at rest None a os b k = absurd (let no : None ≡ Some xs = k in cc)
    at rest (Some y) a None b k = absurd (let no : None ≡ Some xs = k in cc)
    at rest (Some y) a (Some ys) b k = rw (none t y a) (rest ys b)

-- a model with a table isn't lost
pub table_found : (w : World) (m : Placed) (x : Input) → shown_table w m ≡ Some x → lost_model w m ≡ None
table_found w m x h = at (object_rows w m.object) refl h
  where
    at : (o : Option (List (List Cell))) → object_rows w m.object ≡ o → option_map (table_of m.node.own) o ≡ Some x → lost_model w m ≡ None
    at None e k = absurd (let clash : None ≡ Some x = k in cc)
    at (Some rows) e k = rows_found w 4096 m.object rows e

-- an audit that finds something, or nothing, has lost no model
pub audit_found : (w : World) (all : List Placed) (a : Audit) (fs : List Finding) → found_by w all a ≡ Some fs → lost_by w all a ≡ None
audit_found w all a fs h = at (asked_tables w all a.query) refl h
  where
    at : (o : Option (List Input)) → asked_tables w all a.query ≡ o → option_map (finding a) (option_map (λ (tables : List Input). Sel a.query tables no_bounds) o) ≡ Some fs → lost_by w all a ≡ None
    at None e k = absurd (let clash : None ≡ Some fs = k in cc)
    at (Some tables) e k = none_lost (shown_table w) (lost_model w) (table_found w) (asked all a.query) tables e

-- where one is lost, nothing is found
pub findings_lost : (p : Plan) (audits : List Audit) (w : World) (o : Name) → lost_for p audits w ≡ Some o → findings p audits w ≡ None
findings_lost p audits w o h = at (findings p audits w) refl
  where
    at : (t : Option (List Finding)) → findings p audits w ≡ t → findings p audits w ≡ None
    at None e = e
    at (Some fs) e = absurd (let found : lost_for p audits w ≡ None = none_lost_of (found_by w (placed p.project.nodes p.entries)) (lost_by w (placed p.project.nodes p.entries)) (audit_found w (placed p.project.nodes p.entries)) audits fs e in cc)

-- what an audit finds over the tables that it asks for
pub found_over : (w : World) (all : List Placed) (a : Audit) (tables : List Input) → asked_tables w all a.query ≡ Some tables → found_by w all a ≡ Some (finding a (Sel a.query tables no_bounds))
found_over w all a tables is = ap (λ o. option_map (finding a) (option_map (λ (ts : List Input). Sel a.query ts no_bounds) o)) is
