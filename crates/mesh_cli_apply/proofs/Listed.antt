-- The models of a plan, by name, are its references and its objects.
use Rattle.std.proofs.Common.{◌≡◌, ◌≤◌, ◌⊎◌, inl, inr, ⊎_elim, min, ℕ, zero, suc, List, [], ◌∷◌, length, map, drop, refl, sym, ap, ◌∙◌, arith}
use Rattle.std.proofs.lemmas.List.{drop_all}
use Rattle.std.specs.declared.cmp.Ordering.{Ordering}
use Rattle.std.specs.declared.cmp.Ordering.TheVariants.{Less, Equal, Greater}
use Rattle.mesh_list.specs.Keyed.{placed, put_by}
use Rattle.mesh_base_values.specs.Names.{name_cmp}
use Rattle.mesh_base_values.specs.declared.values.Name.{Name}
use Rattle.mesh_base.specs.Keys.{ref_name}
use Rattle.mesh_base.specs.declared.plans.Entry.{Entry}
use Rattle.mesh_base.specs.declared.snapshots.Node.{Node}
use Rattle.mesh_base.specs.declared.rules.plans.Plan.{Plan}
use Rattle.mesh_spec_changes.specs.due.Plans.{Planned}
use Rattle.mesh_spec_changes.specs.Changes.{objects_by_name, pair_first, planned_ref, refs_by_name, target_of}
use Rattle.mesh_janitor.specs.promote.Promotion.{paired}
use Rattle.mesh_exec_works.specs.Plain.{plain_models}
use Rattle.mesh_exec.specs.Planned.{planned_models}
use Rattle.mesh_exec.proofs.Books.{models_same, strip}
use Rattle.mesh_cli_apply.specs.declared.listing.Target.{Target}
use Rattle.mesh_cli_apply.specs.Listing.{object_of, pair_of, ref_of, target, target_name, targets}

-- what is said of each item of a list in order, where the keys stay
module _ {A B : Type 0} (f : A → B) (key : A → Name) (of : B → Name) (same : (x : A) → of (f x) ≡ key x) where
  put_same : (o : Ordering) (x y : A) (xs rest : List A) → map f (put_by o x y xs rest) ≡ put_by o (f x) (f y) (map f xs) (map f rest)
  put_same Less x y xs rest = refl
  put_same Equal x y xs rest = refl
  put_same Greater x y xs rest = refl

  placed_same : (y : A) (xs : List A) → map f (placed name_cmp key y xs) ≡ placed name_cmp of (f y) (map f xs)
  placed_same y [] = refl
  placed_same y (x ∷ xs) =
      put_same (name_cmp (key x) (key y)) x y xs (placed name_cmp key y xs)
      ∙ (λ i. put_by (name_cmp (sym (same x) i) (sym (same y) i)) (f x) (f y) (map f xs) (placed_same y xs i))

refs_are : (ns : List Node) (es : List Entry) → map ref_of (targets ns es) ≡ refs_by_name (plain_models ns es)
refs_are [] es = refl
refs_are (n ∷ ns) [] = refl
refs_are (n ∷ ns) (e ∷ es) = placed_same ref_of target_name ref_name (λ x. refl) (target n e) (targets ns es) ∙ ap (placed name_cmp ref_name (ref_of (target n e))) (refs_are ns es)

pairs_are : (ns : List Node) (es : List Entry) → map pair_of (targets ns es) ≡ objects_by_name (plain_models ns es)
pairs_are [] es = refl
pairs_are (n ∷ ns) [] = refl
pairs_are (n ∷ ns) (e ∷ es) = placed_same pair_of target_name pair_first (λ x. refl) (target n e) (targets ns es) ∙ ap (placed name_cmp pair_first (pair_of (target n e))) (pairs_are ns es)

paired_are : (ts : List Target) → paired (map ref_of ts) (map object_of ts) ≡ map pair_of ts
paired_are [] = refl
paired_are (t ∷ ts) = ap (λ l. pair_of t ∷ l) (paired_are ts)

-- what a model stands on doesn't matter
refs_stripped : (ps : List Planned) → refs_by_name (map strip ps) ≡ refs_by_name ps
refs_stripped [] = refl
refs_stripped (p ∷ ps) = ap (placed name_cmp ref_name (planned_ref p)) (refs_stripped ps)

objects_stripped : (ps : List Planned) → objects_by_name (map strip ps) ≡ objects_by_name ps
objects_stripped [] = refl
objects_stripped (p ∷ ps) = ap (placed name_cmp pair_first (target_of p)) (objects_stripped ps)

pub lists_refs : (p : Plan) (ts : List Target) → ts ≡ targets p.project.nodes p.entries → map ref_of ts ≡ refs_by_name (planned_models p)
lists_refs p ts is = ap (map ref_of) is ∙ refs_are p.project.nodes p.entries ∙ ap refs_by_name (sym (models_same p)) ∙ refs_stripped (planned_models p)

pub lists_objects : (p : Plan) (ts : List Target) → ts ≡ targets p.project.nodes p.entries → paired (map ref_of ts) (map object_of ts) ≡ objects_by_name (planned_models p)
lists_objects p ts is = paired_are ts ∙ ap (map pair_of) is ∙ pairs_are p.project.nodes p.entries ∙ ap objects_by_name (sym (models_same p)) ∙ objects_stripped (planned_models p)

-- nothing comes behind the last of them
none_beside : (ns : List Node) → targets ns [] ≡ []
none_beside [] = refl
none_beside (n ∷ ns) = refl

pub shorter : (a b : ℕ) → (a ≤ min a b) ⊎ (b ≤ min a b)
shorter zero b = inl (omega arith)
shorter (suc a) zero = inr (omega arith)
shorter (suc a) (suc b) = ⊎_elim (λ h. inl (omega (arith, h))) (λ h. inr (omega (arith, h))) (shorter a b)

pub none_left : (k : ℕ) (ns : List Node) (es : List Entry) → (length ns ≤ k) ⊎ (length es ≤ k) → targets (drop k ns) (drop k es) ≡ []
none_left k ns es (inl h) = ap (λ (l : List Node). targets l (drop k es)) (drop_all k ns h)
none_left k ns es (inr h) = ap (targets (drop k ns)) (drop_all k es h) ∙ none_beside (drop k ns)
