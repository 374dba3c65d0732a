-- The renames of a book stand by their models, so that those of one model that give one reference stand together.
use Rattle.std.proofs.Common.{◌≡◌, Bool, true, false, cond, List, [], ◌∷◌, inl, inr, Some, None, refl, sym, ◌∙◌, ap}
use Rattle.std.specs.declared.cmp.Ordering.{Ordering}
use Rattle.std.specs.declared.cmp.Ordering.TheVariants.{Less, Equal, Greater}
use Rattle.std.specs.Cmp.{Equal-is}
use Rattle.std.specs.Ordering.{is_eq, ordering_then}
use Rattle.std.proofs.lemmas.Cmp.{tied_itself}
use Rattle.mesh_list.specs.Keyed.{ascends, below_first, found}
use Rattle.mesh_list.proofs.Ascends.{and_left, and_right}
use Rattle.mesh_base_values.specs.declared.values.Name.{Name}
use Rattle.mesh_base_values.specs.Names.{name_cmp, text_cmp}
use Rattle.mesh_base_values.specs.NameOrder.{names_exact, names_total}
use Rattle.mesh_base.specs.declared.forgets.Rename.{Rename}
use Rattle.mesh_base.specs.declared.snapshots.Ref.{Ref}
use Rattle.mesh_base.specs.Keys.{ref_cmp, refs_exact, refs_total, snapshot_ref}
use Rattle.mesh_house_book.specs.declared.book.Book.{Book}
use Rattle.mesh_house_book.specs.WellFormed.{is_well_formed_book}
use Rattle.mesh_law_query.proofs.Has.{Has}
use Rattle.mesh_spec_changes.proofs.listed.Lists.{ascends_map, below_each}
use Rattle.mesh_house_book.specs.moves.Renames.{rename_old}
use Rattle.mesh_janitor.specs.declared.migrate.fault.MigrationFault.{MigrationFault}
use Rattle.mesh_janitor.specs.declared.migrate.fault.MigrationFault.TheVariants.{Twins, Memory}
use Rattle.mesh_janitor.specs.migrate.Migration.{IsMap, IsRefused, TellsTwins, first_twins, rename_by, rename_new, twins_or}
use Rattle.mesh_janitor.specs.migrate.Walk.{near_twin, near_twins}
use Rattle.mesh_janitor.proofs.migrate.Books.{snapshots_ascend}

-- of two references in order, the names are in order or the same
names_rise : (a b : Ref) → ref_cmp a b ≡ Less → (a.name ≡ b.name → ⊥) → name_cmp a.name b.name ≡ Less
names_rise a b less apart = go (name_cmp a.name b.name) refl less
  where
    go : (o : Ordering) → name_cmp a.name b.name ≡ o → ordering_then o (text_cmp a.fingerprint b.fingerprint) ≡ Less → name_cmp a.name b.name ≡ Less
    go Less e l = e
    go Equal e l = absurd (apart (names_exact a.name b.name e))
    go Greater e l = absurd (let clash : Greater ≡ Less = l in cc)

not_itself : (a b : Name) → name_cmp a b ≡ Less → b ≡ a → ⊥
not_itself a b less same = let clash : Less ≡ Equal = sym less ∙ ap (name_cmp a) same ∙ tied_itself names_total a in absurd (cc)

-- beyond a rename of another model none gives what this one gives
none_beyond : (m x : Rename) → ref_cmp m.old x.old ≡ Less → (m.old.name ≡ x.old.name → ⊥) → (y : Rename) → ref_cmp x.old y.old ≡ Less → y.old.name ≡ m.old.name → ⊥
none_beyond m x first apart y later same =
    let one : name_cmp m.old.name x.old.name ≡ Less = names_rise m.old x.old first apart in
    let two : name_cmp x.old.name y.old.name ≡ Less = names_rise x.old y.old later (λ e. apart (sym (e ∙ same))) in
    not_itself m.old.name y.old.name (names_total.trans m.old.name x.old.name y.old.name one two) same

none_found : (m : Rename) (xs : List Rename) → ((y : Rename) → Has y xs → y.old.name ≡ m.old.name → ⊥) → found ref_cmp rename_new (rename_new m) xs ≡ None
none_found m [] apart = refl
none_found m (x ∷ xs) apart = go (none_found m xs (λ y h. apart y (inr h))) (is_eq (ref_cmp (rename_new x) (rename_new m))) refl
  where
    go : found ref_cmp rename_new (rename_new m) xs ≡ None → (c : Bool) → is_eq (ref_cmp (rename_new x) (rename_new m)) ≡ c → cond c (Some x) (found ref_cmp rename_new (rename_new m) xs) ≡ None
    go more true e = absurd (apart x (inl refl) (ap (λ (r : Ref). r.name) (refs_exact (rename_new x) (rename_new m) ((Equal-is (ref_cmp (rename_new x) (rename_new m))).0 e))))
    go more false e = more

one_twin : (m : Rename) (xs : List Rename) → ascends ref_cmp rename_old xs ≡ true → ((y : Rename) → Has y xs → ref_cmp m.old y.old ≡ Less) → near_twin m xs ≡ found ref_cmp rename_new (rename_new m) xs
one_twin m [] up above = refl
one_twin m (x ∷ xs) up above = go (one_twin m xs rest (λ y h. above y (inr h))) (is_eq (name_cmp x.old.name m.old.name)) refl
  where
    rest : ascends ref_cmp rename_old xs ≡ true
    rest = and_right (below_first ref_cmp rename_old x.old xs) (ascends ref_cmp rename_old xs) up

    go : near_twin m xs ≡ found ref_cmp rename_new (rename_new m) xs → (c : Bool) → is_eq (name_cmp x.old.name m.old.name) ≡ c
        → cond c (cond (is_eq (ref_cmp (rename_new x) (rename_new m))) (Some x) (near_twin m xs)) None ≡ found ref_cmp rename_new (rename_new m) (x ∷ xs)
    go more true e = ap (cond (is_eq (ref_cmp (rename_new x) (rename_new m))) (Some x)) more
    go more false e = sym (none_found m (x ∷ xs) apart)
      where
        other : x.old.name ≡ m.old.name → ⊥
        other same =
            let clash : true ≡ false = sym (ap is_eq (ap (λ (n : Name). name_cmp n m.old.name) same ∙ tied_itself names_total m.old.name)) ∙ e in
            absurd (cc)

        apart : (y : Rename) → Has y (x ∷ xs) → y.old.name ≡ m.old.name → ⊥
        apart y (inl is) same = other (ap (λ (z : Rename). z.old.name) is ∙ same)
        apart y (inr h) same =
            none_beyond m x (above x (inl refl)) (λ s. other (sym s)) y
            (below_each ref_cmp refs_total rename_old x.old xs (and_left (below_first ref_cmp rename_old x.old xs) (ascends ref_cmp rename_old xs) up) rest y h) same

all_twins : (xs : List Rename) → ascends ref_cmp rename_old xs ≡ true → near_twins xs ≡ first_twins xs
all_twins [] up = refl
all_twins (m ∷ ms) up =
    let first = and_left (below_first ref_cmp rename_old m.old ms) (ascends ref_cmp rename_old ms) up in
    let rest = and_right (below_first ref_cmp rename_old m.old ms) (ascends ref_cmp rename_old ms) up in
    λ i. twins_or m (one_twin m ms rest (below_each ref_cmp refs_total rename_old m.old ms first rest) i) (all_twins ms rest i)

pub twins_stand_together : (b : Book) (renames : List Rename) → is_well_formed_book b ≡ true → IsMap b renames → near_twins renames ≡ first_twins renames
twins_stand_together b renames well is =
    all_twins renames
    (ap (ascends ref_cmp rename_old) is
    ∙ ascends_map ref_cmp rename_old ref_cmp snapshot_ref (rename_by renames) b.snapshots (λ x y h k. refl)
    ∙ snapshots_ascend b well)

pub tells_the_first : (b : Book) (renames : List Rename) (fault : MigrationFault) → is_well_formed_book b ≡ true → IsMap b renames → TellsTwins (near_twins renames) fault → IsRefused b fault
tells_the_first b renames Memory well is tells = tt
tells_the_first b renames (Twins name stored given) well is tells = (
  renames,
  is,
  record {
    first = tells.first;
    second = tells.second;
    told = tells.told;
    are_twins = sym (twins_stand_together b renames well is) ∙ tells.are_twins;
  },
)

pub none_at_all : (b : Book) (renames : List Rename) → is_well_formed_book b ≡ true → IsMap b renames → near_twins renames ≡ None → first_twins renames ≡ None
none_at_all b renames well is none = sym (twins_stand_together b renames well is) ∙ none
