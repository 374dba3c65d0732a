-- Declarations that are put in order from the last one on.
use Rattle.std.proofs.Common.{◌≡◌, true, List, [], ◌∷◌, ◌++◌, refl, sym, ap, ◌∙◌}
use Rattle.std.specs.declared.cmp.Ordering.{Ordering}
use Rattle.std.specs.declared.cmp.Ordering.TheVariants.{Less, Equal, Greater}
use Rattle.std.specs.Ordering.{is_lt, ordering_reverse}
use Rattle.mesh_base.specs.declared.definitions.Decl.{Decl}
use Rattle.mesh_list.specs.Keyed.{ascends, below_first, placed, put_by}
use Rattle.mesh_list.proofs.Ascends.{and_left, and_right}
use Rattle.mesh_base_values.specs.NameOrder.{names_total}
use Rattle.mesh_base_values.specs.Names.{name_cmp}
use Rattle.mesh_resolve.specs.Relations.{decl_name}
use Rattle.mesh_resolve.specs.Owns.{in_order}

-- these, put among those that are in order
abbrev pub onto : List Decl → List Decl → List Decl
onto [] made = made
onto (d ∷ ds) made = placed name_cmp decl_name d (onto ds made)

pub onto_last : (ds : List Decl) (d : Decl) (made : List Decl) → onto (ds ++ d ∷ []) made ≡ onto ds (placed name_cmp decl_name d made)
onto_last [] d made = refl
onto_last (x ∷ ds) d made = ap (placed name_cmp decl_name x) (onto_last ds d made)

pub onto_none : (ds : List Decl) → onto ds [] ≡ in_order ds
onto_none [] = refl
onto_none (d ∷ ds) = ap (placed name_cmp decl_name d) (onto_none ds)

-- where the names ascend, each stays where it stands
in_front : (d x : Decl) (xs : List Decl) (o : Ordering) → name_cmp x.name d.name ≡ o → is_lt (ordering_reverse o) ≡ true → placed name_cmp decl_name d (x ∷ xs) ≡ d ∷ x ∷ xs
in_front d x xs Less is lt = cc lt
in_front d x xs Equal is lt = cc lt
in_front d x xs Greater is lt = ap (λ (o : Ordering). put_by o x d xs (placed name_cmp decl_name d xs)) is

put_first : (d : Decl) (ds : List Decl) → below_first name_cmp decl_name d.name ds ≡ true → placed name_cmp decl_name d ds ≡ d ∷ ds
put_first d [] below = refl
put_first d (x ∷ xs) below = in_front d x xs (name_cmp x.name d.name) refl (ap is_lt (sym (names_total.antisymm d.name x.name)) ∙ below)

pub stays : (ds : List Decl) → ascends name_cmp decl_name ds ≡ true → ds ≡ in_order ds
stays [] up = refl
stays (d ∷ ds) up =
    sym (ap (placed name_cmp decl_name d) (sym (stays ds (and_right (below_first name_cmp decl_name d.name ds) (ascends name_cmp decl_name ds) up)))
    ∙ put_first d ds (and_left (below_first name_cmp decl_name d.name ds) (ascends name_cmp decl_name ds) up))
