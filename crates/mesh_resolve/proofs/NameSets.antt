-- A set of names beside their list.
use Rattle.std.proofs.Common.{◌≡◌, Bool, true, false, ◌||◌, cond, List, [], ◌∷◌, ◌++◌, refl, sym, ap, ◌∙◌}
use Rattle.std.proofs.lemmas.List.Folds.{list_any-append}
use Rattle.std.specs.BTreeSet.{BTreeSet, Updates, contains}
use Rattle.std.specs.Ordering.{is_eq}
use Rattle.mesh_base.specs.rules.Proper.{is_among}
use Rattle.mesh_base_values.specs.declared.values.Name.{Name}
use Rattle.mesh_base_values.specs.Names.{name_cmp}

either_way : (p r : Bool) → cond p true r ≡ (r || (p || false))
either_way true true = refl
either_way true false = refl
either_way false true = refl
either_way false false = refl

-- a set that has these names has one more of them
pub one_more_name : (old new : BTreeSet Name) (names : List Name) (key : Name) → ((name : Name) → contains name_cmp old name ≡ is_among names name) → Updates name_cmp old new key true
    → (name : Name) → contains name_cmp new name ≡ is_among (names ++ key ∷ []) name
one_more_name old new names key right updates name =
    updates.0 name ∙ ap (cond (is_eq (name_cmp key name)) true) (right name) ∙ either_way (is_eq (name_cmp key name)) (is_among names name)
    ∙ sym (list_any-append (λ n. is_eq (name_cmp n name)) names (key ∷ []))
