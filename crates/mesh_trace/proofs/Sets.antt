-- Names in sets.
use Rattle.std.proofs.Common.{◌≡◌, ◌||◌, ℕ, List, [], ◌∷◌, refl, ap, ap₂, ◌∙◌}
use Rattle.std.specs.List.{list_any}
use Rattle.std.specs.Ordering.{is_eq, ordering_reverse}
use Rattle.std.specs.declared.cmp.Ordering.{Ordering}
use Rattle.std.specs.declared.cmp.Ordering.TheVariants.{Less, Equal, Greater}
use Rattle.mesh_base_values.specs.Names.{text_cmp}
use Rattle.mesh_base_values.specs.NameOrder.{texts_total}
use Rattle.mesh_base_values.specs.Picked.{same_text}
use Rattle.mesh_lineage.specs.Alike.{IsAlike}

turned : (a b : List ℕ) → is_eq (text_cmp a b) ≡ same_text b a
turned a b = ap is_eq (texts_total.antisymm a b) ∙ go (text_cmp b a)
  where
    go : (o : Ordering) → is_eq (ordering_reverse o) ≡ is_eq o
    go Less = refl
    go Equal = refl
    go Greater = refl

pub turned_any : (name : List ℕ) (names : List (List ℕ)) → list_any (λ n. is_eq (text_cmp name n)) names ≡ list_any (λ n. same_text n name) names
turned_any name [] = refl
turned_any name (n ∷ names) = ap₂ (λ a b. a || b) (turned name n) (turned_any name names)

pub alike_then : {X : Type 0} (a b c : List X) → IsAlike a b → IsAlike b c → IsAlike a c
alike_then a b c f g x = (λ h. (g x).0 ((f x).0 h), λ h. (f x).1 ((g x).1 h))
