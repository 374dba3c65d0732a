-- Names that ascend stand by their order.
use Rattle.std.proofs.Common.{◌≡◌, true, List, [], ◌∷◌, refl, ap, ◌∙◌}
use Rattle.std.specs.Ordering.{ordering_reverse}
use Rattle.mesh_list.specs.Keyed.{ascends, below_first, placed, put_by}
use Rattle.mesh_list.proofs.Ascends.{and_left, and_right}
use Rattle.mesh_list.proofs.Each.{lt_is}
use Rattle.mesh_base_values.specs.Names.{name_cmp}
use Rattle.mesh_base_values.specs.NameOrder.{names_total}
use Rattle.mesh_base_values.specs.declared.values.Name.{Name}
use Rattle.mesh_spec_changes.specs.Changes.{name_itself, names_by_order}

in_front : (n : Name) (ns : List Name) → below_first name_cmp name_itself n ns ≡ true → placed name_cmp name_itself n ns ≡ n ∷ ns
in_front n [] h = refl
in_front n (m ∷ ns) h = ap (λ o. put_by o m n ns (placed name_cmp name_itself n ns)) (names_total.antisymm m n ∙ ap ordering_reverse (lt_is _ h))

pub stays : (ns : List Name) → ascends name_cmp name_itself ns ≡ true → names_by_order ns ≡ ns
stays [] up = refl
stays (n ∷ ns) up =
    ap (placed name_cmp name_itself n) (stays ns (and_right (below_first name_cmp name_itself n ns) (ascends name_cmp name_itself ns) up))
    ∙ in_front n ns (and_left _ _ up)
