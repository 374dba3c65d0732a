-- Lists of items of unlike length.
use Rattle.std.proofs.Common.{◌≡◌, ◌≢◌, suc, Bool, true, false, ◌&&◌, List, [], ◌∷◌, length, refl, ap}
use Rattle.mesh_base.specs.declared.queries.Item.{Item}
use Rattle.mesh_base.specs.Outputs.{item_columns}
use Rattle.mesh_base_values.specs.Types.{same_type, have_same_types}

pub and_false : (p r : Bool) → false ≡ r → false ≡ (p && r)
and_false true r is = is
and_false false r is = refl

pub unlike_items : (a b : List Item) → length a ≢ length b → false ≡ have_same_types (item_columns a) (item_columns b)
unlike_items [] [] apart = absurd (apart refl)
unlike_items [] (j ∷ js) apart = refl
unlike_items (i ∷ is) [] apart = refl
unlike_items (i ∷ is) (j ∷ js) apart =
    and_false (same_type i.kind j.kind) (have_same_types (item_columns is) (item_columns js)) (unlike_items is js (λ same. apart (ap suc same)))
