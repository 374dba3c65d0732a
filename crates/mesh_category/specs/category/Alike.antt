-- Parents that are compatible pair by pair, by what is known of each new model.
use Rattle.std.specs.Prelude.{ℕ, Bool, true, false, ◌&&◌, List, [], ◌∷◌, slice_index_or}
use Rattle.std.specs.List.{slice_get}
use Rattle.std.specs.Ordering.{is_eq}
use Rattle.std.specs.declared.option.Option.{Option}
use Rattle.std.specs.declared.option.Option.TheVariants.{None, Some}
use Rattle.mesh_base_values.specs.Names.{name_cmp}
use Rattle.mesh_base.specs.declared.snapshots.Node.{Node}

-- two models of one name
abbrev pub have_one_name : Option Node → Option Node → Bool
have_one_name None other = false
have_one_name (Some a) None = false
have_one_name (Some a) (Some b) = is_eq (name_cmp a.own.name b.own.name)

-- the models at these places have one name, and the new one only adds columns
abbrev pub is_alike : List Node → List Node → List Bool → ℕ → ℕ → Bool
is_alike olds news adds p q = have_one_name (slice_get olds p) (slice_get news q) && slice_index_or adds q false

-- and so at all places, one beside the other
abbrev pub are_alike : List Node → List Node → List Bool → List ℕ → List ℕ → Bool
are_alike olds news adds [] [] = true
are_alike olds news adds [] (q ∷ qs) = false
are_alike olds news adds (p ∷ ps) [] = false
are_alike olds news adds (p ∷ ps) (q ∷ qs) = is_alike olds news adds p q && are_alike olds news adds ps qs
