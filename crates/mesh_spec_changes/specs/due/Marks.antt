-- The marks of a model at a moment: how far it and the tables that it stands on go.
use Rattle.std.specs.Prelude.{ℤ, Bool, true, false, ◌&&◌, List, [], ◌∷◌, map}
use Rattle.std.specs.List.{filter}
use Rattle.mesh_list.specs.Keyed.{placed}
use Rattle.mesh_base_values.specs.Names.{name_cmp}
use Rattle.mesh_base_values.specs.declared.kinds.Kind.{Kind}
use Rattle.mesh_base_values.specs.declared.kinds.Kind.TheVariants.{Full, View, Seed, Incremental}
use Rattle.mesh_base_values.specs.declared.values.Name.{Name}
use Rattle.mesh_spec_model.specs.Closures.{Closure, Model, own_of, ancestors}
use Rattle.mesh_spec_model.specs.Horizons.{Clock, horizon}
use Rattle.mesh_spec_changes.specs.due.Parts.{same_second}

-- the horizon of a model of some name
pub record Mark : Type 0 where
  pub name : Name
  pub at : ℤ

-- the model of a mark
abbrev pub mark_name : Mark → Name
mark_name m = m.name

-- a model whose table is computed from others
abbrev pub is_computed : Kind → Bool
is_computed Full = true
is_computed (Incremental time lookback) = true
is_computed View = false
is_computed Seed = false

-- a model with its horizon at a moment
abbrev pub mark_of : Clock → Closure → Mark
mark_of clock c = record { name = (own_of c).name; at = horizon clock c }

-- in the order of their names, one for each name
abbrev pub by_name : List Mark → List Mark
by_name [] = []
by_name (m ∷ ms) = placed name_cmp mark_name m (by_name ms)

-- of a model, whatever its kind, and of all its ancestors that are computed
abbrev pub marked : Clock → Closure → List Mark
marked clock (Model own parents) = mark_of clock (Model own parents) ∷ map (mark_of clock) (filter (λ c. is_computed (own_of c).kind) (ancestors parents))

-- the marks of a model: these horizons, by name
abbrev pub marks : Clock → Closure → List ℤ
marks clock c = map (λ (m : Mark). m.at) (by_name (marked clock c))

-- marks are equal, one by one
abbrev pub same_marks : List ℤ → List ℤ → Bool
same_marks [] [] = true
same_marks (a ∷ as_) (b ∷ bs) = same_second a b && same_marks as_ bs
same_marks [] (b ∷ bs) = false
same_marks (a ∷ as_) [] = false
