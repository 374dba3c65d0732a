-- Closures whose models are well formed with their parents.
use Rattle.std.specs.Prelude.{◌≡◌, true, List, map}
use Rattle.std.specs.List.{All}
use Rattle.mesh_base.specs.declared.rules.relations.Parent.{Parent}
use Rattle.mesh_base.specs.rules.Relations.{parent_relation}
use Rattle.mesh_base.specs.rules.Proper.{is_well_formed}
use Rattle.mesh_spec_model.specs.Closures.{Closure, each_of, own_of, parents_of, standing}
use Rattle.mesh_law_query.specs.Found.{model_relation}

-- a model whose definition is well formed with its parents, as it reads them
abbrev pub IsWell : Closure → Type 0
IsWell c = (parents : List Parent) × (is_well_formed parents (own_of c) ≡ true) × (map model_relation (each_of (parents_of c)) ≡ map parent_relation parents)

-- so is it, and all that it stands on
abbrev pub AreWell : Closure → Type 0
AreWell c = All IsWell (standing c)
