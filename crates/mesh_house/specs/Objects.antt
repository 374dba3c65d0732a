-- The names that objects have.
use Rattle.std.specs.Prelude.{Bool, List}
use Rattle.std.specs.List.{list_all}
use Rattle.mesh_base_values.specs.declared.values.Name.{Name}
use Rattle.mesh_base_values.specs.Names.{has_two_underscores}
use Rattle.mesh_house.specs.declared.objects.Object.{Object}

-- objects are found by their names
abbrev pub object_name : Object → Name
object_name o = o.name

-- whether an object may have this name: two underscores adjoin in its schema
abbrev pub is_physical : Name → Bool
is_physical name = has_two_underscores name.schema

-- each object has a name that it may have
abbrev pub are_physical : List Object → Bool
are_physical objects = list_all (λ o. is_physical o.name) objects
