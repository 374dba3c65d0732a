-- The names that sources have.
use Rattle.std.specs.Prelude.{Bool, not, List}
use Rattle.std.specs.List.{list_all}
use Rattle.mesh_base.specs.declared.jobs.Input.{Input}
use Rattle.mesh_house.specs.Objects.{is_physical}

-- each source has a name that no object may have
abbrev pub are_plain : List Input → Bool
are_plain sources = list_all (λ s. not (is_physical s.name)) sources
