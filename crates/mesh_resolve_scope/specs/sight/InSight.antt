-- What a `Sight` is seen as.
use Rattle.std.specs.Prelude.{Bool, List}
use Rattle.mesh_resolve_scope.specs.declared.sight.sight.Seen.{Seen}

-- the FROM items in their order, and whether macros may stand
pub record Sight : Type 0 where
  pub from : List Seen
  pub macros : Bool
