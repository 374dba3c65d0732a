use Rattle.std.proofs.Common.{[], map}
use Rattle.mesh_janitor.specs.migrate.Walk.{layers, limit_from, rename_at}
use Rattle.mesh_janitor.proofs.migrate.Put.{walk_makes_the_map}
use Rattle.mesh_janitor.proofs.migrate.laws.a_book_has_a_map.Goals as goal

pub returns : goal.returns
returns c = λ b well. (map (rename_at (layers (limit_from 0 b.snapshots) b.snapshots [])) b.snapshots, walk_makes_the_map b well [])
