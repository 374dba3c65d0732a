use Rattle.mesh_spec_changes.proofs.Migrating.{closure_moves, lists_move}
use Rattle.mesh_spec_changes.proofs.laws.migrating_keeps_closures.Goals as goal

pub returns-clause-snapshots : goal.returns-clause-snapshots
returns-clause-snapshots c = λ b renames well fine r s e. closure_moves b well renames fine r s e

pub returns-clause-lists : goal.returns-clause-lists
returns-clause-lists c = λ b renames well fine. lists_move b well renames fine
