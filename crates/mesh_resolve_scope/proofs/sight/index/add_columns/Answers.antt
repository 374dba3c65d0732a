use Rattle.mesh_resolve_scope.proofs.sight.Soles.{one_more_column}
use Rattle.mesh_resolve_scope.proofs.sight.index.add_columns.Goals as goal

pub loop-c-preserved : goal.loop-c-preserved
loop-c-preserved c = one_more_column c.args.index.now c.loop-c.index c.add.new.index c.args.seen.now c.as_slice-c-items.result.now c.loop-c.c-index c.c-item.result c.loop-c-test.true c.c-item.is c.loop-c.invariant c.in_ok-add.ensures
