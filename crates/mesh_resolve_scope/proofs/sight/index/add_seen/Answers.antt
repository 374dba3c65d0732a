use Rattle.std.proofs.Common.{arith}
use Rattle.mesh_resolve_scope.proofs.sight.Soles.{one_more_seen}
use Rattle.mesh_resolve_scope.proofs.sight.index.add_seen.Goals as goal

pub returns-clause-indexed : goal.returns-clause-indexed
returns-clause-indexed c =
    one_more_seen c.args.from.now.items c.push.new.self.items c.args.seen c.len.result c.args.columns.now c.add_columns.new.index c.args.places.now c.add.new.index
    c.requires (omega arith) c.in_ok-push.ensures.items c.in_ok-add_columns.ensures c.in_ok-add.ensures
