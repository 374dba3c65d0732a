use Rattle.mesh_exec_works.specs.Plain.{plain_models}
use Rattle.mesh_exec.proofs.Nexts.{some_more, some_stop, some_within, sum_stops_there}
use Rattle.mesh_exec.proofs.making.make_parts.Goals as goal

pub returns-in_err-next : goal.returns-in_err-next
returns-in_err-next g c =
    some_stop (plain_models c.args.nodes.now c.args.entries.now) c.args.works.now c.loop-at.at c.split_at.result.1.now c.split_at.ensures.back c.loop-at.made _ _ _ _ c.from_residual.result c.loop-at.invariant.so_far c.in_err-next.ensures c.from_residual.ensures.1

pub returns-in_err-made : goal.returns-in_err-made
returns-in_err-made g c =
    sum_stops_there (plain_models c.args.nodes.now c.args.entries.now) c.args.works.now c.loop-at.at c.split_at.result.1.now c.split_at.ensures.back c.in_ok-next.next c.loop-at.made _ _ _ c.from_residual-in_err-made.result c.loop-at.invariant.so_far c.in_ok-next.ensures c.from_residual-in_err-made.ensures.1

pub loop-at-preserved : goal.loop-at-preserved
loop-at-preserved g c = record {
  within = some_within (plain_models c.args.nodes.now c.args.entries.now) c.args.works.now c.loop-at.at c.split_at.result.1.now c.split_at.ensures.back c.in_ok-next.next.models c.loop-at.invariant.within c.in_ok-next.ensures.within;
  so_far = some_more (plain_models c.args.nodes.now c.args.entries.now) c.args.works.now c.loop-at.at c.split_at.result.1.now c.split_at.ensures.back c.in_ok-next.next c.loop-at.made c.in_ok-made.made _ _ _ c.loop-at.invariant.so_far c.in_ok-next.ensures c.in_ok-made.ensures;
}
