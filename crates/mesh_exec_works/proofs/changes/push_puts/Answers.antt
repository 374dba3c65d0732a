use Rattle.std.proofs.Common.{◌+◌, drop, w64, to_z, of_z, ap}
use Rattle.mesh_house.specs.declared.world.Change.TheVariants.{PutSnapshot}
use Rattle.mesh_spec_changes.specs.Changes.{snapshot_of}
use Rattle.mesh_exec_works.specs.Plain.{model_of, plain_models, puts_of}
use Rattle.mesh_exec_works.proofs.Pushed.{next_pushed, plain_next, pushed_one}
use Rattle.mesh_exec_works.proofs.changes.push_puts.Goals as goal

pub loop-i-preserved : goal.loop-i-preserved
loop-i-preserved c =
    let ns = c.args.nodes.now in
    let es = c.args.entries.now in
    let all = plain_models ns es in
    let t = to_z w64 (of_z w64 c.args.t) in
    let i = c.loop-i.i in
    let n = c.index-nodes-i.result in
    let e = c.in-Some.entry.now in
    let here = c.in-Some.ensures.lookup in
    next_pushed c.loop-i.changes c.push_made.new.list (PutSnapshot (snapshot_of t all (model_of n e))) (puts_of t all (plain_models (drop (i + 1) ns) (drop (i + 1) es))) (puts_of t all (plain_models (drop i ns) (drop i es))) _
    (pushed_one _ _ _ c.put_change.result c.put_change.ensures c.in_ok-push_made.ensures) (ap (puts_of t all) (plain_next ns es i n e c.loop-i-test.true c.index-nodes-i.is here.3.0 here.1)) c.loop-i.invariant
