use Rattle.std.proofs.Common.{length, ap, ◌∙◌}
use Rattle.std.specs.Prelude.{min}
use Rattle.mesh_exec_works.specs.Plain.{plain_models}
use Rattle.mesh_exec.proofs.Fronting.{cut_at, cut_fits, parts_more}
use Rattle.mesh_exec.proofs.fronts.push_parts.Goals as goal

pub push_part-requires-clause-cut : goal.push_part-requires-clause-cut
push_part-requires-clause-cut c = cut_at c.args.cuts.now c.loop-cut.cut-index c.cut-item.result c.requires.each c.loop-cut-test.true c.cut-item.is

pub push_part-requires-clause-fit : goal.push_part-requires-clause-fit
push_part-requires-clause-fit c = cut_fits c.args.cuts.now c.loop-cut.cut-index c.cut-item.result c.requires.fit c.loop-cut-test.true c.cut-item.is

pub loop-cut-preserved : goal.loop-cut-preserved
loop-cut-preserved c pools many rows_are =
    let so_far = c.loop-cut.invariant pools many rows_are in
    parts_more (plain_models c.args.nodes.now c.args.entries.now) c.args.cuts.now pools c.loop-cut.cut-index c.cut-item.result c.loop-cut.rest.now c.split_at.result.0.now c.split_at.result.1.now c.min.result c.loop-cut.changes c.push_part.new.changes _
    c.loop-cut-test.true c.cut-item.is many so_far.0 so_far.1 (c.min.ensures ∙ ap (λ k. min k (length c.loop-cut.rest.now)) c.len.ensures) c.split_at.ensures.front c.split_at.ensures.back c.in_ok-push_part.ensures
