use Rattle.std.proofs.Common.{[], sym, ◌∙◌, arith}
use Rattle.mesh_query_tokens.specs.bounds.Paths.{file_from}
use Rattle.mesh_query_tokens.proofs.bounds.PathSteps.{byte_read, byte_refused, all_read}
use Rattle.mesh_query_tokens.proofs.bounds.paths.file_from.Goals as goal

pub returns-in_default : goal.returns-in_default
returns-in_default c =
    byte_refused c.args.path.now c.loop-i.i c.loop-i.folder c.loop-i.part (file_from c.args.folder [] c.args.path.now)
    c.loop-i-test.true (sym c.in_ok-next.ensures ∙ c.in_default.is) c.loop-i.invariant

pub loop-i-preserved : goal.loop-i-preserved
loop-i-preserved c =
    byte_read c.args.path.now c.loop-i.i c.loop-i.folder c.loop-i.part c.in-Some.next c.in-Some.more (file_from c.args.folder [] c.args.path.now)
    c.loop-i-test.true (sym c.in_ok-next.ensures ∙ c.in-Some.is) c.loop-i.invariant

pub returns : goal.returns
returns c =
    let all = all_read c.args.path.now c.loop-i.i c.loop-i.folder c.loop-i.part (file_from c.args.folder [] c.args.path.now) (omega arith) c.loop-i.invariant in
    rw (sym all) (rw (c.as_slice.ensures) at c.file_in.ensures)
