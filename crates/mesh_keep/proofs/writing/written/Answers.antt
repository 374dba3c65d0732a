use Rattle.std.proofs.Common.{sym, ap, ◌∙◌, arith, add-one}
use Rattle.mesh_keep.specs.Places.{write_one}
use Rattle.mesh_keep.proofs.Written.{written_more}
use Rattle.mesh_keep.proofs.writing.written.Goals as goal

pub loop-write-preserved : goal.loop-write-preserved
loop-write-preserved c =
    let w = c.write-item.result in
    rw add-one (c.in_ok-write_one.ensures ∙ ap (λ r. write_one r w) c.loop-write.invariant ∙ sym (written_more c.args.kept.now c.args.writes.now c.loop-write.write-index w (omega arith) c.write-item.is))
