use Rattle.std.proofs.Common.{◌++◌, [], ◌∷◌, sym, ap, ◌∙◌, arith}
use Rattle.mesh_keep.specs.Places.{records_of}
use Rattle.mesh_keep.proofs.Written.{records_more}
use Rattle.mesh_keep.proofs.writing.records_of.Goals as goal

pub loop-record-preserved : goal.loop-record-preserved
loop-record-preserved c =
    let k = c.record-item.result in
    c.in_ok-push_of.ensures ∙ ap (λ rs. rs ++ records_of c.args.kind (k ∷ [])) c.loop-record.invariant ∙ sym (records_more c.args.kind c.args.kept.now c.loop-record.record-index k (omega arith) c.record-item.is)
