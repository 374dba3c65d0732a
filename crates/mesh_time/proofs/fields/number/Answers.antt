use Rattle.std.proofs.Common.{◌∙◌, sym, refl, arith}
use Rattle.mesh_time.specs.CronText.{number}
use Rattle.mesh_time.proofs.FieldLaws.{number_step}
use Rattle.mesh_time.proofs.fields.number.Goals as goal

pub loop-byte-init : goal.loop-byte-init
unfolding number
loop-byte-init c = (refl, omega arith)

pub loop-byte-preserved : goal.loop-byte-preserved
loop-byte-preserved c =
    (sym (number_step c.args.text.now c.loop-byte.byte-index c.loop-byte.value c.min-value.result (omega arith) (omega arith)) ∙ c.loop-byte.invariant.0, omega arith)
