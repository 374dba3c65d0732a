use Rattle.std.proofs.Common.{◌∙◌, sym}
use Rattle.mesh_base_values.specs.Crons.{has}
use Rattle.mesh_canon_reading.proofs.Below.{some_from, some_more, some_none}
use Rattle.mesh_canon_reading.proofs.cron_reading.has_some.Goals as goal

pub loop-value-init : goal.loop-value-init
loop-value-init c = some_none _

pub returns-then-has : goal.returns-then-has
returns-then-has c =
    sym (some_from (has c.args.set) c.args.count c.loop-value.value c.loop-value-test.true (sym c.has.ensures ∙ c.if-has.true))

pub loop-value-preserved : goal.loop-value-preserved
loop-value-preserved c =
    some_more (has c.args.set) c.loop-value.value c.loop-value.invariant (sym c.has.ensures ∙ c.if-has.false)
