use Rattle.std.proofs.Common.{◌≡◌, ◌∙◌, ap, arith}
use Rattle.mesh_base_values.specs.Crons.{count_below, has}
use Rattle.mesh_canon_reading.proofs.cron_reading.count.Goals as goal

pub returns : goal.returns
returns c =
    let all : c.loop-value.value ≡ 60 = omega arith in
    c.loop-value.invariant.0 ∙ ap (count_below (has c.args.set)) all
