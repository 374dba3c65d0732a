use Rattle.std.proofs.Common.{sym, ◌∙◌, arith}
use Rattle.mesh_canon_reading.specs.Reading.{sets_of}
use Rattle.mesh_canon_reading.proofs.Crons.{cron_bounds}
use Rattle.mesh_canon_reading.proofs.cron_reading.made.Goals as goal

pub overflow_cast-result : goal.overflow_cast-result
overflow_cast-result c =
    let b = cron_bounds (sets_of c.args.fields.now) (sym c.is_cron.ensures ∙ c.if-not-is_cron.false) in
    omega (arith, b.0)

pub overflow_cast-result-2 : goal.overflow_cast-result-2
overflow_cast-result-2 c =
    let b = cron_bounds (sets_of c.args.fields.now) (sym c.is_cron.ensures ∙ c.if-not-is_cron.false) in
    omega (arith, b.1)

pub overflow_cast-result-3 : goal.overflow_cast-result-3
overflow_cast-result-3 c =
    let b = cron_bounds (sets_of c.args.fields.now) (sym c.is_cron.ensures ∙ c.if-not-is_cron.false) in
    omega (arith, b.2)

pub overflow_cast-result-4 : goal.overflow_cast-result-4
overflow_cast-result-4 c =
    let b = cron_bounds (sets_of c.args.fields.now) (sym c.is_cron.ensures ∙ c.if-not-is_cron.false) in
    omega (arith, b.3)
