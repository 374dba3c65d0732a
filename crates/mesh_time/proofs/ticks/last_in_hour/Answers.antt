use Rattle.std.proofs.Common.{◌∙◌, ap, sym, arith}
use Rattle.mesh_base_values.specs.Crons.{has, CronSets}
use Rattle.mesh_time.proofs.TickLaws.{hour_off}
use Rattle.mesh_time.proofs.ticks.last_in_hour.Goals as goal

pub returns-then-not-contains-clause-quiet : goal.returns-then-not-contains-clause-quiet
returns-then-not-contains-clause-quiet c = λ n low high. hour_off _ n c.args.hour (omega arith)
    (ap (λ (sets : CronSets). has sets.hour c.args.hour) (sym c.c.view_is) ∙ sym c.contains.ensures ∙ c.if-not-contains.true)
