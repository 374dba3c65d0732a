use Rattle.std.proofs.Common.{rules, w64, FitsSigned}
use Rattle.std.proofs.lemmas.Int.{to_z-of_z}
use Rattle.mesh_plan_due.proofs.Ticks.{its_last_tick}
use Rattle.mesh_plan_due.proofs.horizons.last_tick.Goals as goal

pub returns-clause-tick : goal.returns-clause-tick
returns-clause-tick c clock s =
    let fits : FitsSigned w64 c.floored.result = search rules in
    let t_fits : FitsSigned w64 c.args.t = search rules in
    let tick_fits : FitsSigned w64 c.floor-tick.result = search rules in
    simp to_z-of_z (its_last_tick clock c.args.own.now c.args.t c.floor-tick.result c.floored.result c.rule.ensures (simp to_z-of_z at c.floor-tick.ensures) (simp to_z-of_z at c.floored.ensures.value) s)
