use Rattle.std.proofs.Common.{rules, w64, nat_lt, length, ap, sym, ◌∙◌, FitsSigned}
use Rattle.std.proofs.lemmas.Int.{to_z-of_z}
use Rattle.mesh_plan_due.proofs.Units.{units_counted}
use Rattle.mesh_plan_due.proofs.long.is_too_long.Goals as goal

pub returns : goal.returns
returns c =
    let fits : FitsSigned w64 c.args.horizon = search rules in
    ap (nat_lt 200_000) (c.unit_count.ensures ∙ sym (units_counted c.schedule_of-schedule.result) ∙ ap length (simp to_z-of_z at c.schedule_of-schedule.ensures.units))
