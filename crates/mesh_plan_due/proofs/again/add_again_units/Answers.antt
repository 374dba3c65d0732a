use Rattle.std.proofs.Common.{◌++◌, map, ap, sym, ◌∙◌, append-nil}
use Rattle.std.specs.Option.{option_copied}
use Rattle.mesh_spec_changes.specs.due.Parts.{unit_of}
use Rattle.mesh_time.specs.Ranges.{units}
use Rattle.mesh_plan_due.specs.Stands.{units_again}
use Rattle.mesh_plan_due.proofs.Near.{nothing_again}
use Rattle.mesh_plan_due.proofs.again.add_again_units.Goals as goal

pub returns-then-lookback-eq0 : goal.returns-then-lookback-eq0
returns-then-lookback-eq0 c =
    let a = c.if-not-named.true in
    let b = c.if-lookback-eq0.true in
    let units_are = (λ i. units_again (b i) (a i) (option_copied c.args.restate) c.args.spans.now (units c.args.schedule.now)) ∙ nothing_again (option_copied c.args.restate) c.args.spans.now (units c.args.schedule.now) in
    sym (ap (λ l. c.args.forgets.now ++ map (unit_of c.args.object.now) l) units_are ∙ append-nil c.args.forgets.now)
