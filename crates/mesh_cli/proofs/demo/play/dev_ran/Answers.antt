use Rattle.std.proofs.Common.{codes}
use Rattle.mesh_cli_apply.specs.Applying.{RunGives, RunMakes}
use Rattle.mesh_cli.specs.demo.Demos.{Counted, dev, late, units_of}
use Rattle.mesh_cli.proofs.demo.Playing.{at_value, ended_by, went_on}
use Rattle.mesh_cli.proofs.demo.play.dev_ran.Goals as goal

pub returns-in-Err : goal.returns-in-Err
returns-in-Err g c = ended_by (RunMakes dev late) (RunGives dev late) (units_of (codes "run dev: ")) Counted c.args.house.now c.run.new.house c.look.ensures c.in-Err.refusal _
    (at_value (λ e. RunMakes e late) (λ e. RunGives e late) _ _ _ _ dev c.in_ok-env.ensures c.in-Err.ensures) c.ended.ensures

pub returns : goal.returns
returns g c = went_on (RunMakes dev late) (RunGives dev late) (units_of (codes "run dev: ")) Counted c.args.house.now c.run.new.house c.look.ensures c.in-Ok.answer _ _
    (at_value (λ e. RunMakes e late) (λ e. RunGives e late) _ _ _ _ dev c.in_ok-env.ensures c.in-Ok.ensures) c.counted-rest.ensures c.with_units.ensures
