use Rattle.mesh_exec_works.specs.Plain.{plain_models}
use Rattle.mesh_exec_works.specs.Works.{part_of}
use Rattle.mesh_exec.proofs.Models.{object_stops, part_ok, part_stops_there, sum_stops}
use Rattle.mesh_exec.proofs.making.make_part.Goals as goal

pub returns-in_err-made : goal.returns-in_err-made
returns-in_err-made g c = object_stops (plain_models c.args.nodes.now c.args.entries.now) (part_of c.args.work.now) _ _ _ c.from_residual.result c.in_err-made.ensures.makes c.from_residual.ensures.1

pub returns-in_err-filled : goal.returns-in_err-filled
returns-in_err-filled g c =
    part_stops_there (plain_models c.args.nodes.now c.args.entries.now) (part_of c.args.work.now) _ _ _ c.in_ok-made.made _ c.from_residual-in_err-filled.result c.in_ok-made.ensures.makes c.in_err-filled.ensures c.from_residual-in_err-filled.ensures.1

pub returns-in_err-sum : goal.returns-in_err-sum
returns-in_err-sum g c =
    sum_stops (plain_models c.args.nodes.now c.args.entries.now) (part_of c.args.work.now) _ _ _ c.in_ok-made.made c.in_ok-filled.filled c.from_residual-in_err-sum.result c.in_ok-made.ensures.makes c.in_ok-filled.ensures c.from_residual-in_err-sum.ensures.1

pub returns : goal.returns
returns g c =
    part_ok (plain_models c.args.nodes.now c.args.entries.now) (part_of c.args.work.now) _ _ _ c.in_ok-made.made c.in_ok-filled.filled c.in_ok-sum.sum c.in_ok-made.ensures.makes c.in_ok-made.ensures.number c.in_ok-made.ensures.calls c.in_ok-filled.ensures c.in_ok-sum.ensures
