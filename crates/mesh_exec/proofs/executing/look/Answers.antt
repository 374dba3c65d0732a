use Rattle.std.proofs.Common.{map}
use Rattle.mesh_exec_works.specs.Works.{part_of}
use Rattle.mesh_exec.proofs.Whole.{look_clear, look_lacks, look_stops}
use Rattle.mesh_exec.proofs.executing.look.Goals as goal

pub returns-in_err-found : goal.returns-in_err-found
returns-in_err-found g c = look_stops (map part_of c.args.works.now) _ _ _ c.from_residual.result c.in_err-found.ensures c.from_residual.ensures.1

pub returns-in-None : goal.returns-in-None
returns-in-None g c = look_clear (map part_of c.args.works.now) _ _ _ c.in_ok-found.found c.in-None.is c.in_ok-found.ensures

pub returns-in-Some : goal.returns-in-Some
returns-in-Some g c = look_lacks (map part_of c.args.works.now) _ _ c.in-Some.lack c.in_ok-found.found c.in-Some.is c.in_ok-found.ensures
