use Rattle.mesh_project.specs.nodes.Apart.{names_of}
use Rattle.mesh_project.proofs.nodes.Alone.{apart_is}
use Rattle.mesh_project.proofs.nodes.apart.are_apart.Goals as goal

pub returns-clause-gives : goal.returns-clause-gives
returns-clause-gives c =
    apart_is c.in_ok-taken.taken c.as_slice.result.now c.args.files.now.sources c.as_slice-2.result.now c.args.files.now.models (names_of c.take_names.new.taken) c.take_names.result
    c.as_slice.ensures c.as_slice-2.ensures c.in_ok-taken.ensures c.take_names.ensures.leads
