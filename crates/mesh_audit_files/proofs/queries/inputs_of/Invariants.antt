use Rattle.std.proofs.Common.{◌≡◌, map, take}
use Rattle.mesh_project.specs.nodes.Nodes.{input_of}
use Rattle.mesh_audit_files.proofs.queries.inputs_of.Given as goal

abbrev pub invariant-loop-n : goal.invariant-loop-n
invariant-loop-n l = l.inputs ≡ map input_of (take l.n-index l.nodes)
