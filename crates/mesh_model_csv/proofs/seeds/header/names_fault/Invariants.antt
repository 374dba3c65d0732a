use Rattle.std.proofs.Common.{◌≡◌, take}
use Rattle.mesh_model_csv.specs.seeds.Headers.{header_fault}
use Rattle.mesh_model_csv.proofs.seeds.HeaderSteps.{fault_from}
use Rattle.mesh_model_csv.proofs.seeds.header.names_fault.Given as goal

abbrev pub invariant-loop-i : goal.invariant-loop-i
invariant-loop-i l = fault_from (take l.i l.names) l.i l.header ≡ header_fault l.header
