use Rattle.std.proofs.Common.{◌≡◌, ◌++◌, take}
use Rattle.mesh_cli_print.specs.faults.Lines.{names_text}
use Rattle.mesh_cli_print.proofs.faults.pieces.put_names.Given as goal

abbrev pub invariant-loop-name : goal.invariant-loop-name
invariant-loop-name l = l.out.items ≡ l.initial.out.items ++ names_text (take l.name-index l.names)
