use Rattle.std.proofs.Common.{◌≡◌, ◌++◌, drop}
use Rattle.mesh_cli_values.specs.scripts.Scripts.{lines, lines_from}
use Rattle.mesh_cli.proofs.cli.script.lines_of.Given as goal

-- the lines so far, and those of the bytes that are left
abbrev pub invariant-loop-b : goal.invariant-loop-b
invariant-loop-b l = lines l.script ≡ l.lines.items ++ lines_from l.line.items (drop l.b-index l.script)
