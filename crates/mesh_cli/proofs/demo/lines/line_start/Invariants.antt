use Rattle.std.proofs.Common.{◌≡◌, ◌≤◌}
use Rattle.mesh_cli.specs.demo.Lines.{line_start}
use Rattle.mesh_cli.proofs.demo.lines.line_start.Given as goal

-- no line feed stands between here and the end
abbrev pub invariant-loop-at : goal.invariant-loop-at
invariant-loop-at l = (l.at ≤ l.end) × (line_start l.text l.end ≡ line_start l.text l.at)

abbrev pub decreases-loop-at : goal.decreases-loop-at
decreases-loop-at l = l.at
