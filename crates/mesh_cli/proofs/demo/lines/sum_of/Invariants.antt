use Rattle.std.proofs.Common.{◌≡◌, ◌+ℤ◌, drop}
use Rattle.mesh_cli.specs.demo.Lines.{sum_of}
use Rattle.mesh_cli.proofs.demo.lines.sum_of.Given as goal

-- the sum so far, with that of the rows that are left
abbrev pub invariant-loop-row : goal.invariant-loop-row
invariant-loop-row l = (l.sum +ℤ sum_of (drop l.row-index l.rows)) ≡ sum_of l.rows
