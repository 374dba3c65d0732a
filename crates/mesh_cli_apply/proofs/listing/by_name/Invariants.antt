use Rattle.std.proofs.Common.{◌≡◌, ◌≤◌, length, drop}
use Rattle.mesh_cli_apply.specs.Listing.{as_targets, targets}
use Rattle.mesh_cli_apply.proofs.listing.by_name.Given as goal

abbrev pub invariant-loop-left : goal.invariant-loop-left
invariant-loop-left l = (l.left ≤ length l.nodes) × (l.left ≤ length l.entries) × (as_targets l.made.entries ≡ targets (drop l.left l.nodes) (drop l.left l.entries))

abbrev pub decreases-loop-left : goal.decreases-loop-left
decreases-loop-left l = l.left
