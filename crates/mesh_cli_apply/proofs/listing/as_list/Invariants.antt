use Rattle.std.proofs.Common.{◌≡◌}
use Rattle.mesh_cli_apply.specs.Listing.{as_targets}
use Rattle.mesh_cli_apply.proofs.listing.as_list.Given as goal

abbrev pub invariant-loop-name : goal.invariant-loop-name
invariant-loop-name l = l.made ≡ as_targets l.yielded
