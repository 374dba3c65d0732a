use Rattle.std.proofs.Common.{◌≡◌, ◌≤◌, drop, length}
use Rattle.mesh_io.specs.Files.{listing}
use Rattle.mesh_io.proofs.files.list_below.Given as goal

abbrev pub invariant-loop-at : goal.invariant-loop-at
invariant-loop-at l = record {
  so_far : l.paths.items ≡ listing l.dir (drop l.at l.files);
  within : l.at ≤ length l.files;
}

abbrev pub decreases-loop-at : goal.decreases-loop-at
decreases-loop-at l = l.at
