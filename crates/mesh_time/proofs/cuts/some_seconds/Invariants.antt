use Rattle.std.proofs.Common.{◌≡◌, take, filter}
use Rattle.std.specs.Int.Signed.{lt_z}
use Rattle.mesh_time.proofs.cuts.some_seconds.Given as goal

abbrev pub invariant-loop-span : goal.invariant-loop-span
invariant-loop-span l = l.all.items ≡ filter (λ b. lt_z b.start b.end) (take l.span-index l.gone)
