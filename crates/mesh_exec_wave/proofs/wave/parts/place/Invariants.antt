use Rattle.std.proofs.Common.{◌≡◌, length}
use Rattle.mesh_exec_wave.specs.wave.Workers.{placed}
use Rattle.mesh_exec_wave.proofs.wave.parts.place.Given as goal

abbrev pub invariant-loop-part : goal.invariant-loop-part
invariant-loop-part l = (l.slots.items ≡ placed l.initial.slots.items l.yielded) × (length l.slots.items ≡ length l.initial.slots.items)
