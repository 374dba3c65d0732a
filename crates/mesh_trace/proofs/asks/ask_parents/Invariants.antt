use Rattle.std.proofs.Common.{◌≡◌, take}
use Rattle.mesh_trace.specs.Asks.{asked_parents}
use Rattle.mesh_trace.proofs.asks.ask_parents.Given as goal

abbrev pub invariant-loop-place : goal.invariant-loop-place
invariant-loop-place l = l.asks.items ≡ asked_parents l.nodes l.needed l.initial.asks.items (take l.place-index l.parents)
