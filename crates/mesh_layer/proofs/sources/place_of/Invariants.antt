use Rattle.std.proofs.Common.{◌≡◌, ◌+◌, drop}
use Rattle.std.specs.Option.{option_map}
use Rattle.mesh_layer.specs.Places.{place_of}
use Rattle.mesh_layer.proofs.sources.place_of.Given as goal

-- the place is among what is left
abbrev pub invariant-loop-i : goal.invariant-loop-i
invariant-loop-i l = option_map (λ k. l.i + k) (place_of (drop l.i l.columns) l.name) ≡ place_of l.columns l.name
