use Rattle.std.proofs.Common.{◌≡◌, ℤ, ◌++◌, arith, ◌∙◌, FitsSigned, w64, to_z, of_z}
use Rattle.std.specs.List.{flat_map}
use Rattle.std.proofs.lemmas.Int.{ints}
use Rattle.std.proofs.lemmas.List.{take_all}
use Rattle.mesh_janitor.specs.janitor.Walk.{deletes_of, goes}
use Rattle.mesh_janitor.proofs.janitor.changes.push_layer.Goals as goal

-- the moment fits where it lies
whole : (t : ℤ) → FitsSigned w64 t → to_z w64 (of_z w64 t) ≡ t
whole t f = omega (arith, ints)

pub returns : goal.returns
returns c =
    c.loop-s.invariant
    ∙ (λ i. c.args.changes.now ++ flat_map (deletes_of (goes (whole c.args.t c.ranges.t i) c.args.wanted.now) c.args.rank) (take_all c.loop-s.s-index c.args.all.now (omega (arith, c.loop-s.auto.s-index-end)) i))
