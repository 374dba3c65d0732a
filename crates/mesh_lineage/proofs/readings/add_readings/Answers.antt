use Rattle.std.proofs.Common.{ℕ, ◌+◌, ◌≤◌, List, ◌++◌, take, length, slice_index_or, ap, sym, subst, ◌∙◌, arith}
use Rattle.std.specs.Borrow.{Bor}
use Rattle.std.specs.List.{flat_map}
use Rattle.std.proofs.lemmas.List.Folds.{flat_map-map}
use Rattle.mesh_base.specs.declared.definitions.Reading.{Reading}
use Rattle.mesh_law_query.specs.Reads.{reading_at}
use Rattle.mesh_lineage.specs.Alike.{IsAlike}
use Rattle.mesh_lineage.specs.Named.{place_of}
use Rattle.mesh_lineage.proofs.Alike.{all_taken, before, equal_alike, once_more, one_more}
use Rattle.mesh_lineage.proofs.readings.add_readings.Goals.{then-not-is_again+in_ok-add_reading, else-not-is_again}
use Rattle.mesh_lineage.proofs.readings.add_readings.Goals as goal

pub loop-i-preserved : goal.loop-i-preserved
loop-i-preserved c =
    let places = c.args.places.now in
    let f : ℕ × Bor (List ℕ) → List Reading = λ p. reading_at c.args.from.now (place_of p) in
    let old = c.args.made.now in
    let i = c.loop-i.i in
    let x = c.index-places-i.result in
    let most : i ≤ length places = omega (arith, c.loop-i-test.true) in
    elim c.if-not-is_again.branch [
      | then-not-is_again+in_ok-add_reading w ↦
          subst (λ m. IsAlike m (old ++ flat_map f (take (i + 1) places))) (sym w.made-is)
          (one_more f places i x old c.loop-i.made w.add_reading.new.made c.loop-i-test.true c.index-places-i.is c.loop-i.invariant
          (equal_alike w.add_reading.new.made (c.loop-i.made ++ f x) w.in_ok-add_reading.ensures))
      | else-not-is_again w ↦
          let (k, lt, same) = c.is_again.ensures w.if-not-is_again.false in
          subst (λ m. IsAlike m (old ++ flat_map f (take (i + 1) places))) (sym w.made-is)
          (once_more f places i x (slice_index_or places k x) old c.loop-i.made c.loop-i-test.true c.index-places-i.is (before places i k x lt most)
          (ap (reading_at c.args.from.now) (same x) ∙ ap f (sym c.index-places-i.is)) c.loop-i.invariant)
    ]

pub returns : goal.returns
returns c =
    let from = c.args.from.now in
    let places = c.args.places.now in
    let old = c.args.made.now in
    subst (λ l. IsAlike c.loop-i.made (old ++ l)) (sym (flat_map-map (reading_at from) place_of places))
    (all_taken (λ p. reading_at from (place_of p)) places c.loop-i.i old c.loop-i.made c.loop-i-test.false c.loop-i.invariant)
