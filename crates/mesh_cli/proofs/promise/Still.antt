-- Nothing moves within one moment, where sources stay.
use Rattle.std.proofs.Common.{◌≡◌, Bool, true, false, not, ◌&&◌, nat_eq, List, ◌++◌, refl, sym, ap, ◌∙◌, subst}
use Rattle.std.proofs.lemmas.Bool.{eq-eqb}
use Rattle.mesh_base_values.specs.Bag.{times}
use Rattle.mesh_base_values.specs.declared.kinds.Kind.{Kind}
use Rattle.mesh_base_values.specs.declared.kinds.Kind.TheVariants.{Full, View, Seed, Incremental}
use Rattle.mesh_base_values.specs.declared.times.Bounds.{Bounds}
use Rattle.mesh_base_values.specs.declared.values.Cell.{Cell}
use Rattle.mesh_base.specs.declared.forgets.Forget.{Forget}
use Rattle.mesh_base.specs.declared.jobs.Input.{Input}
use Rattle.mesh_base.specs.declared.forgets.Forget.TheVariants.{Marks, Range}
use Rattle.mesh_base.specs.declared.snapshots.Snapshot.{Snapshot}
use Rattle.mesh_spec_model.specs.Closures.{standing}
use Rattle.mesh_spec_model.specs.Horizons.{Clock, Shows}
use Rattle.mesh_spec_model.specs.Scratch.{from_scratch, piece}
use Rattle.mesh_law_query.proofs.Lists.{Each}
use Rattle.mesh_house.specs.declared.world.World.{World}
use Rattle.mesh_spec_changes.specs.listed.Closing.{IsSnapshot, closing}
use Rattle.mesh_spec_changes.proofs.listed.Lists.{none_passes, passes}
use Rattle.mesh_spec_changes.specs.Commands as promise
use Rattle.mesh_spec_changes.specs.due.Parts.{Parts, same_name}
use Rattle.mesh_janitor.proofs.janitor.Books.{its_own, snapshots_ascend}
use Rattle.mesh_spec_promise.specs.Histories.{judged_at, sources_after}
use Rattle.mesh_cli.specs.promise.Kept.{IsStill}
use Rattle.mesh_spec_promise.specs.Moved.{moved, same_bag, unit_moves, whole_moves}
use Rattle.mesh_spec_promise.specs.Sound.{Sound}
use Rattle.mesh_spec_promise.proofs.Crons.{HasCron, closed_crons, one_list, one_piece}

same_bag_itself : (xs : List (List Cell)) → same_bag xs xs ≡ true
same_bag_itself xs = passes (λ row. nat_eq (times row xs) (times row xs)) (xs ++ xs) (λ row h. eq-eqb (times row xs) (times row xs) refl)

never : (a b c : Bool) → c ≡ true → (a && (b && not c)) ≡ false
never true true c e = ap not e
never true false c e = refl
never false b c e = refl

module _ (x : Parts) (w : World) (sound : Sound x w) (clock other : Clock) (is : Shows clock w.book.moment) (too : Shows other w.book.moment) where
  its_crons : (s : Snapshot) → IsSnapshot w.book.snapshots s → Each HasCron (standing (closing w.book.snapshots s))
  its_crons s known = closed_crons w.book.snapshots sound.typed.crons s.rank s known

  unit_stays : (s : Snapshot) → IsSnapshot w.book.snapshots s → (u : Bounds) (kind : Kind) → unit_moves w clock other w.sources s u kind ≡ false
  unit_stays s known u (Incremental time lookback) =
      let c = closing w.book.snapshots s in
      never _ _ (same_bag (piece w.sources clock c u) (piece w.sources other c u))
      (ap (same_bag (piece w.sources clock c u)) (sym (one_piece w.book.moment clock other is too w.sources c (its_crons s known) u)) ∙ same_bag_itself (piece w.sources clock c u))
  unit_stays s known u Full = refl
  unit_stays s known u View = refl
  unit_stays s known u Seed = refl

  whole_stays : (s : Snapshot) → IsSnapshot w.book.snapshots s → (kind : Kind) → whole_moves w clock other w.sources s kind ≡ false
  whole_stays s known Full =
      let c = closing w.book.snapshots s in
      never _ _ (same_bag (from_scratch w.sources clock c) (from_scratch w.sources other c))
      (ap (same_bag (from_scratch w.sources clock c)) (sym (one_list w.book.moment clock other is too w.sources c (its_crons s known))) ∙ same_bag_itself (from_scratch w.sources clock c))
  whole_stays s known (Incremental time lookback) = refl
  whole_stays s known View = refl
  whole_stays s known Seed = refl

  both_false : (a b : Bool) → b ≡ false → (a && b) ≡ false
  both_false true b e = e
  both_false false b e = refl

  pub nothing_moves : (q : Forget) → moved w clock other w.sources q ≡ false
  nothing_moves (Range object start end) =
      none_passes (λ (s : Snapshot). same_name s.object object && unit_moves w clock other w.sources s (record { start = start; end = end }) s.own.kind) w.book.snapshots
      (λ s h. both_false (same_name s.object object) _ (unit_stays s (its_own w.book.snapshots (snapshots_ascend w.book sound.book.well_formed) s h) (record { start = start; end = end }) s.own.kind))
  nothing_moves (Marks object) =
      none_passes (λ (s : Snapshot). same_name s.object object && whole_moves w clock other w.sources s s.own.kind) w.book.snapshots
      (λ s h. both_false (same_name s.object object) _ (whole_stays s (its_own w.book.snapshots (snapshots_ascend w.book sound.book.well_formed) s h) s.own.kind))

-- so through a command that raises no moment and loads no source nothing comes out otherwise
pub within_moment : (x : Parts) (w : World) → Sound x w → (k : promise.Command) → judged_at w k ≡ w.book.moment → sources_after w k ≡ w.sources → (clock : Clock) → Shows clock w.book.moment → IsStill w k
within_moment x w sound k at same clock shows = record {
  before = clock;
  after = clock;
  was = shows;
  is = subst (Shows clock) (sym at) shows;
  still = λ q. ap (λ (l : List Input). moved w clock clock l q) same ∙ nothing_moves x w sound clock clock shows shows q;
}
