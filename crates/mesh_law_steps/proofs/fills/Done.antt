-- Where all that is to be recorded of a model is, and nothing but its object has changed, it is done.
use Rattle.std.proofs.Common.{◌≡◌, Bool, true, false, not, ◌&&◌, ◌||◌, List, [], ◌∷◌, Some, refl, sym, ◌∙◌, ap, subst, IsSome, IsTrue}
use Rattle.std.specs.List.{Contains}
use Rattle.mesh_base_values.specs.declared.kinds.Kind.{Kind}
use Rattle.mesh_base_values.specs.declared.kinds.Kind.TheVariants.{Full, View, Seed, Incremental}
use Rattle.mesh_base_values.specs.declared.times.Bounds.{Bounds}
use Rattle.mesh_base_values.specs.declared.values.Name.{Name}
use Rattle.mesh_base.specs.declared.definitions.Own.{Own}
use Rattle.mesh_base.specs.declared.forgets.Forget.{Forget}
use Rattle.mesh_base.specs.declared.forgets.Forget.TheVariants.{Marks}
use Rattle.mesh_base.specs.declared.snapshots.Snapshot.{Snapshot}
use Rattle.mesh_time.specs.Ranges.{is_held}
use Rattle.mesh_house_book.specs.declared.book.Book.{Book}
use Rattle.mesh_house_book.specs.declared.versions.Version.{Version}
use Rattle.mesh_house_book.specs.WellFormed.{snapshot_at}
use Rattle.mesh_spec_model.specs.Closures.{Closure}
use Rattle.mesh_spec_model.specs.Horizons.{Clock, schedule}
use Rattle.mesh_house.specs.declared.world.Change.{Change}
use Rattle.mesh_house.specs.declared.world.World.{World}
use Rattle.mesh_house.specs.Step.{run}
use Rattle.mesh_house.specs.World.{version_of}
use Rattle.mesh_spec_changes.specs.listed.Closing.{closing}
use Rattle.mesh_spec_changes.specs.due.Dues.{due}
use Rattle.mesh_spec_changes.specs.due.Marks.{marks}
use Rattle.mesh_spec_changes.specs.due.Parts.{Parts, unit_of}
use Rattle.mesh_spec_changes.specs.due.Plans.{Planned}
use Rattle.mesh_spec_changes.specs.Changes.{fills, planned_ref}
use Rattle.mesh_spec_promise.specs.Current.{IsDone, IsRecorded}
use Rattle.mesh_spec_promise.specs.Histories.{left, taken_by}
use Rattle.mesh_law_changes.specs.along.Along.{StaysAlong}
use Rattle.mesh_law_changes.specs.along.Filled.{IsOfObject}
use Rattle.mesh_law_changes.specs.along.Ready.{IsPlaced}

-- A model that is made is filled: its changes, what is known along them, and that it is done after them.
pub record IsThenFilled (clock : Clock) (b : Book) (forgets : List Forget) (all : List Planned) (p : Planned) (x : Parts) (w : World) : Type 0 where
  pub filled : List Change
  pub fills_it : fills clock w all p (due clock b forgets p) ≡ Some filled
  pub along : StaysAlong x w filled
  pub done : IsDone clock (left filled x) (run w filled).book p
  pub only : IsOfObject p.object w (run w filled)

-- all that is to be recorded of a planned model is, and none of it is among the parts
abbrev pub IsAllRecorded : Clock → Parts → Planned → Version → Kind → Type 0
IsAllRecorded clock x p v (Incremental time lookback) = (u : Bounds) → Contains (schedule clock p.closure) u → IsTrue (is_held v.ranges u.start u.end) × (x (unit_of p.object u) ≡ false)
IsAllRecorded clock x p v Full = (v.marks ≡ Some (marks clock p.closure)) × (x (Marks p.object) ≡ false)
IsAllRecorded clock x p v View = Unit {0}
IsAllRecorded clock x p v Seed = IsSome v.marks

by_snapshot : (clock : Clock) (x : Parts) (p : Planned) (s : Snapshot) (v : Version) → s.object ≡ p.object → (kind : Kind) → IsAllRecorded clock x p v kind → IsRecorded clock x s p.closure v kind
by_snapshot clock x p s v same (Incremental time lookback) h = λ u k. ((h u k).0, ap (λ (n : Name). x (unit_of n u)) same ∙ (h u k).1)
by_snapshot clock x p s v same Full h = (h.0, ap (λ (n : Name). x (Marks n)) same ∙ h.1)
by_snapshot clock x p s v same View h = tt
by_snapshot clock x p s v same Seed h = h

pub then_done : (clock : Clock) (all : List Planned) (p : Planned) (x : Parts) (before w : World) → IsPlaced all before.book.snapshots p → IsOfObject p.object before w → (v : Version) → version_of w.book p.object ≡ Some v → v.made ≡ true
    → IsAllRecorded clock x p v p.node.own.kind → IsDone clock x w.book p
then_done clock all p x before w placed only v known made recorded =
    let s = placed.snapshot in
    let closure : closing w.book.snapshots s ≡ p.closure = ap (λ (ss : List Snapshot). closing ss s) only.snapshots ∙ placed.closure in
    let kind : s.own.kind ≡ p.node.own.kind = ap (λ (o : Own). o.kind) placed.own in
    record {
      snapshot = s;
      known = ap (λ (ss : List Snapshot). snapshot_at ss (planned_ref p)) only.snapshots ∙ placed.known;
      own = placed.own;
      object = placed.object;
      closure = closure;
      current = record {
        version = v;
        known = ap (version_of w.book) placed.object ∙ known;
        made = made;
        recorded = subst (λ (k : Kind). IsRecorded clock x s (closing w.book.snapshots s) v k) (sym kind)
            (subst (λ (c : Closure). IsRecorded clock x s c v p.node.own.kind) (sym closure) (by_snapshot clock x p s v placed.object p.node.own.kind recorded));
      };
    }

-- no change takes nothing out of doubt
pub left_nothing : (x : Parts) → left [] x ≡ x
left_nothing x = λ i q. and_true (x q) i
  where
    and_true : (b : Bool) → (b && not false) ≡ b
    and_true true = refl
    and_true false = refl

-- a part that a change doesn't take is in doubt after it where it was
pub left_untaken : (c : Change) (x : Parts) (q : Forget) → taken_by c q ≡ false → left (c ∷ []) x q ≡ false → x q ≡ false
left_untaken c x q untaken free = go (x q) (taken_by c q) untaken free
  where
    go : (a t : Bool) → t ≡ false → (a && not (t || false)) ≡ false → a ≡ false
    go false t e f = refl
    go true false e f = absurd (let clash : true ≡ false = f in cc)
    go true true e f = absurd (let clash : true ≡ false = e in cc)
