-- The models of a plan are put into the book, one after another.
use Rattle.std.proofs.Common.{◌≡◌, ℕ, suc, ◌+◌, Bool, true, false, not, ◌&&◌, ◌||◌, nat_eq, inl, inr, List, [], ◌∷◌, map, length, refl, subst, arith, eqb-true}
use Rattle.std.specs.List.{AllByRecursion, slice_get}
use Rattle.std.specs.declared.option.Option.{Option}
use Rattle.std.specs.declared.option.Option.TheVariants.{Some}
use Rattle.std.proofs.lemmas.Option.{slice_get_within}
use Rattle.mesh_list.proofs.Ascends.{and_left, and_right}
use Rattle.mesh_base.specs.declared.forgets.Restate.{Restate}
use Rattle.mesh_base.specs.declared.snapshots.Node.{Node}
use Rattle.mesh_base.specs.rules.Proper.{is_proper}
use Rattle.mesh_house_book.specs.WellFormed.{is_well_formed_book}
use Rattle.mesh_spec_model.specs.Horizons.{Clock}
use Rattle.mesh_house.specs.declared.world.Change.{Change}
use Rattle.mesh_house.specs.declared.world.Change.TheVariants.{Moment, PutSnapshot}
use Rattle.mesh_house.specs.declared.world.World.{World}
use Rattle.mesh_house.specs.Step.{run, step}
use Rattle.mesh_law_query.proofs.Has.{Has, Has_from}
use Rattle.mesh_spec_changes.specs.due.Parts.{Parts}
use Rattle.mesh_spec_changes.specs.due.Plans.{Planned}
use Rattle.mesh_spec_changes.specs.Changes.{Plan, puts, snapshot_of}
use Rattle.mesh_spec_changes.specs.Commands.{is_present}
use Rattle.mesh_spec_changes.specs.Planning.{IsPlan}
use Rattle.mesh_law_reuse.specs.Shared.{SharesWithTwins}
use Rattle.mesh_law_reuse.proofs.Known.{place_there}
use Rattle.mesh_spec_promise.specs.Histories.{left}
use Rattle.mesh_spec_promise.specs.Sound.{Sound}
use Rattle.mesh_law_changes.specs.along.Along.{StaysAlong}
use Rattle.mesh_law_changes.specs.along.Ready.{ArePut, IsPlaced}
use Rattle.mesh_law_steps.proofs.puts.Fitting.{closing_put}
use Rattle.mesh_law_steps.proofs.puts.Steps.{IsReached, reached_next}

all_of : {X : Type 0} (P : X → Type 0) (xs : List X) → ((x : X) → Has x xs → P x) → AllByRecursion P xs
all_of P [] f = tt
all_of P (x ∷ xs) f = (f x (inl refl), all_of P xs (λ z h. f z (inr h)))

module _ (clock : Clock) (y : Parts) (w : World) (nodes : List Node) (restate : Option Restate) (plan : Plan) (well : is_well_formed_book w.book ≡ true) (proper : is_proper nodes ≡ true)
    (is : IsPlan clock w.book nodes restate plan) (shared : SharesWithTwins w.book) where
  abbrev models : List Planned
  models = plan.models

  abbrev opened : World
  opened = step w (Moment plan.moment)

  abbrev Reached : ℕ → World → Type 0
  Reached n v = IsReached clock y w nodes restate plan well proper is shared opened n v

  abbrev puts_of : List Planned → List Change
  puts_of ps = map (λ p. PutSnapshot (snapshot_of plan.moment models p)) ps

  -- these models stand from a place on
  abbrev Behind : ℕ → List Planned → Type 0
  Behind n rest = (j k : ℕ) → n + j ≡ k → (q : Planned) → slice_get rest j ≡ Some q → slice_get models k ≡ Some q

  -- to put a model takes nothing out of doubt
  left_put : (p : Planned) → y ≡ left (PutSnapshot (snapshot_of plan.moment models p) ∷ []) y
  left_put p = λ i q. same (y q) i
    where
      same : (b : Bool) → b ≡ (b && not (false || false))
      same true = refl
      same false = refl

  -- the world stays well kept while they are put
  along : (rest : List Planned) (n m : ℕ) → n + length rest ≡ m → Behind n rest → (v : World) → Reached n v → StaysAlong y v (puts_of rest) × Reached m (run v (puts_of rest))
  along [] n m same behind v r = (r.sound, subst (λ (k : ℕ). Reached k v) (omega (arith, same)) r)
  along (p ∷ rest) n m same behind v r =
      let next = reached_next clock y w nodes restate plan well proper is shared opened n v r p (behind 0 n (omega arith) p refl) in
      let more = along rest (suc n) m (omega (arith, same)) (λ j k e q f. behind (suc j) k (omega (arith, e)) q f) (step v (PutSnapshot (snapshot_of plan.moment models p))) next in
      ((r.sound, subst (λ (x : Parts). StaysAlong x (step v (PutSnapshot (snapshot_of plan.moment models p))) (puts_of rest)) (left_put p) more.0), more.1)

  -- at first
  module _ (version : w.book.version ≡ 2) (sound : Sound y opened) where
    begun : Reached 0 opened
    begun = record {
      sound = sound;
      version = version;
      moment = refl;
      environments = refl;
      sources = refl;
      kept = λ r old at. (old, at, record { own = refl; parents = refl; rank = refl; object = refl });
      each = λ s known. inl known;
      put = λ j l. absurd (omega (arith, l));
      had = λ name. inl refl;
      versions = λ j l. absurd (omega (arith, l));
    }

    pub models_reached : StaysAlong y opened (puts plan.moment models) × Reached (length models) (run opened (puts plan.moment models))
    models_reached = along models 0 (length models) (omega arith) (λ j k same q e. subst (λ (i : ℕ). slice_get models i ≡ Some q) (omega (arith, same)) e) opened begun

    abbrev ended : World
    ended = run opened (puts plan.moment models)

    placed : (p : Planned) → Has p models → IsPlaced models ended.book.snapshots p
    placed p h =
        let (i, e) = place_there models p h in
        let inside = slice_get_within models i p e in
        let r = models_reached.1 in
        record {
          snapshot = snapshot_of plan.moment models p;
          known = r.put i inside p e;
          own = refl;
          parents = refl;
          rank = refl;
          object = refl;
          closure = closing_put nodes proper models is.models is.closed plan.moment ended.book.snapshots (length models) r.put i (omega (arith, inside)) p e;
        }

    are_put : ArePut w.book models ended
    are_put =
        let r = models_reached.1 in
        record {
          placed = all_of (IsPlaced models ended.book.snapshots) models placed;
          versions = λ p h. let (i, e) = place_there models p (Has_from models p h) in r.versions i (slice_get_within models i p e) p e;
          environments = r.environments;
        }

-- the models of a plan are put, and the world stays well kept
pub plans_put : (clock : Clock) (x y : Parts) (w : World) (nodes : List Node) (restate : Option Restate) (plan : Plan) → Sound x w → is_present w.book ≡ true → is_proper nodes ≡ true
    → IsPlan clock w.book nodes restate plan → Sound y (step w (Moment plan.moment))
    → StaysAlong y (step w (Moment plan.moment)) (puts plan.moment plan.models)
    × ArePut w.book plan.models (run (step w (Moment plan.moment)) (puts plan.moment plan.models))
    × ((run (step w (Moment plan.moment)) (puts plan.moment plan.models)).book.moment ≡ (step w (Moment plan.moment)).book.moment)
    × ((run (step w (Moment plan.moment)) (puts plan.moment plan.models)).sources ≡ w.sources)
plans_put clock x y w nodes restate plan sound present proper is opened =
    let well = and_left (is_well_formed_book w.book) (nat_eq w.book.version 2) present in
    let version : w.book.version ≡ 2 = eqb-true w.book.version 2 (and_right (is_well_formed_book w.book) (nat_eq w.book.version 2) present) in
    let all = models_reached clock y w nodes restate plan well proper is sound.book.shared version opened in
    (all.0, are_put clock y w nodes restate plan well proper is sound.book.shared version opened, all.1.moment, all.1.sources)
