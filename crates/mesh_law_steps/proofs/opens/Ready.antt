-- A plan is ready once it is opened.
use Rattle.std.proofs.Common.{◌≡◌, ℕ, ℤ, Bool, true, false, List, [], ◌∷◌, Some, refl, sym, ◌∙◌, ap, subst, IsTrue}
use Rattle.std.specs.List.{AllByRecursion, Contains, list_any}
use Rattle.std.specs.declared.option.Option.{Option}
use Rattle.mesh_base_values.specs.declared.kinds.Kind.TheVariants.{Incremental}
use Rattle.mesh_base_values.specs.declared.times.Bounds.{Bounds}
use Rattle.mesh_base_values.specs.declared.values.Name.{Name}
use Rattle.mesh_base.specs.declared.forgets.Forget.{Forget}
use Rattle.mesh_base.specs.declared.forgets.Forget.TheVariants.{Range}
use Rattle.mesh_base.specs.declared.forgets.Restate.{Restate}
use Rattle.mesh_base.specs.declared.snapshots.Snapshot.{Snapshot}
use Rattle.mesh_house_book.specs.declared.book.Book.{Book}
use Rattle.mesh_house_book.specs.moves.Forgets.{forget_units}
use Rattle.mesh_house_book.proofs.moves.Changed.{all_forgotten_is}
use Rattle.mesh_spec_model.specs.Closures.{Closure, own_of, standing}
use Rattle.mesh_spec_model.specs.Horizons.{Clock, HasCrons, Shows, schedule, units_from}
use Rattle.mesh_spec_model.proofs.Moments.{one_horizon}
use Rattle.mesh_law_query.proofs.Has.{Has, Has_from, Has_to}
use Rattle.mesh_house.specs.Step.{run, with_book}
use Rattle.mesh_house.specs.World.{version_of}
use Rattle.mesh_house.specs.declared.world.World.{World}
use Rattle.mesh_spec_changes.specs.listed.Closing.{IsSnapshot, closing}
use Rattle.mesh_spec_changes.proofs.listed.Books.{is_its_own}
use Rattle.mesh_spec_changes.specs.due.Dues.{again, due}
use Rattle.mesh_spec_changes.specs.due.Parts.{Parts, is_among, object_of, same_name}
use Rattle.mesh_spec_changes.specs.due.Plans.{Planned, is_planned}
use Rattle.mesh_spec_changes.specs.Changes.{forgetting, planned_ref}
use Rattle.mesh_law_reuse.proofs.Sharing.{same_schedules}
use Rattle.mesh_spec_promise.specs.Histories.{left}
use Rattle.mesh_spec_promise.specs.Sound.{IsBookSound, Sound}
use Rattle.mesh_spec_promise.proofs.Crons.{HasCron, closed_crons}
use Rattle.mesh_spec_promise.proofs.Seconds.{any_of}
use Rattle.mesh_law_changes.proofs.Forgetting.{units_forgotten}
use Rattle.mesh_law_changes.proofs.Recorded.{same_object}
use Rattle.mesh_law_changes.specs.along.Along.{StaysAlong}
use Rattle.mesh_law_changes.specs.along.Ready.{AreApart, AreRanked, ArePut, IsOpened, IsPlaced, IsReady, put_version}
use Rattle.mesh_law_changes.proofs.along.Along.{along_end, left_fewer}
use Rattle.mesh_law_steps.proofs.opens.Again.{again_from, again_range, due_object}
use Rattle.mesh_law_steps.proofs.opens.Lists.{all_each, all_of, of_all, some_passes}
use Rattle.mesh_law_steps.proofs.opens.Opened.{opened}
use Rattle.mesh_law_steps.proofs.opens.Parts.{among_has, one_of_object}

-- two clocks that show one moment give a snapshot one schedule
pub one_schedule : (x : Parts) (w : World) → Sound x w → (clock other : Clock) → Shows clock w.book.moment → Shows other w.book.moment → (s : Snapshot) → IsSnapshot w.book.snapshots s
    → schedule clock (closing w.book.snapshots s) ≡ schedule other (closing w.book.snapshots s)
one_schedule x w sound clock other now is s known =
    let c : Closure = closing w.book.snapshots s in
    let crons : HasCrons c = all_each HasCron (standing c) (closed_crons w.book.snapshots sound.typed.crons s.rank s known) in
    ap (units_from (own_of c).start (own_of c).unit) (one_horizon w.book.moment clock other now is c crons)

-- the world once some parts are forgotten
world_left : (w : World) (list : List Forget) → run w (forgetting list) ≡ with_book w (forget_units w.book list)
world_left w [] = refl
world_left w (q ∷ qs) = refl

-- what is forgotten is of versions alone
same_snapshots : (b : Book) (list : List Forget) → (forget_units b list).snapshots ≡ b.snapshots
same_snapshots b list = ap (λ (c : Book). c.snapshots) (sym (all_forgotten_is b list))

same_environments : (b : Book) (list : List Forget) → (forget_units b list).environments ≡ b.environments
same_environments b list = ap (λ (c : Book). c.environments) (sym (all_forgotten_is b list))

same_moment : (b : Book) (list : List Forget) → (forget_units b list).moment ≡ b.moment
same_moment b list = ap (λ (c : Book). c.moment) (sym (all_forgotten_is b list))

module _ (clock : Clock) (b : Book) (forgets : List Forget) (all : List Planned) (restate : Option Restate) (y : Parts) (w : World) (sound : Sound y w) (now : Shows clock w.book.moment)
    (put : ArePut b all w) (again_is : forgets ≡ again clock b restate all) (apart : AreApart all) where
  abbrev after : World
  after = run w (forgetting forgets)

  -- what is forgotten of an incremental table are units of its schedule
  whole : (object : Name) (start end : ℤ) → Contains forgets (Range object start end) → (s : Snapshot) → IsSnapshot w.book.snapshots s → s.object ≡ object → (time : List ℕ) (lookback : ℕ) → s.own.kind ≡ Incremental time lookback
      → (other : Clock) → Shows other w.book.moment → Contains (schedule other (closing w.book.snapshots s)) (record { start = start; end = end })
  whole object start end k s known same time lookback is other shows =
      let snapshots : List Snapshot = w.book.snapshots in
      let u : Bounds = record { start = start; end = end } in
      let (p, there, part) = again_from clock b restate all (Range object start end) (subst (Has (Range object start end)) again_is (Has_from forgets (Range object start end) k)) in
      let unit = again_range clock b restate p p.node.own.kind object start end part in
      let placed : IsPlaced all snapshots p = of_all (IsPlaced all snapshots) all put.placed p there in
      let t : Snapshot = placed.snapshot in
      let its : IsSnapshot snapshots t = is_its_own snapshots (planned_ref p) t placed.known in
      let twin = (sound.book.shared s t known its (same ∙ unit.named ∙ sym placed.object)).1 in
      let schedules : schedule clock p.closure ≡ schedule other (closing snapshots s) =
      ap (schedule clock) (sym placed.closure) ∙ one_schedule y w sound clock other now shows t its ∙ sym (same_schedules (closing snapshots s) (closing snapshots t) twin other) in
      Has_to (schedule other (closing snapshots s)) u (subst (Has u) schedules unit.unit)

  stays : (list : List Forget) → list ≡ forgets → StaysAlong y w (forgetting list)
  stays [] e = sound
  stays (q ∷ qs) e = (sound, units_forgotten y w sound (q ∷ qs) (λ object start end k. whole object start end (subst (λ (l : List Forget). Contains l (Range object start end)) e k)))

  pub along : StaysAlong y w (forgetting forgets)
  along = stays forgets refl

  book_left : after.book ≡ forget_units w.book forgets
  book_left = ap (λ (v : World). v.book) (world_left w forgets)

  pub moment_left : after.book.moment ≡ w.book.moment
  moment_left = ap (λ (c : Book). c.moment) book_left ∙ same_moment w.book forgets

  pub snapshots_left : after.book.snapshots ≡ w.book.snapshots
  snapshots_left = ap (λ (c : Book). c.snapshots) book_left ∙ same_snapshots w.book forgets

  pub environments_left : after.book.environments ≡ b.environments
  environments_left = ap (λ (c : Book). c.environments) book_left ∙ same_environments w.book forgets ∙ put.environments

  sources_left : after.sources ≡ w.sources
  sources_left = ap (λ (v : World). v.sources) (world_left w forgets)

  pub each_opened : (p : Planned) → Has p all → IsOpened clock b forgets after.book p
  each_opened p there =
      let known : version_of w.book p.object ≡ Some (put_version (version_of b p.object) p.object) = put.versions p (Has_to all p there) in
      subst (λ (c : Book). IsOpened clock b forgets c p) (sym book_left)
      (opened clock b forgets all restate again_is apart p there w.book known (sound.typed.ranges p.object (put_version (version_of b p.object) p.object) known))

  module _ (covers : (q : Forget) → y q ≡ true → IsTrue (is_planned all (object_of q)) → IsTrue (list_any (λ (p : Planned). is_among (due clock b forgets p) q) all)) where
    -- what is in doubt of a model is due of it
    covered : (p : Planned) → Contains all p → (q : Forget) → object_of q ≡ p.object → is_among (due clock b forgets p) q ≡ false → y q ≡ false
    covered p k q of none = go (y q) refl
      where
        its : IsTrue (is_planned all (object_of q))
        its = any_of (λ (r : Planned). same_name r.object (object_of q)) all p k (ap (same_name p.object) of ∙ same_object p.object)

        go : (c : Bool) → y q ≡ c → c ≡ false
        go false e = refl
        go true e =
            let (r, there, dues) = some_passes (λ (r : Planned). is_among (due clock b forgets r) q) all (covers q e its) in
            let object : object_of q ≡ r.object = due_object clock b forgets r r.node.own.kind q (among_has (due clock b forgets r) q dues) in
            let same : r ≡ p = one_of_object all apart r p there (Has_from all p k) (sym object ∙ of) in
            let clash : true ≡ false = sym dues ∙ ap (λ (s : Planned). is_among (due clock b forgets s) q) same ∙ none in
            absurd (cc)

    ready : AreRanked all [] all → IsReady clock b forgets all (left (forgetting forgets) y) after
    ready ranked = record {
      sound = along_end y w (forgetting forgets) along;
      moment = subst (Shows clock) (sym moment_left) now;
      placed = subst (λ (ss : List Snapshot). AllByRecursion (IsPlaced all ss) all) (sym snapshots_left) put.placed;
      opened = all_of (IsOpened clock b forgets after.book) all each_opened;
      apart = apart;
      ranked = ranked;
      covered = λ p k q of none. left_fewer (forgetting forgets) y q (covered p k q of none);
    }

pub opened_ready : (clock : Clock) (b : Book) (forgets : List Forget) (all : List Planned) (restate : Option Restate) (y : Parts) (w : World) → IsBookSound b → Sound y w → Shows clock w.book.moment → ArePut b all w
    → forgets ≡ again clock b restate all → AreApart all → AreRanked all [] all
    → ((q : Forget) → y q ≡ true → IsTrue (is_planned all (object_of q)) → IsTrue (list_any (λ (p : Planned). is_among (due clock b forgets p) q) all))
    → StaysAlong y w (forgetting forgets)
    × IsReady clock b forgets all (left (forgetting forgets) y) (run w (forgetting forgets))
    × ((run w (forgetting forgets)).book.environments ≡ b.environments)
    × ((run w (forgetting forgets)).book.moment ≡ w.book.moment)
    × ((run w (forgetting forgets)).sources ≡ w.sources)
opened_ready clock b forgets all restate y w book sound now put again_is apart ranked covers = (
  along clock b forgets all restate y w sound now put again_is apart,
  ready clock b forgets all restate y w sound now put again_is apart covers ranked,
  environments_left clock b forgets all restate y w sound now put again_is apart,
  moment_left clock b forgets all restate y w sound now put again_is apart,
  sources_left clock b forgets all restate y w sound now put again_is apart,
)
