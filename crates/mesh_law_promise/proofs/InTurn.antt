-- The models of a ready plan are made and filled one after another.
use Rattle.std.proofs.Common.{◌≡◌, ◌⊎◌, inl, inr, List, [], ◌∷◌, ◌++◌, map, Some, refl, sym, ap, ◌∙◌, subst}
use Rattle.std.specs.Prelude.{false}
use Rattle.std.specs.List.{AllByRecursion, Contains}
use Rattle.std.specs.declared.option.Option.{Option}
use Rattle.std.proofs.lemmas.List.{append-nil, append_assoc}
use Rattle.mesh_base_values.specs.declared.kinds.Kind.{Kind}
use Rattle.mesh_base_values.specs.declared.kinds.Kind.TheVariants.{Full, View, Seed, Incremental}
use Rattle.mesh_base_values.specs.declared.values.Name.{Name}
use Rattle.mesh_base.specs.declared.forgets.Forget.{Forget}
use Rattle.mesh_base.specs.declared.forgets.Forget.TheVariants.{Marks}
use Rattle.mesh_base.specs.declared.snapshots.Ref.{Ref}
use Rattle.mesh_base.specs.declared.snapshots.Snapshot.{Snapshot}
use Rattle.mesh_house_book.specs.declared.book.Book.{Book}
use Rattle.mesh_house_book.specs.declared.versions.Version.{Version}
use Rattle.mesh_house_book.specs.WellFormed.{snapshot_at}
use Rattle.mesh_spec_model.specs.Closures.{Closure}
use Rattle.mesh_spec_model.specs.Horizons.{Clock, Shows}
use Rattle.mesh_law_query.proofs.Has.{Has, Has_cases, Has_from, Has_left, Has_map_from, Has_right, Has_to}
use Rattle.mesh_house.specs.declared.world.Change.{Change}
use Rattle.mesh_house.specs.declared.world.World.{World}
use Rattle.mesh_house.specs.Step.{run}
use Rattle.mesh_house.specs.World.{version_of}
use Rattle.mesh_house.proofs.Runs.{run-append}
use Rattle.mesh_spec_changes.specs.listed.Closing.{closing}
use Rattle.mesh_spec_changes.proofs.listed.Books.{is_its_own}
use Rattle.mesh_spec_changes.specs.due.Dues.{due}
use Rattle.mesh_spec_changes.specs.due.Parts.{Parts, is_among, object_of, unit_of}
use Rattle.mesh_spec_changes.specs.due.Plans.{Planned}
use Rattle.mesh_spec_changes.specs.Changes.{executes, followed, parents_in, planned_ref}
use Rattle.mesh_spec_promise.specs.Current.{AllCurrent, IsDone, IsReadable, IsRecorded, current}
use Rattle.mesh_spec_promise.specs.Histories.{left}
use Rattle.mesh_spec_promise.specs.Sound.{Sound}
use Rattle.mesh_law_changes.specs.along.Along.{StaysAlong}
use Rattle.mesh_law_changes.specs.along.Filled.{IsOneFilled, making_of}
use Rattle.mesh_law_changes.specs.along.Ready.{AreApart, AreRanked, IsFilled, IsOpened, IsPlaced, IsReady}
use Rattle.mesh_law_steps.proofs.fills.Filled.{one_filled}
use Rattle.mesh_law_changes.proofs.along.Along.{along_append, along_end, left_both, left_fewer}

-- what holds of each item holds of all
pub all_of : {X : Type 0} (P : X → Type 0) (xs : List X) → ((x : X) → Has x xs → P x) → AllByRecursion P xs
all_of P [] h = tt
all_of P (x ∷ xs) h = (h x (inl refl), all_of P xs (λ y k. h y (inr k)))

pub each_of : {X : Type 0} (P : X → Type 0) (xs : List X) → AllByRecursion P xs → (x : X) → Has x xs → P x
each_of P [] h x k = absurd k
each_of P (y ∷ ys) h x (inl e) = subst P e h.0
each_of P (y ∷ ys) h x (inr k) = each_of P ys h.1 x k

-- an item behind some and in front of others stands in front or behind with the one between
regrouped : {X : Type 0} (before : List X) (p : X) (ps : List X) (q : X) → Has q (before ++ p ∷ ps) → Has q ((before ++ p ∷ []) ++ ps)
regrouped {X} before p ps q h = go (Has_cases q before (p ∷ ps) h)
  where
    go : Has q before ⊎ Has q (p ∷ ps) → Has q ((before ++ p ∷ []) ++ ps)
    go (inl i) = Has_left q (before ++ p ∷ []) ps (Has_left q before (p ∷ []) i)
    go (inr (inl e)) = Has_left q (before ++ p ∷ []) ps (Has_right q before (p ∷ []) (inl e))
    go (inr (inr i)) = Has_right q (before ++ p ∷ []) ps i

-- what holds of some and of one more
one_more : {X : Type 0} (P : X → Type 0) (before : List X) (p : X) → ((q : X) → Has q before → P q) → P p → (q : X) → Has q (before ++ p ∷ []) → P q
one_more {X} P before p so_far here q h = go (Has_cases q before (p ∷ []) h)
  where
    go : Has q before ⊎ Has q (p ∷ []) → P q
    go (inl i) = so_far q i
    go (inr (inl e)) = subst P e here
    go (inr (inr i)) = absurd i

same_some : {X : Type 0} (a b : X) → Some a ≡ Some b → a ≡ b
same_some a b e = cc

recorded_kept : (clock : Clock) (x y : Parts) → ((q : Forget) → x q ≡ false → y q ≡ false) → (s : Snapshot) (c : Closure) (v : Version) (kind : Kind) → IsRecorded clock x s c v kind → IsRecorded clock y s c v kind
recorded_kept clock x y fewer s c v (Incremental time lookback) h = λ u k. ((h u k).0, fewer (unit_of s.object u) (h u k).1)
recorded_kept clock x y fewer s c v Full h = (h.0, fewer (Marks s.object) h.1)
recorded_kept clock x y fewer s c v View h = tt
recorded_kept clock x y fewer s c v Seed h = h

-- a model that is done stays so where its version and the snapshots stay, and no part comes into doubt
pub done_kept : (clock : Clock) (x y : Parts) → ((q : Forget) → x q ≡ false → y q ≡ false) → (b k : Book) → k.snapshots ≡ b.snapshots → (p : Planned) → ((name : Name) → name ≡ p.object → version_of k name ≡ version_of b name) → IsDone clock x b p → IsDone clock y k p
done_kept clock x y fewer b k same p there d = record {
  snapshot = d.snapshot;
  known = ap (λ (l : List Snapshot). snapshot_at l (planned_ref p)) same ∙ d.known;
  own = d.own;
  object = d.object;
  closure = ap (λ (l : List Snapshot). closing l d.snapshot) same ∙ d.closure;
  current = record {
    version = d.current.version;
    known = there d.snapshot.object d.object ∙ d.current.known;
    made = d.current.made;
    recorded = subst (λ (l : List Snapshot). IsRecorded clock y d.snapshot (closing l d.snapshot) d.current.version d.snapshot.own.kind) (sym same)
        (recorded_kept clock x y fewer d.snapshot (closing b.snapshots d.snapshot) d.current.version d.snapshot.own.kind d.current.recorded);
  };
}

module _ (clock : Clock) (b : Book) (forgets : List Forget) (all : List Planned) where
  -- each model is readable, where those so far are and each stands behind its parents
  module _ (x : Parts) (k : Book) where
    one_readable : (p : Planned) → IsPlaced all k.snapshots p → IsDone clock x k p → ((q : Planned) → Has q (parents_in all p) → IsReadable clock x k q) → IsReadable clock x k p
    one_readable p placed done parents = record { done = done; all = current done.snapshot (is_its_own k.snapshots (planned_ref p) done.snapshot done.known) done.current below }
      where
        same : placed.snapshot ≡ done.snapshot
        same = same_some placed.snapshot done.snapshot (sym placed.known ∙ done.known)

        refs : map planned_ref (parents_in all p) ≡ done.snapshot.parents
        refs = sym placed.parents ∙ ap (λ (s : Snapshot). s.parents) same

        below : (r : Ref) → Contains done.snapshot.parents r → (u : Snapshot) → snapshot_at k.snapshots r ≡ Some u → AllCurrent clock x k u
        below r h u at =
            let (q, i, e) = Has_map_from planned_ref (parents_in all p) r (subst (λ (l : List Ref). Has r l) (sym refs) (Has_from done.snapshot.parents r h)) in
            let its = parents q i in
            let one : its.done.snapshot ≡ u = same_some its.done.snapshot u (sym its.done.known ∙ ap (snapshot_at k.snapshots) e ∙ at) in
            subst (AllCurrent clock x k) one its.all

    each_readable : (before ps : List Planned) → ((q : Planned) → Has q before → IsReadable clock x k q) → AreRanked all before ps
        → ((q : Planned) → Has q ps → IsPlaced all k.snapshots q) → ((q : Planned) → Has q ps → IsDone clock x k q) → (q : Planned) → Has q (before ++ ps) → IsReadable clock x k q
    each_readable before [] so_far ranked placed done q h = subst (λ (l : List Planned). Has q l → IsReadable clock x k q) (sym (append-nil before)) (so_far q) h
    each_readable before (p ∷ ps) so_far ranked placed done q h =
        each_readable (before ++ p ∷ []) ps
        (one_more (IsReadable clock x k) before p so_far (one_readable p (placed p (inl refl)) (done p (inl refl)) (λ r i. so_far r (Has_from before r (ranked.0 r (Has_to (parents_in all p) r i))))))
        ranked.1 (λ r i. placed r (inr i)) (λ r i. done r (inr i)) q (regrouped before p ps q h)

  -- one model more stands behind its parents
  ranked_more : (pre before : List Planned) (p : Planned) → AreRanked all pre before → ((q : Planned) → Contains (parents_in all p) q → Contains (pre ++ before) q) → AreRanked all pre (before ++ p ∷ [])
  ranked_more pre [] p ranked h = (λ q i. subst (λ (l : List Planned). Contains l q) (append-nil pre) (h q i), tt)
  ranked_more pre (c ∷ cs) p ranked h = (ranked.0, ranked_more (pre ++ c ∷ []) cs p ranked.1 (λ q i. subst (λ (l : List Planned). Contains l q) (sym (append_assoc pre (c ∷ []) cs)) (h q i)))

  -- the models so far are done, and the others wait
  pub record IsMidway (before ps : List Planned) (x : Parts) (w : World) : Type 0 where
    pub sound : Sound x w
    pub moment : Shows clock w.book.moment
    pub behind : (q : Planned) → Has q before → IsPlaced all w.book.snapshots q
    pub done : (q : Planned) → Has q before → IsDone clock x w.book q
    pub begun : AreRanked all [] before
    pub placed : (q : Planned) → Has q ps → IsPlaced all w.book.snapshots q
    pub opened : (q : Planned) → Has q ps → IsOpened clock b forgets w.book q
    pub ranked : AreRanked all before ps
    pub others : (q : Planned) → Has q before → (p : Planned) → Has p ps → ¬ (q.object ≡ p.object)
    pub apart : AreApart ps
    pub covered : (p : Planned) → Has p ps → (q : Forget) → object_of q ≡ p.object → is_among (due clock b forgets p) q ≡ false → x q ≡ false

  -- the rest of the models are made and filled
  record IsTurned (before ps : List Planned) (x : Parts) (w : World) : Type 0 where
    made : List Change
    changes : (last : List Change) → executes clock b forgets all last ps w ≡ made ++ last
    along : StaysAlong x w made
    done : (q : Planned) → Has q (before ++ ps) → IsDone clock (left made x) (run w made).book q
    sources : (run w made).sources ≡ w.sources
    moment : (run w made).book.moment ≡ w.book.moment
    snapshots : (run w made).book.snapshots ≡ w.book.snapshots
    environments : (run w made).book.environments ≡ w.book.environments

  -- a model is made and filled, and the others wait on
  module _ (before : List Planned) (p : Planned) (ps : List Planned) (x : Parts) (w : World) (m : IsMidway before (p ∷ ps) x w) where
    pub readable : AllByRecursion (IsReadable clock x w.book) (parents_in all p)
    readable = all_of (IsReadable clock x w.book) (parents_in all p)
        (λ q i. each_readable x w.book [] before (λ r j. absurd j) m.begun m.behind m.done q (Has_from before q (m.ranked.0 q (Has_to (parents_in all p) q i))))

    pub one : IsOneFilled clock b forgets all p x w
    one = one_filled clock b forgets all p x w m.sound m.moment (m.placed p (inl refl)) (m.opened p (inl refl)) readable (m.covered p (inl refl))

    abbrev pub list : List Change
    list = making_of clock b forgets all p ++ one.filled

    abbrev pub after : World
    after = run w list

    fewer : (q : Forget) → x q ≡ false → left list x q ≡ false
    fewer q h = left_fewer list x q h

    placed_on : (q : Planned) → IsPlaced all w.book.snapshots q → IsPlaced all after.book.snapshots q
    placed_on q h = subst (λ (l : List Snapshot). IsPlaced all l q) (sym one.only.snapshots) h

    done_on : (q : Planned) → ¬ (q.object ≡ p.object) → IsDone clock x w.book q → IsDone clock (left list x) after.book q
    done_on q other d = done_kept clock x (left list x) fewer w.book after.book one.only.snapshots q (λ name e. one.only.versions name (λ i. other (sym e ∙ i))) d

    opened_on : (q : Planned) → ¬ (q.object ≡ p.object) → IsOpened clock b forgets w.book q → IsOpened clock b forgets after.book q
    opened_on q other h = record { version = h.version; known = one.only.versions q.object other ∙ h.known; made = h.made; rest = h.rest }

    pub next : IsMidway (before ++ p ∷ []) ps (left list x) after
    next = record {
      sound = along_end x w list one.along;
      moment = subst (Shows clock) (sym one.only.moment) m.moment;
      behind = one_more (IsPlaced all after.book.snapshots) before p (λ q i. placed_on q (m.behind q i)) (placed_on p (m.placed p (inl refl)));
      done = one_more (IsDone clock (left list x) after.book) before p (λ q i. done_on q (m.others q i p (inl refl)) (m.done q i)) one.done;
      begun = ranked_more [] before p m.begun m.ranked.0;
      placed = λ q i. placed_on q (m.placed q (inr i));
      opened = λ q i. opened_on q (λ e. each_of (λ (r : Planned). ¬ (p.object ≡ r.object)) ps m.apart.0 q i (sym e)) (m.opened q (inr i));
      ranked = m.ranked.1;
      others = one_more (λ (q : Planned). (r : Planned) → Has r ps → ¬ (q.object ≡ r.object)) before p (λ q i r j. m.others q i r (inr j)) (λ r j. each_of (λ (s : Planned). ¬ (p.object ≡ s.object)) ps m.apart.0 r j);
      apart = m.apart.1;
      covered = λ q i f its free. fewer f (m.covered q (inr i) f its free);
    }

    with_next : IsTurned (before ++ p ∷ []) ps (left list x) after → IsTurned before (p ∷ ps) x w
    with_next t = record {
      made = list ++ t.made;
      changes = λ last. changed last;
      along = along_append x w list t.made one.along t.along;
      done = λ q i. subst (λ (y : Parts). IsDone clock y (run w (list ++ t.made)).book q) (sym (left_both list t.made x))
          (subst (λ (v : World). IsDone clock (left t.made (left list x)) v.book q) (sym (run-append w list t.made)) (t.done q (regrouped before p ps q i)));
      sources = ap (λ (v : World). v.sources) (run-append w list t.made) ∙ t.sources ∙ one.only.sources;
      moment = ap (λ (v : World). v.book.moment) (run-append w list t.made) ∙ t.moment ∙ one.only.moment;
      snapshots = ap (λ (v : World). v.book.snapshots) (run-append w list t.made) ∙ t.snapshots ∙ one.only.snapshots;
      environments = ap (λ (v : World). v.book.environments) (run-append w list t.made) ∙ t.environments ∙ one.only.environments;
    }
      where
        making : List Change
        making = making_of clock b forgets all p

        changed : (last : List Change) → executes clock b forgets all last (p ∷ ps) w ≡ (list ++ t.made) ++ last
        changed last =
            ap (λ (o : Option (List Change)). making ++ followed (run w making) o (executes clock b forgets all last ps)) one.fills_it
            ∙ ap (λ (v : World). making ++ (one.filled ++ executes clock b forgets all last ps v)) (sym (run-append w making one.filled))
            ∙ ap (λ (l : List Change). making ++ (one.filled ++ l)) (t.changes last)
            ∙ sym (append_assoc making one.filled (t.made ++ last))
            ∙ sym (append_assoc list t.made last)

  turn : (before ps : List Planned) (x : Parts) (w : World) → IsMidway before ps x w → IsTurned before ps x w
  turn before [] x w m = record {
    made = [];
    changes = λ last. refl;
    along = m.sound;
    done = λ q i. done_kept clock x (left [] x) (λ f h. left_fewer [] x f h) w.book w.book refl q (λ name e. refl) (m.done q (subst (λ (l : List Planned). Has q l) (append-nil before) i));
    sources = refl;
    moment = refl;
    snapshots = refl;
    environments = refl;
  }
  turn before (p ∷ ps) x w m = with_next before p ps x w m (turn (before ++ p ∷ []) ps (left (list before p ps x w m) x) (after before p ps x w m) (next before p ps x w m))

  -- All models of a ready plan are made and filled: then all of them are done.
  pub all_filled : (x : Parts) (w : World) → IsReady clock b forgets all x w →
      (made : List Change) × ((last : List Change) → executes clock b forgets all last all w ≡ made ++ last) × StaysAlong x w made × IsFilled clock all w.book (left made x) (run w made) × ((run w made).sources ≡ w.sources)
  all_filled x w ready = (t.made, t.changes, t.along, filled, t.sources)
    where
      midway : IsMidway [] all x w
      midway = record {
        sound = ready.sound;
        moment = ready.moment;
        behind = λ q i. absurd i;
        done = λ q i. absurd i;
        begun = tt;
        placed = each_of (IsPlaced all w.book.snapshots) all ready.placed;
        opened = each_of (IsOpened clock b forgets w.book) all ready.opened;
        ranked = ready.ranked;
        others = λ q i. absurd i;
        apart = ready.apart;
        covered = λ p i. ready.covered p (Has_to all p i);
      }

      t : IsTurned [] all x w
      t = turn [] all x w midway

      filled : IsFilled clock all w.book (left t.made x) (run w t.made)
      filled = record {
        sound = along_end x w t.made t.along;
        moment = t.moment;
        snapshots = t.snapshots;
        environments = t.environments;
        done = all_of (IsDone clock (left t.made x) (run w t.made).book) all t.done;
      }
