-- In a sound world of steady and even models nothing moves where sources change in such rows alone as arrive.
use Rattle.std.proofs.Common.{◌≡◌, ℕ, zero, suc, ◌<◌, ℤ, ◌≤ℤ◌, Bool, true, false, not, ◌&&◌, ◌||◌, nat_eq, inl, inr, List, [], ◌∷◌, ◌++◌, refl, sym, ap, ◌∙◌, subst, arith}
use Rattle.std.specs.List.{All, AllByRecursion, list_all, list_any}
use Rattle.std.specs.Option.{option_map}
use Rattle.std.specs.declared.option.Option.{Option}
use Rattle.std.specs.declared.option.Option.TheVariants.{None, Some}
use Rattle.std.proofs.lemmas.Bool.{and_parts, and_from as and_both}
use Rattle.std.proofs.lemmas.Bool.Decides.{nat_tests}
use Rattle.mesh_list.specs.Keyed.{ascends, below_first}
use Rattle.mesh_list.proofs.Ascends.{and_left, and_right}
use Rattle.mesh_list.proofs.Each.{each_found}
use Rattle.mesh_base_values.specs.Bag.{IsSameBag, times}
use Rattle.mesh_base_values.specs.Kinds.{is_incremental}
use Rattle.mesh_base_values.specs.declared.kinds.Kind.{Kind}
use Rattle.mesh_base_values.specs.declared.kinds.Kind.TheVariants.{Full, View, Seed, Incremental}
use Rattle.mesh_base_values.specs.declared.times.Bounds.{Bounds}
use Rattle.mesh_base_values.specs.declared.values.Cell.{Cell}
use Rattle.mesh_base.specs.Keys.{ref_cmp, refs_total, snapshot_ref}
use Rattle.mesh_base.specs.declared.definitions.Own.{Own}
use Rattle.mesh_base.specs.declared.forgets.Forget.{Forget}
use Rattle.mesh_base.specs.declared.forgets.Forget.TheVariants.{Range, Marks}
use Rattle.mesh_base.specs.declared.jobs.Input.{Input}
use Rattle.mesh_base.specs.declared.snapshots.Ref.{Ref}
use Rattle.mesh_base.specs.declared.snapshots.Snapshot.{Snapshot}
use Rattle.mesh_base.specs.rules.Proper.{is_body_of}
use Rattle.mesh_house_book.specs.declared.book.Book.{Book}
use Rattle.mesh_house_book.specs.WellFormed.{all_fit, is_above, is_moment, is_snapshot_fit, is_version, is_well_formed_book}
use Rattle.mesh_house.specs.declared.world.World.{World}
use Rattle.mesh_house.specs.World.{version_of}
use Rattle.mesh_spec_model.specs.Closures.{Closure, Model, ancestors, own_of, standing, with_parent}
use Rattle.mesh_spec_model.specs.Horizons.{Clock, Shows, schedule}
use Rattle.mesh_spec_model.specs.Scratch.{from_scratch, piece}
use Rattle.mesh_law_query.proofs.Has.{Has, Has_to}
use Rattle.mesh_law_query.proofs.Lists.{Each}
use Rattle.mesh_spec_changes.specs.listed.Closing.{IsSnapshot, closed, closing, parents_by}
use Rattle.mesh_spec_changes.proofs.listed.Books.{IsParent, fits, is_its_own}
use Rattle.mesh_spec_changes.proofs.listed.Depths.{closing_is}
use Rattle.mesh_spec_changes.specs.due.Marks.{is_computed, marks, same_marks}
use Rattle.mesh_spec_changes.specs.due.Parts.{Parts, same_name, same_second}
use Rattle.mesh_spec_changes.specs.due.Plans.{are_marks, holds, marks_of}
use Rattle.mesh_spec_changes.proofs.due.Later.{Each_both, earlier, horizon_grows}
use Rattle.mesh_spec_promise.specs.Sound.{Sound}
use Rattle.mesh_spec_promise.specs.Moved.{is_unit_of, moved, same_bag, unit_moves, whole_moves}
use Rattle.mesh_spec_promise.proofs.Crons.{closed_crons}
use Rattle.mesh_spec_promise.proofs.Fits.{its_body}
use Rattle.mesh_spec_changes.specs.steady.Arrives.{Arrives, KeepsUnits, StaysStatic}
use Rattle.mesh_spec_changes.specs.steady.Steady.{is_steady, is_steady_as, reaches_timed}
use Rattle.mesh_law_steady.specs.Projects.{IsSteadyBook}
use Rattle.mesh_law_steady.proofs.Marks.{same_horizons, second_is}
use Rattle.mesh_law_steady.proofs.Staying.{Fine, pieces_stay}
use Rattle.mesh_law_steady.proofs.Whole.{whole_same}

-- the test of two bags is passed by one bag
all_rows : (p : List Cell → Bool) → ((row : List Cell) → p row ≡ true) → (rows : List (List Cell)) → list_all p rows ≡ true
all_rows p h [] = refl
all_rows p h (row ∷ rows) = and_both (p row) (list_all p rows) (h row) (all_rows p h rows)

same_number : (m n : ℕ) → m ≡ n → nat_eq m n ≡ true
same_number m n e = grind (arith, nat_tests)

bags_are : (xs ys : List (List Cell)) → IsSameBag xs ys → same_bag xs ys ≡ true
bags_are xs ys h = all_rows (λ row. nat_eq (times row xs) (times row ys)) (λ row. same_number (times row xs) (times row ys) (h row)) (xs ++ ys)

-- what no item passes
none_passes : {X : Type 0} (p : X → Bool) (xs : List X) → ((x : X) → Has x xs → p x ≡ false) → list_any p xs ≡ false
none_passes p [] h = refl
none_passes p (x ∷ xs) h = (λ i. h x (inl refl) i || none_passes p xs (λ y k. h y (inr k)) i)

and_no : (a b : Bool) → (a ≡ true → b ≡ false) → (a && b) ≡ false
and_no true b h = h refl
and_no false b h = refl

and_not : (a b : Bool) → b ≡ true → (a && not b) ≡ false
and_not true b e = ap not e
and_not false b e = refl

-- a unit that stands among some
unit_there : (us : List Bounds) (u : Bounds) → is_unit_of us u ≡ true → Has u us
unit_there [] u h = absurd (cc)
unit_there (v ∷ us) u h = go (same_second v.start u.start && same_second v.end u.end) refl h (unit_there us u)
  where
    go : (b : Bool) → (same_second v.start u.start && same_second v.end u.end) ≡ b → (b || is_unit_of us u) ≡ true → (is_unit_of us u ≡ true → Has u us) → Has u (v ∷ us)
    go true e h more =
        let p = and_parts (same_second v.start u.start) (same_second v.end u.end) e in
        let starts = second_is v.start u.start p.0 in
        let ends = second_is v.end u.end p.1 in
        inl (λ i. record { start = starts i; end = ends i })
    go false e h more = inr (more h)

-- each item of a list that keeps the rules of a book is found by its key
module _ (b : Book) (well : is_well_formed_book b ≡ true) where
  abbrev all : List Snapshot
  all = b.snapshots

  abbrev rule : Option Snapshot → Snapshot → Bool
  rule = is_snapshot_fit b.version all

  first_below : (s : Snapshot) (ss : List Snapshot) → all_fit rule (Some s) ss ≡ true → below_first ref_cmp snapshot_ref (snapshot_ref s) ss ≡ true
  first_below s [] h = refl
  first_below s (t ∷ ts) h = and_left (is_above ref_cmp snapshot_ref (Some s) t) _ (and_left (rule (Some s) t) (all_fit rule (Some t) ts) h)

  rise : (before : Option Snapshot) (ss : List Snapshot) → all_fit rule before ss ≡ true → ascends ref_cmp snapshot_ref ss ≡ true
  rise before [] h = refl
  rise before (s ∷ ss) h =
      let rest = and_right (rule before s) (all_fit rule (Some s) ss) h in
      and_both (below_first ref_cmp snapshot_ref (snapshot_ref s) ss) (ascends ref_cmp snapshot_ref ss) (first_below s ss rest) (rise (Some s) ss rest)

  all_rise : ascends ref_cmp snapshot_ref all ≡ true
  all_rise = rise None all (and_left (all_fit rule None all) _ (and_right (is_moment b.moment && is_version b.version) _ well))

  each_by : (P : Snapshot → Type 0) (ss : List Snapshot) → AllByRecursion P ss → (s : Snapshot) → Has s ss → P s
  each_by P [] h s i = absurd i
  each_by P (t ∷ ts) h s (inl e) = subst P e h.0
  each_by P (t ∷ ts) h s (inr i) = each_by P ts h.1 s i

  pub known_there : (s : Snapshot) → Has s all → IsSnapshot all s
  known_there s h = each_by (λ (t : Snapshot). IsSnapshot all t) all (each_found ref_cmp refs_total snapshot_ref all all_rise) s h

  -- what holds of the closures of all snapshots holds of all that one of them stands on
  module _ (P : Closure → Type 0) (each : (s : Snapshot) → IsSnapshot all s → P (closing all s)) where
    parents_each : (rank : ℕ) → ((s : Snapshot) → s.rank < rank → IsSnapshot all s → Each P (standing (closing all s))) → (refs : List Ref) → ((r : Ref) → Has r refs → IsParent all rank r)
        → Each P (ancestors (parents_by (closing all) all refs))
    parents_each rank rest [] f = tt
    parents_each rank rest (r ∷ rs) f =
        let p = f r (inl refl) in
        subst (λ o. Each P (ancestors (with_parent (option_map (closing all) o) (parents_by (closing all) all rs)))) (sym p.known)
        (Each_both P (standing (closing all p.snapshot)) (ancestors (parents_by (closing all) all rs)) (rest p.snapshot p.lower (is_its_own all r p.snapshot p.known)) (parents_each rank rest rs (λ q k. f q (inr k))))

    one_each : (s : Snapshot) → IsSnapshot all s → ((t : Snapshot) → t.rank < s.rank → IsSnapshot all t → Each P (standing (closing all t))) → Each P (standing (closing all s))
    one_each s known rest =
        let is = closing_is b well s known in
        subst (λ c. Each P (standing c)) (sym is) (subst P is (each s known), parents_each s.rank rest s.parents (fits b s well known).parents)

    below : (k : ℕ) (s : Snapshot) → s.rank < k → IsSnapshot all s → Each P (standing (closing all s))
    below zero s l known = absurd (omega (arith, l))
    below (suc k) s l known = one_each s known (λ t less it. below k t (omega (arith, l, less)) it)

    pub all_standing : (s : Snapshot) → IsSnapshot all s → Each P (standing (closing all s))
    all_standing s known = below (suc s.rank) s (omega arith) known

own_of_closed : (list : List Snapshot) (depth : ℕ) (s : Snapshot) → own_of (closed list depth s) ≡ s.own
own_of_closed list zero s = refl
own_of_closed list (suc depth) s = refl

full_reaches : (c : Closure) → (own_of c).kind ≡ Full → is_steady c ≡ true → reaches_timed c ≡ false
full_reaches (Model own parents) e h = not_is (reaches_timed (Model own parents)) (sym (ap (is_steady_as own parents) e) ∙ h)
  where
    not_is : (b : Bool) → not b ≡ true → b ≡ false
    not_is true h = absurd (cc)
    not_is false h = refl

-- nothing is asked of views and seeds
free : (c : Closure) (k : Kind) → (own_of c).kind ≡ k → is_computed k ≡ false → is_steady c ≡ true
free (Model own parents) View e h = ap (is_steady_as own parents) e
free (Model own parents) Seed e h = ap (is_steady_as own parents) e
free (Model own parents) Full e h = absurd (cc)
free (Model own parents) (Incremental time lookback) e h = absurd (cc)

module _ (x : Parts) (w : World) (sound : Sound x w) (steady : IsSteadyBook w.book) (t : ℤ) (le : w.book.moment ≤ℤ t) (clock later : Clock) (now : Shows clock w.book.moment) (then_ : Shows later t) (after : List Input) (arrives : Arrives w after) where
  abbrev snapshots : List Snapshot
  snapshots = w.book.snapshots

  well : is_well_formed_book w.book ≡ true
  well = sound.book.well_formed

  abbrev Kept : Closure → Type 0
  Kept = Fine w.sources after clock later

  own_is : (s : Snapshot) → own_of (closing snapshots s) ≡ s.own
  own_is s = own_of_closed snapshots s.rank s

  steady_at : (s : Snapshot) → IsSnapshot snapshots s → is_steady (closing snapshots s) ≡ true
  steady_at s known = by_kind s.own.kind refl (steady.steady s known)
    where
      by_kind : (k : Kind) → s.own.kind ≡ k → (is_computed k ≡ true → is_steady (closing snapshots s) ≡ true) → is_steady (closing snapshots s) ≡ true
      by_kind Full e h = h refl
      by_kind (Incremental time lookback) e h = h refl
      by_kind View e h = free (closing snapshots s) View (ap (λ (o : Own). o.kind) (own_is s) ∙ e) refl
      by_kind Seed e h = free (closing snapshots s) Seed (ap (λ (o : Own). o.kind) (own_is s) ∙ e) refl

  one_kept : (s : Snapshot) → IsSnapshot snapshots s → Kept (closing snapshots s)
  one_kept s known = record {
    kept = record {
      body = subst (λ (o : Own). is_body_of o.kind o.defn ≡ true) (sym (own_is s)) (its_body w.book s well known);
      steady = steady_at s known;
      static = subst (λ (o : Own). All (StaysStatic w.sources after) o.sources) (sym (own_is s)) (arrives.static s known);
      timed = λ timed. subst (λ (o : Own). All (KeepsUnits w.sources after (schedule clock (closing snapshots s))) o.sources) (sym (own_is s))
          (arrives.timed clock now s known (subst (λ (o : Own). is_incremental o.kind ≡ true) (own_is s) timed));
      no_earlier = horizon_grows clock later (closing snapshots s) (earlier w.book.moment t clock later le now then_ (standing (closing snapshots s)) (closed_crons snapshots sound.typed.crons s.rank s known));
    };
    even = steady.even s known;
  }

  all_kept : (s : Snapshot) → IsSnapshot snapshots s → Each Kept (standing (closing snapshots s))
  all_kept = all_standing w.book well Kept one_kept

  unit_stays : (s : Snapshot) → IsSnapshot snapshots s → (u : Bounds) (k : Kind) → s.own.kind ≡ k → unit_moves w clock later after s u k ≡ false
  unit_stays s known u (Incremental time lookback) e =
      let c = closing snapshots s in
      let timed : is_incremental (own_of c).kind ≡ true = ap (λ (o : Own). is_incremental o.kind) (own_is s) ∙ ap is_incremental e in
      and_no (is_unit_of (schedule clock c) u) (holds w.book s.object u && not (same_bag (piece w.sources clock c u) (piece after later c u)))
      (λ there. and_not (holds w.book s.object u) (same_bag (piece w.sources clock c u) (piece after later c u))
      (bags_are (piece w.sources clock c u) (piece after later c u) (pieces_stay w.sources after clock later c (all_kept s known) timed u (Has_to (schedule clock c) u (unit_there (schedule clock c) u there)))))
  unit_stays s known u Full e = refl
  unit_stays s known u View e = refl
  unit_stays s known u Seed e = refl

  whole_stays : (s : Snapshot) → IsSnapshot snapshots s → (k : Kind) → s.own.kind ≡ k → whole_moves w clock later after s k ≡ false
  whole_stays s known Full e =
      let c = closing snapshots s in
      let kind : (own_of c).kind ≡ Full = ap (λ (o : Own). o.kind) (own_is s) ∙ e in
      and_no (are_marks (marks_of (version_of w.book s.object)) (marks clock c)) (same_marks (marks clock c) (marks later c) && not (same_bag (from_scratch w.sources clock c) (from_scratch after later c)))
      (λ recorded. and_no (same_marks (marks clock c) (marks later c)) (not (same_bag (from_scratch w.sources clock c) (from_scratch after later c)))
      (λ same. ap not (bags_are (from_scratch w.sources clock c) (from_scratch after later c)
      (whole_same w.sources after clock later c (all_kept s known) (same_horizons clock later c (sound.book.names s known) same)
      (λ i. not (is_incremental (kind i)) && full_reaches c kind (steady_at s known) i)))))
  whole_stays s known (Incremental time lookback) e = refl
  whole_stays s known View e = refl
  whole_stays s known Seed e = refl

  pub nothing_moves : (p : Forget) → moved w clock later after p ≡ false
  nothing_moves (Range object start end) =
      none_passes (λ (s : Snapshot). same_name s.object object && unit_moves w clock later after s (record { start = start; end = end }) s.own.kind) snapshots
      (λ s h. and_no (same_name s.object object) (unit_moves w clock later after s (record { start = start; end = end }) s.own.kind) (λ its. unit_stays s (known_there w.book well s h) (record { start = start; end = end }) s.own.kind refl))
  nothing_moves (Marks object) =
      none_passes (λ (s : Snapshot). same_name s.object object && whole_moves w clock later after s s.own.kind) snapshots
      (λ s h. and_no (same_name s.object object) (whole_moves w clock later after s s.own.kind) (λ its. whole_stays s (known_there w.book well s h) s.own.kind refl))
