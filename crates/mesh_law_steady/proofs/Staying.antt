-- The units of a steady model keep their rows.
use Rattle.std.proofs.Common.{◌≡◌, ℕ, zero, suc, ◌+◌, ◌<◌, ◌≤◌, ℤ, pos, ◌*ℤ◌, ◌≤ℤ◌, Bool, true, false, not, ◌&&◌, cond, inl, inr, List, [], ◌∷◌, ◌++◌, map, refl, sym, ap, ◌∙◌, subst, arith}
use Rattle.std.specs.List.{Contains, filter, find, flat_map, list_all, list_any, range_with_len}
use Rattle.std.specs.Int.Signed.{le_z, lt_z}
use Rattle.std.specs.Option.{is_some}
use Rattle.std.specs.declared.option.Option.{Option}
use Rattle.std.specs.declared.option.Option.TheVariants.{None, Some}
use Rattle.std.proofs.lemmas.Bool.{and_parts, not-true as not_true, or_parts as neither}
use Rattle.std.proofs.lemmas.Int.{ints}
use Rattle.std.proofs.lemmas.List.Elements.{filter-append}
use Rattle.mesh_base_values.specs.Bag.{IsSameBag, times}
use Rattle.mesh_base_values.specs.Kinds.{is_incremental, time_column}
use Rattle.mesh_base_values.specs.declared.kinds.Kind.{Kind}
use Rattle.mesh_base_values.specs.declared.kinds.Kind.TheVariants.{Full, View, Seed, Incremental}
use Rattle.mesh_base_values.specs.declared.times.Bounds.{Bounds}
use Rattle.mesh_base_values.specs.declared.times.Schedule.{Schedule}
use Rattle.mesh_base_values.specs.declared.times.Unit.{Unit as TimeUnit}
use Rattle.mesh_base_values.specs.declared.values.Cell.{Cell}
use Rattle.mesh_base_values.specs.declared.values.Column.{Column}
use Rattle.mesh_base_values.specs.declared.values.Name.{Name}
use Rattle.mesh_base.specs.Outputs.{columns_of}
use Rattle.mesh_base.specs.declared.definitions.Decl.{Decl}
use Rattle.mesh_base.specs.declared.definitions.Defn.{Defn}
use Rattle.mesh_base.specs.declared.definitions.Defn.TheVariants as defn
use Rattle.mesh_base.specs.declared.definitions.Own.{Own}
use Rattle.mesh_base.specs.declared.jobs.Input.{Input}
use Rattle.mesh_base.specs.rules.Proper.{defn_names, is_body_of}
use Rattle.mesh_time.specs.Ranges.{unit_at, unit_count, units}
use Rattle.mesh_time.proofs.Apart.{lt_false}
use Rattle.mesh_time.proofs.Units.{unit_listed}
use Rattle.mesh_time_days.specs.seconds.Times.{is_within, lies_in, time_of}
use Rattle.mesh_base_values.specs.Picked.{cell_of}
use Rattle.mesh_base_values.proofs.Tests.{by_lt, le_says}
use Rattle.mesh_spec_model.specs.Closures.{Closure, Closures, Model, Alone, With, ancestors, each_of, own_of, standing}
use Rattle.mesh_spec_model.specs.Horizons.{Clock, horizon, schedule, units_from}
use Rattle.mesh_spec_model.specs.Scratch.{defn_rows, from_scratch, inputs_of, lies_by, no_bounds, piece, piece_over, rows_over, table_of, tables}
use Rattle.mesh_spec_model.specs.Sources.{declared, declared_rows, inputs}
use Rattle.mesh_law_query.specs.Alike.{IsSameTable, named}
use Rattle.mesh_law_query.proofs.Bags.{bag_is_perm, counts_same}
use Rattle.mesh_law_query.proofs.Has.{Has, Has_map, Has_to}
use Rattle.mesh_law_query.proofs.Lists.{Each, Each_left, Each_right, each}
use Rattle.mesh_law_query.proofs.Models.{piece_bag}
use Rattle.mesh_law_query.proofs.Perm.{Perm, appended, filtered, is, nil, trans}
use Rattle.mesh_spec_changes.specs.steady.Arrives.{KeepsUnits, StaysStatic, from_its_day}
use Rattle.mesh_spec_changes.specs.steady.Even.{is_even}
use Rattle.mesh_spec_changes.specs.steady.Steady.{has_timed_source, is_defn_bound, is_steady_as, is_timed_source, is_timeless, parent_named, source_declared}
use Rattle.mesh_law_steady.specs.Days.{IsOfDay}
use Rattle.mesh_law_steady.specs.Kept.{IsKept}
use Rattle.mesh_law_steady.specs.Near.{inputs_with, near, near_model, near_source}
use Rattle.mesh_law_steady.proofs.Both.{all_of}
use Rattle.mesh_law_steady.proofs.Finding.{finds, found_with, near_piece, tables_are}
use Rattle.mesh_law_steady.proofs.Names.{MayName, may_find, may_read, names_read}
use Rattle.mesh_law_steady.proofs.Units.{FitUnits, IsUnitOf, behind, fit_units, no_further, of_day, unit_of_schedule}

abbrev Row : Type 0
Row = List Cell

-- items of a list of units, and of one that goes further
filter_flat : {X : Type 0} (t : Row → Bool) (f : X → List Row) (xs : List X) → filter t (flat_map f xs) ≡ flat_map (λ x. filter t (f x)) xs
filter_flat t f [] = refl
filter_flat t f (x ∷ xs) = filter-append t (f x) (flat_map f xs) ∙ ap (λ l. filter t (f x) ++ l) (filter_flat t f xs)

none_of_them : (g : Bounds → List Row) (at : ℕ → Bounds) (i m : ℕ) → ((k : ℕ) → i ≤ k → g (at k) ≡ []) → flat_map g (map at (range_with_len i m)) ≡ []
none_of_them g at i zero h = refl
none_of_them g at i (suc m) h = (λ j. h i (omega arith) j ++ none_of_them g at (i + 1) m (λ k l. h k (omega (arith, l))) j)

further : (f g : Bounds → List Row) (at : ℕ → Bounds) (i n m : ℕ) → n ≤ m → ((k : ℕ) → i ≤ k → k < i + n → Perm (f (at k)) (g (at k))) → ((k : ℕ) → i + n ≤ k → g (at k) ≡ [])
    → Perm (flat_map f (map at (range_with_len i n))) (flat_map g (map at (range_with_len i m)))
further f g at i zero m le same none = subst (λ l. Perm [] l) (sym (none_of_them g at i m (λ k l. none k (omega (arith, l))))) nil
further f g at i (suc n) zero le same none = absurd (omega (arith, le))
further f g at i (suc n) (suc m) le same none =
    appended (same i (omega arith) (omega arith))
    (further f g at (i + 1) n m (omega (arith, le)) (λ k low high. same k (omega (arith, low)) (omega (arith, high))) (λ k l. none k (omega (arith, l))))

-- rows of a unit that begins no earlier than another ends don't lie there
time_apart : (u v : Bounds) → u.end ≤ℤ v.start → (t : Option ℤ) → is_within v t ≡ true → is_within (from_its_day u) t ≡ false
time_apart u v le None h = refl
time_apart u v le (Some t) h =
    let p = and_parts (le_z v.start t) (lt_z t v.end) h in
    let low = le_says v.start t p.0 in
    and_no (le_z (from_its_day u).start t) (lt_z t u.end) (lt_false t u.end (omega (arith, ints, low, le)))
  where
    and_no : (a b : Bool) → b ≡ false → (a && b) ≡ false
    and_no true b e = e
    and_no false b e = refl

nothing_within : (u v : Bounds) → u.end ≤ℤ v.start → (time : List ℕ) (cs : List Column) (rows : List Row) → filter (lies_in cs time (from_its_day u)) (filter (lies_in cs time v) rows) ≡ []
nothing_within u v le time cs [] = refl
nothing_within u v le time cs (row ∷ rows) = go (lies_in cs time v row) refl (nothing_within u v le time cs rows)
  where
    go : (b : Bool) → lies_in cs time v row ≡ b → filter (lies_in cs time (from_its_day u)) (filter (lies_in cs time v) rows) ≡ []
        → filter (lies_in cs time (from_its_day u)) (cond b (row ∷ filter (lies_in cs time v) rows) (filter (lies_in cs time v) rows)) ≡ []
    go false e ih = ih
    go true e ih =
        ap (λ b. cond b (row ∷ filter (lies_in cs time (from_its_day u)) (filter (lies_in cs time v) rows)) (filter (lies_in cs time (from_its_day u)) (filter (lies_in cs time v) rows)))
        (time_apart u v le (time_of (cell_of cs row time)) e) ∙ ih

nothing_near : (u v : Bounds) → u.end ≤ℤ v.start → (time : Option (List ℕ)) (cs : List Column) (rows : List Row) → near u time cs (filter (lies_by time cs v) rows) ≡ []
nothing_near u v le None cs [] = refl
nothing_near u v le None cs (row ∷ rows) = nothing_near u v le None cs rows
nothing_near u v le (Some time) cs rows = nothing_within u v le time cs rows

near_flat : (u : Bounds) (time : Option (List ℕ)) (cs : List Column) (f : Bounds → List Row) (us : List Bounds) → near u time cs (flat_map f us) ≡ flat_map (λ v. near u time cs (f v)) us
near_flat u None cs f us = refl
near_flat u (Some time) cs f us = filter_flat (lies_in cs time (from_its_day u)) f us

near_perm : (u : Bounds) (time : Option (List ℕ)) (cs : List Column) {xs ys : List Row} → Perm xs ys → Perm (near u time cs xs) (near u time cs ys)
near_perm u None cs p = p
near_perm u (Some time) cs p = filtered (lies_in cs time (from_its_day u)) p

-- what is found stands in the list
found_has : {X : Type 0} (p : X → Bool) (xs : List X) (x : X) → find p xs ≡ Some x → Has x xs
found_has p [] x e = absurd (cc)
found_has p (y ∷ ys) x e = go (p y) e (found_has p ys x)
  where
    go : (b : Bool) → cond b (Some y) (find p ys) ≡ Some x → (find p ys ≡ Some x → Has x ys) → Has x (y ∷ ys)
    go true e more = inl (let same : y ≡ x = cc in same)
    go false e more = inr (more e)

has_each : {X : Type 0} (P : X → Type 0) (xs : List X) (x : X) → Each P xs → Has x xs → P x
has_each P [] x h i = absurd i
has_each P (y ∷ ys) x h (inl e) = subst P e h.0
has_each P (y ∷ ys) x h (inr i) = has_each P ys x h.1 i

pub same_list : {xs ys : List Row} → xs ≡ ys → IsSameBag xs ys
same_list {xs} {ys} e = let P : List Row → Type 0 = λ l. IsSameBag xs l in subst P e (λ row. refl)

pub untimed : (d : Decl) → is_timed_source d ≡ false → d.time ≡ None
untimed d h = go d.time h
  where
    go : (o : Option (List ℕ)) → is_some o ≡ false → o ≡ None
    go None h = refl
    go (Some t) h = absurd (cc)

has_at : (a n j : ℕ) → j < n → Has (a + j) (range_with_len a n)
has_at a zero j l = absurd (omega (arith, l))
has_at a (suc n) zero l = inl (omega arith)
has_at a (suc n) (suc j) l = inr (subst (λ k. Has k (range_with_len (a + 1) n)) (omega arith) (has_at (a + 1) n j (omega (arith, l))))

each_where : {X : Type 0} (P Q : X → Type 0) (xs : List X) → Each P xs → ((x : X) → Has x xs → P x → Q x) → Each Q xs
each_where P Q [] h f = tt
each_where P Q (x ∷ xs) h f = (f x (inl refl) h.0, each_where P Q xs h.1 (λ y i p. f y (inr i) p))

-- the units of a schedule that ends no earlier are no fewer
no_fewer : (day a b : ℤ) (unit : TimeUnit) → a ≤ℤ b → unit_count (record { start = day *ℤ pos 86_400; end = a; unit = unit }) ≤ unit_count (record { start = day *ℤ pos 86_400; end = b; unit = unit })
no_fewer day a b unit le =
    let s : Schedule = record { start = day *ℤ pos 86_400; end = a; unit = unit } in
    let t : Schedule = record { start = day *ℤ pos 86_400; end = b; unit = unit } in
    by_lt (unit_count t) (unit_count s)
    (λ less. let ends : (unit_at s (unit_count t)).end ≤ℤ a = (unit_listed s (unit_count t)).0 less in let again : unit_count t < unit_count t = (unit_listed t (unit_count t)).1 (omega (arith, ints, ends, le)) in absurd (omega (arith, again)))
    (λ few. few)

-- a steady incremental model's FROM items are bound
pub its_items : (own : Own) (parents : Closures) (k : Kind) → is_incremental k ≡ true → is_steady_as own parents k ≡ true → is_defn_bound own parents own.defn ≡ true
its_items own parents (Incremental time lookback) e h = h
its_items own parents Full e h = absurd (cc)
its_items own parents View e h = absurd (cc)
its_items own parents Seed e h = absurd (cc)

-- a model that is kept and even
pub record Fine (before after : List Input) (clock later : Clock) (c : Closure) : Type 0 where
  pub kept : IsKept before after clock later c
  pub even : is_even c ≡ true

module _ (before after : List Input) (clock later : Clock) where
  abbrev Kept : Closure → Type 0
  Kept = Fine before after clock later

  pub source_same : (d : Decl) → StaysStatic before after d → d.time ≡ None → declared before d ≡ declared after d
  source_same d stays none = λ i. record { name = d.name; columns = d.columns; rows = declared_rows d.columns (stays none i) }

  -- models that reach no timed source and no incremental model
  abbrev Timeless : Closure → Bool
  Timeless s = not (has_timed_source (own_of s)) && not (is_incremental (own_of s).kind)

  sources_same : (ds : List Decl) → Each (StaysStatic before after) ds → list_any is_timed_source ds ≡ false → map (declared before) ds ≡ map (declared after) ds
  sources_same [] h none = refl
  sources_same (d ∷ ds) h none = let n = neither (is_timed_source d) (list_any is_timed_source ds) none in λ i. source_same d h.0 (untimed d n.0) i ∷ sources_same ds h.1 n.1 i

  pub at_once : (own : Own) (inputs : List Input) (us : List Bounds) → is_incremental own.kind ≡ false → rows_over own inputs us ≡ defn_rows own.defn inputs no_bounds
  at_once own inputs us e = ap (λ b. cond b (flat_map (piece_over own inputs) us) (defn_rows own.defn inputs no_bounds)) e

  mutual
    pub timeless_same : (c : Closure) → list_all Timeless (standing c) ≡ true → Each Kept (standing c) → from_scratch before clock c ≡ from_scratch after later c
    timeless_same (Model own parents) t kept =
        let p = and_parts (Timeless (Model own parents)) (list_all Timeless (ancestors parents)) t in
        let q = and_parts (not (has_timed_source own)) (not (is_incremental own.kind)) p.0 in
        let whole = not_true (is_incremental own.kind) q.1 in
        at_once own (inputs before own (tables before clock parents)) (schedule clock (Model own parents)) whole
        ∙ (λ i. defn_rows own.defn (sources_same own.sources (each (StaysStatic before after) own.sources kept.0.kept.static) (not_true (has_timed_source own) q.0) i ++ timeless_tables parents p.1 kept.1 i) no_bounds)
        ∙ sym (at_once own (inputs after own (tables after later parents)) (schedule later (Model own parents)) whole)

    timeless_tables : (cs : Closures) → list_all Timeless (ancestors cs) ≡ true → Each Kept (ancestors cs) → tables before clock cs ≡ tables after later cs
    timeless_tables Alone t kept = refl
    timeless_tables (With c cs) t kept =
        let p = both_parts (standing c) (ancestors cs) t in
        λ i. table_of (own_of c) (timeless_same c p.0 (Each_left Kept (standing c) (ancestors cs) kept) i) ∷ timeless_tables cs p.1 (Each_right Kept (standing c) (ancestors cs) kept) i
      where
        both_parts : (xs ys : List Closure) → list_all Timeless (xs ++ ys) ≡ true → (list_all Timeless xs ≡ true) × (list_all Timeless ys ≡ true)
        both_parts [] ys h = (refl, h)
        both_parts (x ∷ xs) ys h =
            let p = and_parts (Timeless x) (list_all Timeless (xs ++ ys)) h in
            let q = both_parts xs ys p.1 in
            ((λ i. p.0 i && q.0 i), q.1)

  -- the units of a model's schedule keep their rows
  abbrev pub Stays : Closure → Type 0
  Stays c = is_incremental (own_of c).kind ≡ true → (u : Bounds) → Contains (schedule clock c) u → IsSameBag (piece before clock c u) (piece after later c u)

  -- an incremental model's rows are those of its units
  pub by_units : (sources : List Input) (now : Clock) (c : Closure) → is_incremental (own_of c).kind ≡ true → from_scratch sources now c ≡ flat_map (piece sources now c) (schedule now c)
  by_units sources now (Model own parents) e =
      ap (λ b. cond b (flat_map (piece_over own (inputs_of sources now (Model own parents))) (schedule now (Model own parents))) (defn_rows own.defn (inputs_of sources now (Model own parents)) no_bounds)) e

  -- an incremental parent's rows near a unit stay
  module _ (c : Closure) (timed : is_incremental (own_of c).kind ≡ true) (grows : horizon clock c ≤ℤ horizon later c) (stays : Stays c) (u : Bounds) where
    abbrev time : Option (List ℕ)
    time = time_column (own_of c).kind

    abbrev cs : List Column
    cs = columns_of (own_of c)

    abbrev f : Bounds → List Row
    f v = near u time cs (piece before clock c v)

    abbrev g : Bounds → List Row
    g v = near u time cs (piece after later c v)

    by_start : (start : Option ℤ) → (own_of c).start ≡ start → ((day : ℤ) → start ≡ Some day → (k : ℕ) → unit_count (record { start = day *ℤ pos 86_400; end = horizon clock c; unit = (own_of c).unit }) ≤ k
        → u.end ≤ℤ (unit_at (record { start = day *ℤ pos 86_400; end = horizon clock c; unit = (own_of c).unit }) k).start)
        → Perm (flat_map f (units_from start (own_of c).unit (horizon clock c))) (flat_map g (units_from start (own_of c).unit (horizon later c)))
    by_start None e ends = nil
    by_start (Some day) e ends =
        let s : Schedule = record { start = day *ℤ pos 86_400; end = horizon clock c; unit = (own_of c).unit } in
        let t : Schedule = record { start = day *ℤ pos 86_400; end = horizon later c; unit = (own_of c).unit } in
        let one : (k : ℕ) → k < unit_count s → Perm (f (unit_at s k)) (g (unit_at s k)) = λ k l.
        near_perm u time cs (bag_is_perm (piece before clock c (unit_at s k)) (piece after later c (unit_at s k))
        (stays timed (unit_at s k) (subst (λ o. Contains (units_from o (own_of c).unit (horizon clock c)) (unit_at s k)) (sym e) (unit_there s k l)))) in
        further f g (unit_at s) 0 (unit_count s) (unit_count t) (no_fewer day (horizon clock c) (horizon later c) (own_of c).unit grows)
        (λ k low high. one k (omega (arith, high)))
        (λ k l. nothing_near u (unit_at s k) (ends day refl k (omega (arith, l))) time cs (defn_rows (own_of c).defn (inputs_of after later c) (unit_at s k)))
      where
        unit_there : (s : Schedule) (k : ℕ) → k < unit_count s → Contains (units s) (unit_at s k)
        unit_there s k l = Has_to (units s) (unit_at s k) (Has_map (unit_at s) (range_with_len 0 (unit_count s)) k (unit_at s k) (subst (λ n. Has n (range_with_len 0 (unit_count s))) (omega arith) (has_at 0 (unit_count s) k l)) refl)

    pub near_stays : (start : Option ℤ) (one : TimeUnit) (end : ℤ) → IsUnitOf start one end u → FitUnits one (own_of c).unit (horizon clock c) → u.end ≤ℤ horizon clock c
        → Perm (near_model u (from_scratch before clock) c) (near_model u (from_scratch after later) c)
    near_stays start one end i fit le =
        trans (is _ _ (ap (near u time cs) (by_units before clock c timed) ∙ near_flat u time cs (piece before clock c) (schedule clock c)))
        (trans (by_start (own_of c).start refl (λ day e k more. behind start one end u i (own_of c).unit day (horizon clock c) fit le k more))
        (is _ _ (sym (ap (near u time cs) (by_units after later c timed) ∙ near_flat u time cs (piece after later c) (schedule later c)))))

  -- what a model's sources show near a unit of it stays
  source_stays : (d : Decl) (units : List Bounds) → StaysStatic before after d → KeepsUnits before after units d → (u : Bounds) → Contains units u
      → IsSameBag (near_source u (λ d. (declared before d).rows) d) (near_source u (λ d. (declared after d).rows) d)
  source_stays d units static timed u there = go d.time refl
    where
      go : (o : Option (List ℕ)) → d.time ≡ o → IsSameBag (near u o d.columns (declared before d).rows) (near u o d.columns (declared after d).rows)
      go None e = same_list (λ i. (source_same d static e i).rows)
      go (Some time) e = timed time e u there

  -- what is read of its parents stays near a unit
  abbrev ParentStays : Bounds → Closure → Type 0
  ParentStays u c = may_read c (own_of c).kind ≡ true → IsSameBag (near_model u (from_scratch before clock) c) (near_model u (from_scratch after later) c)

  abbrev SourceStays : Bounds → Decl → Type 0
  SourceStays u d = IsSameBag (near_source u (λ d. (declared before d).rows) d) (near_source u (λ d. (declared after d).rows) d)

  module _ (own : Own) (parents : Closures) (u : Bounds) where
    abbrev first : List Input
    first = inputs_with (near_source u (λ d. (declared before d).rows)) (near_model u (from_scratch before clock)) own parents

    abbrev second : List Input
    second = inputs_with (near_source u (λ d. (declared after d).rows)) (near_model u (from_scratch after later)) own parents

    found_stays : (d : Option Decl) (c : Option Closure) → ((x : Decl) → d ≡ Some x → SourceStays u x) → ((x : Closure) → c ≡ Some x → ParentStays u x) → may_find d c ≡ true
        → IsSameTable (found_with (near_source u (λ d. (declared before d).rows)) (near_model u (from_scratch before clock)) d c) (found_with (near_source u (λ d. (declared after d).rows)) (near_model u (from_scratch after later)) d c)
    found_stays (Some d) c sources models may = (refl, sources d refl)
    found_stays None (Some c) sources models may = (refl, models c refl may)
    found_stays None None sources models may = absurd (cc)

    name_stays : Each (SourceStays u) own.sources → Each (ParentStays u) (each_of parents) → (name : Name) → MayName own parents name → IsSameTable (named first name) (named second name)
    name_stays sources models name may =
        let l = sym (finds (near_source u (λ d. (declared before d).rows)) (near_model u (from_scratch before clock)) name own parents) in
        let r = sym (finds (near_source u (λ d. (declared after d).rows)) (near_model u (from_scratch after later)) name own parents) in
        subst (λ (p : Option Input × Option Input). IsSameTable p.0 p.1) (λ i. (l i, r i))
        (found_stays (source_declared own name) (parent_named parents name)
        (λ x e. has_each (SourceStays u) own.sources x sources (found_has _ own.sources x e))
        (λ x e. has_each (ParentStays u) (each_of parents) x models (found_has _ (each_of parents) x e)) may)

    names_stay : Each (SourceStays u) own.sources → Each (ParentStays u) (each_of parents) → (names : List Name) → Each (MayName own parents) names → Each (λ name. IsSameTable (named first name) (named second name)) names
    names_stay sources models [] h = tt
    names_stay sources models (name ∷ names) h = (name_stays sources models name h.0, names_stay sources models names h.1)

    -- the unit's rows are those over near rows, before and after
    unit_stays : IsOfDay u → is_defn_bound own parents own.defn ≡ true → Each (SourceStays u) own.sources → Each (ParentStays u) (each_of parents)
        → IsSameBag (piece before clock (Model own parents) u) (piece after later (Model own parents) u)
    unit_stays of bound sources models =
        let l : piece before clock (Model own parents) u ≡ piece_over own first u =
        ap (λ ts. piece_over own (inputs before own ts) u) (tables_are before clock parents) ∙ near_piece own parents u of (λ d. (declared before d).rows) (from_scratch before clock) bound in
        let r : piece after later (Model own parents) u ≡ piece_over own second u =
        ap (λ ts. piece_over own (inputs after own ts) u) (tables_are after later parents) ∙ near_piece own parents u of (λ d. (declared after d).rows) (from_scratch after later) bound in
        let same = piece_bag first second own (all_of (λ name. IsSameTable (named first name) (named second name)) (defn_names own.defn) (names_stay sources models (defn_names own.defn) (names_read own parents own.defn bound))) u in
        λ row. ap (times row) l ∙ same row ∙ sym (ap (times row) r)

  its_own : (c : Closure) → Each Kept (standing c) → Kept c
  its_own (Model own parents) h = h.0

  -- a seed has its rows
  seed_same : (c : Closure) → (own_of c).kind ≡ Seed → is_body_of (own_of c).kind (own_of c).defn ≡ true → from_scratch before clock c ≡ from_scratch after later c
  seed_same (Model own parents) e body =
      at_once own (inputs before own (tables before clock parents)) (schedule clock (Model own parents)) (ap is_incremental e)
      ∙ go own.defn (ap (λ k. is_body_of k own.defn) (sym e) ∙ body) ∙ sym (at_once own (inputs after own (tables after later parents)) (schedule later (Model own parents)) (ap is_incremental e))
    where
      go : (d : Defn) → is_body_of Seed d ≡ true → defn_rows d (inputs before own (tables before clock parents)) no_bounds ≡ defn_rows d (inputs after own (tables after later parents)) no_bounds
      go (defn.Seed columns rows) h = refl
      go (defn.Sql q) h = absurd (cc)

  -- a parent that is read, by its kind
  parent_stays : (own : Own) (parents : Closures) (u : Bounds) → is_incremental own.kind ≡ true → Kept (Model own parents) → Contains (schedule clock (Model own parents)) u
      → (c : Closure) → Has c (each_of parents) → Each Kept (standing c) → Stays c → ParentStays u c
  parent_stays own parents u timed kept there c among rest stays = go (own_of c).kind refl
    where
      whole : is_timeless c ≡ true → IsSameBag (near_model u (from_scratch before clock) c) (near_model u (from_scratch after later) c)
      whole t = same_list (ap (near u (time_column (own_of c).kind) (columns_of (own_of c))) (timeless_same c t rest))

      seed : (own_of c).kind ≡ Seed → IsSameBag (near_model u (from_scratch before clock) c) (near_model u (from_scratch after later) c)
      seed e = same_list (ap (near u (time_column (own_of c).kind) (columns_of (own_of c))) (seed_same c e (its_own c rest).kept.body))

      go : (k : Kind) → (own_of c).kind ≡ k → may_read c k ≡ true → IsSameBag (near_model u (from_scratch before clock) c) (near_model u (from_scratch after later) c)
      go Seed e may = seed e
      go Full e may = whole may
      go View e may = whole may
      go (Incremental time lookback) e may =
          let is : is_incremental (own_of c).kind ≡ true = ap is_incremental e in
          let i = unit_of_schedule own.start own.unit (horizon clock (Model own parents)) u there in
          let no_more = no_further clock own parents c timed among is in
          counts_same (near_stays c is (its_own c rest).kept.no_earlier stays u own.start own.unit (horizon clock (Model own parents)) i
          (fit_units clock own parents c kept.even timed among is) (omega (arith, ints, i.ends, no_more)))

  sources_stay : (ds : List Decl) (units : List Bounds) → Each (StaysStatic before after) ds → Each (KeepsUnits before after units) ds → (u : Bounds) → Contains units u → Each (SourceStays u) ds
  sources_stay [] units static timed u there = tt
  sources_stay (d ∷ ds) units static timed u there = (source_stays d units static.0 timed.0 u there, sources_stay ds units static.1 timed.1 u there)

  mutual
    pub pieces_stay : (c : Closure) → Each Kept (standing c) → Stays c
    pieces_stay (Model own parents) kept timed u there =
        unit_stays own parents u (of_day own.start own.unit (horizon clock (Model own parents)) u there) (its_items own parents own.kind timed kept.0.kept.steady)
        (sources_stay own.sources (schedule clock (Model own parents)) (each (StaysStatic before after) own.sources kept.0.kept.static)
        (each (KeepsUnits before after (schedule clock (Model own parents))) own.sources (kept.0.kept.timed timed)) u there)
        (each_where (λ c. Each Kept (standing c) × Stays c) (ParentStays u) (each_of parents) (parents_stay parents kept.1) (λ c among p. parent_stays own parents u timed kept.0 there c among p.0 p.1))

    parents_stay : (cs : Closures) → Each Kept (ancestors cs) → Each (λ c. Each Kept (standing c) × Stays c) (each_of cs)
    parents_stay Alone kept = tt
    parents_stay (With c cs) kept =
        let first = Each_left Kept (standing c) (ancestors cs) kept in
        ((first, pieces_stay c first), parents_stay cs (Each_right Kept (standing c) (ancestors cs) kept))
