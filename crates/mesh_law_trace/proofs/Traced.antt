-- A model's rows hang on what feeds its columns alone.
use Rattle.std.proofs.Common.{◌≡◌, Bool, true, false, cond, inl, inr, ℤ, List, [], ◌∷◌, ◌++◌, map, refl, sym, ap, ap₂, ◌∙◌, subst}
use Rattle.std.specs.List.{All, filter, flat_map}
use Rattle.std.specs.Ordering.{is_eq}
use Rattle.std.specs.declared.option.Option.{Option}
use Rattle.std.specs.declared.option.Option.TheVariants.{Some}
use Rattle.std.proofs.lemmas.List.Elements.{All-nil, All-cons}
use Rattle.mesh_base_values.specs.Bag.{IsSameBag}
use Rattle.mesh_base_values.specs.Kinds.{is_incremental, time_column}
use Rattle.mesh_base_values.specs.Names.{name_cmp}
use Rattle.mesh_base_values.specs.Picked.{picked_row}
use Rattle.mesh_base_values.specs.declared.times.Bounds.{Bounds}
use Rattle.mesh_base_values.specs.declared.values.Cell.{Cell}
use Rattle.mesh_base_values.specs.declared.values.Column.{Column}
use Rattle.mesh_base_values.specs.declared.values.Name.{Name}
use Rattle.mesh_base.specs.Outputs.{columns_of}
use Rattle.mesh_base.specs.declared.definitions.Decl.{Decl}
use Rattle.mesh_base.specs.declared.definitions.Defn.{Defn}
use Rattle.mesh_base.specs.declared.definitions.Defn.TheVariants.{Seed, Sql}
use Rattle.mesh_base.specs.declared.definitions.Own.{Own}
use Rattle.mesh_base.specs.declared.definitions.Reading.{Reading}
use Rattle.mesh_base.specs.declared.jobs.Input.{Input}
use Rattle.mesh_base.specs.declared.queries.Select.{Select}
use Rattle.mesh_base.specs.rules.Proper.{defn_names, names_of_all, selects_names}
use Rattle.mesh_spec_model.specs.Closures.{Closure, Closures, Model, Alone, With, own_of}
use Rattle.mesh_spec_model.specs.Horizons.{Clock, horizon_under, horizons_from, horizons_of, schedule, units_from, with_horizon}
use Rattle.mesh_spec_model.specs.Scratch.{defn_rows, from_scratch, no_bounds, piece_over, rows_over, table_of, tables}
use Rattle.mesh_spec_model.specs.Sources.{declared, inputs}
use Rattle.mesh_law_query.specs.Alike.{named}
use Rattle.mesh_law_query.specs.Cuts.{AgreeAsBags, cut}
use Rattle.mesh_law_query.proofs.Bags.{bag_is_perm, counts_same}
use Rattle.mesh_law_query.proofs.Has.{Has, Has_left, Has_map, Has_right, Has_to}
use Rattle.mesh_law_query.proofs.Perm.{mapped}
use Rattle.mesh_law_query.proofs.ReadBags.{over_read_bag}
use Rattle.mesh_law_query.proofs.ReadColumns.{Str}
use Rattle.mesh_lineage.proofs.Alike.{Within}
use Rattle.mesh_spec_changes.specs.reuse.Cores.{is_wanted, pruned_defn, pruned_own, pruned_selects}
use Rattle.mesh_law_reuse.proofs.Shown.{own_cut}
use Rattle.mesh_trace.specs.Feeds.{alone, feeds, feeds_of, has_cte, narrowed, needed_of, needs, own_feeds, with_column}
use Rattle.mesh_trace.specs.declared.traces.Trace.{Trace}
use Rattle.mesh_law_trace.specs.Varied.{Agree, AllAgree, AreVaried, HaveVaried, IsQuery, IsVaried, IsVariedAs, SeedsAgree, SourcesAgree, columns_fed, scratch_table}
use Rattle.mesh_law_trace.proofs.Cut.{agree_needed, less_bag, needed_in, same_name}

-- varied models have one schedule
module _ (clock : Clock) where
  with_same : (own other : Own) → IsVaried own other → (hs : List ℤ) → with_horizon clock own hs ≡ with_horizon clock other hs
  with_same own other v hs = ap (λ (o : Own). with_horizon clock o hs) v.0

  mutual
    horizons_same : (c d : Closure) → AreVaried c d → horizons_from clock c ≡ horizons_from clock d
    horizons_same (Model own ps) (Model other qs) (v, vs) = ap (with_horizon clock own) (all_horizons_same ps qs vs) ∙ with_same own other v (horizons_of clock qs)

    all_horizons_same : (cs ds : Closures) → HaveVaried cs ds → horizons_of clock cs ≡ horizons_of clock ds
    all_horizons_same Alone Alone vs = refl
    all_horizons_same (With c cs) (With d ds) (v, vs) = ap₂ (λ x y. x ++ y) (horizons_same c d v) (all_horizons_same cs ds vs)
    all_horizons_same Alone (With d ds) vs = absurd vs
    all_horizons_same (With c cs) Alone vs = absurd vs

  schedules_same : (own : Own) (ps qs : Closures) → HaveVaried ps qs → schedule clock (Model own ps) ≡ schedule clock (Model own qs)
  schedules_same own ps qs vs = ap (λ hs. units_from own.start own.unit (horizon_under clock own hs)) (all_horizons_same ps qs vs)

-- a query that varies is one query
defn_same : (own : Own) (d e : Defn) → IsVariedAs own d e → IsQuery d → d ≡ e
defn_same own (Sql q) (Sql p) v query = ap Sql v
defn_same own (Sql q) (Seed others more) v query = absurd v
defn_same own (Seed columns rows) e v query = absurd query

own_same : (own other : Own) → IsVaried own other → IsQuery own.defn → own ≡ other
own_same own other v query = (λ i. record own { defn = defn_same own own.defn other.defn v.1 query i }) ∙ v.0

-- it names the same relations with fewer items
selects_kept : (wanted : List Str) (time : Option Str) (ss : List Select) → selects_names (pruned_selects wanted time ss) ≡ selects_names ss
selects_kept wanted time [] = refl
selects_kept wanted time (s ∷ []) = go s.distinct
  where
    go : (b : Bool) → selects_names (cond b s (record s { items = filter (is_wanted wanted time) s.items }) ∷ []) ≡ selects_names (s ∷ [])
    go true = refl
    go false = refl
selects_kept wanted time (s ∷ t ∷ more) = refl

names_kept : (wanted : List Str) (own : Own) → defn_names (narrowed wanted own).defn ≡ defn_names own.defn
names_kept wanted own = go (has_cte own.defn)
  where
    in_defn : (d : Defn) → defn_names (pruned_defn wanted (time_column own.kind) d) ≡ defn_names d
    in_defn (Seed columns rows) = refl
    in_defn (Sql q) = ap (λ l. names_of_all q.ctes ++ l) (selects_kept wanted (time_column own.kind) q.selects)

    go : (b : Bool) → defn_names (cond b own (pruned_own wanted own)).defn ≡ defn_names own.defn
    go true = refl
    go false = in_defn own.defn

-- and gives the same rows, as far as what is wanted goes
pub narrowed_cut : (wanted : List Str) (own : Own) (ins : List Input) (units : List Bounds)
    → cut wanted (Some (table_of own (rows_over own ins units))) ≡ cut wanted (Some (table_of (narrowed wanted own) (rows_over (narrowed wanted own) ins units)))
narrowed_cut wanted own ins units = go (has_cte own.defn)
  where
    go : (b : Bool) → cut wanted (Some (table_of own (rows_over own ins units))) ≡ cut wanted (Some (table_of (cond b own (pruned_own wanted own)) (rows_over (cond b own (pruned_own wanted own)) ins units)))
    go true = refl
    go false = own_cut wanted own ins units

all_has : (P : Name → Type 0) (xs : List Name) → ((x : Name) → Has x xs → P x) → All P xs
all_has P [] f = All-nil P
all_has P (x ∷ xs) f = All-cons P x xs (f x (inl refl)) (all_has P xs (λ y h. f y (inr h)))

module _ (a b : List Input) (clock : Clock) where
  -- what a query finds under a name, where its sources and parents agree
  module _ (own : Own) (fed : List Trace) (needed : List Reading) (w : Within (own_feeds own needed) fed) (sources : SourcesAgree fed a b own) (left right : List Input)
      (over : (name : Name) → Has (alone name) fed → IsSameBag (cut (needed_of name needed) (named left name)) (cut (needed_of name needed) (named right name))) where
    readings_in : Within (map with_column needed) fed
    readings_in t h = w t (Has_right t (map alone (defn_names own.defn)) (map with_column needed) h)

    in_sources : (name : Name) → Has (alone name) fed → (ds : List Decl) → ((d : Decl) → Has d ds → Has d own.sources)
        → IsSameBag (cut (needed_of name needed) (named (map (declared a) ds ++ left) name)) (cut (needed_of name needed) (named (map (declared b) ds ++ right) name))
    in_sources name there [] v = over name there
    in_sources name there (d ∷ ds) v = go (is_eq (name_cmp d.name name)) refl (in_sources name there ds (λ e h. v e (inr h)))
      where
        first : d.name ≡ name → IsSameBag (cut (needed_of name needed) (Some (declared a d))) (cut (needed_of name needed) (Some (declared b d)))
        first e =
            subst (λ n. IsSameBag (cut (needed_of n needed) (Some (declared a d))) (cut (needed_of n needed) (Some (declared b d)))) e
            (agree_needed fed needed d.name (declared a d) (declared b d) readings_in (subst (λ n. Has (alone n) fed) (sym e) there) (sources d (Has_to own.sources d (v d (inl refl)))))

        go : (v : Bool) → is_eq (name_cmp d.name name) ≡ v → IsSameBag (cut (needed_of name needed) (named (map (declared a) ds ++ left) name)) (cut (needed_of name needed) (named (map (declared b) ds ++ right) name))
            → IsSameBag (cut (needed_of name needed) (cond v (Some (declared a d)) (named (map (declared a) ds ++ left) name))) (cut (needed_of name needed) (cond v (Some (declared b d)) (named (map (declared b) ds ++ right) name)))
        go true e rest = first (same_name d.name name e)
        go false e rest = rest

    found : (name : Name) → Has name (defn_names own.defn) → IsSameBag (cut (needed_of name needed) (named (inputs a own left) name)) (cut (needed_of name needed) (named (inputs b own right) name))
    found name h = in_sources name (w (alone name) (Has_left (alone name) (map alone (defn_names own.defn)) (map with_column needed) (Has_map alone (defn_names own.defn) name (alone name) h refl))) own.sources (λ d k. k)

  -- a query's rows
  module _ (own : Own) (ps qs : Closures) (vs : HaveVaried ps qs) (wanted : List Str) (fed : List Trace) (w : Within (own_feeds own (needs own wanted)) fed) (sources : SourcesAgree fed a b own)
      (over : (name : Name) → Has (alone name) fed → IsSameBag (cut (needed_of name (needs own wanted)) (named (tables a clock ps) name)) (cut (needed_of name (needs own wanted)) (named (tables b clock qs) name))) where
    abbrev less : Own
    less = narrowed wanted own

    abbrev ours : List Input
    ours = inputs a own (tables a clock ps)

    abbrev theirs : List Input
    theirs = inputs b own (tables b clock qs)

    abbrev units : List Bounds
    units = schedule clock (Model own ps)

    agree : AgreeAsBags less.defn ours theirs
    agree = all_has _ (defn_names less.defn) (λ name h. found own fed (needs own wanted) w sources (tables a clock ps) (tables b clock qs) over name (subst (Has name) (names_kept wanted own) h))

    less_rows : IsSameBag (cut wanted (Some (table_of less (rows_over less ours units)))) (cut wanted (Some (table_of less (rows_over less theirs units))))
    less_rows = counts_same (mapped (picked_row wanted (columns_of less)) (bag_is_perm (rows_over less ours units) (rows_over less theirs units) (over_read_bag less ours theirs agree units)))

    query_rows : IsSameBag (cut wanted (Some (table_of own (from_scratch a clock (Model own ps))))) (cut wanted (Some (table_of own (from_scratch b clock (Model own qs)))))
    query_rows =
        subst (λ us. IsSameBag (cut wanted (Some (table_of own (rows_over own ours units)))) (cut wanted (Some (table_of own (rows_over own theirs us))))) (schedules_same clock own ps qs vs)
        (subst (λ l. IsSameBag l (cut wanted (Some (table_of own (rows_over own theirs units))))) (sym (narrowed_cut wanted own ours units))
        (subst (λ r. IsSameBag (cut wanted (Some (table_of less (rows_over less ours units)))) r) (sym (narrowed_cut wanted own theirs units)) less_rows))

  queried : (own other : Own) (ps qs : Closures) → IsVaried own other → HaveVaried ps qs → IsQuery own.defn → (wanted : List Str) (fed : List Trace) → Within (own_feeds own (needs own wanted)) fed → SourcesAgree fed a b own
      → ((name : Name) → Has (alone name) fed → IsSameBag (cut (needed_of name (needs own wanted)) (named (tables a clock ps) name)) (cut (needed_of name (needs own wanted)) (named (tables b clock qs) name)))
      → IsSameBag (cut wanted (Some (scratch_table a clock (Model own ps)))) (cut wanted (Some (scratch_table b clock (Model other qs))))
  queried own other ps qs v vs query wanted fed w sources over =
      subst (λ (o : Own). IsSameBag (cut wanted (Some (table_of own (from_scratch a clock (Model own ps))))) (cut wanted (Some (table_of o (from_scratch b clock (Model o qs)))))) (own_same own other v query)
      (query_rows own ps qs vs wanted fed w sources over)

  -- a seed's rows
  seed_rows : (sources : List Input) (own : Own) (ps : Closures) (columns : List Column) (rows : List (List Cell)) → own.defn ≡ Seed columns rows → is_incremental own.kind ≡ false → from_scratch sources clock (Model own ps) ≡ rows
  seed_rows sources own ps columns rows e k =
      let ins = inputs sources own (tables sources clock ps) in
      let units = schedule clock (Model own ps) in
      ap (λ i. cond i (flat_map (piece_over own ins) units) (defn_rows own.defn ins no_bounds)) k ∙ ap (λ d. defn_rows d ins no_bounds) e

  by_defn : (own other : Own) (ps qs : Closures) (fed : List Trace) (wanted : List Str) → ((c : Str) → Has c wanted → Has c (columns_fed fed own.name)) → Has (alone own.name) fed → IsVaried own other
      → (d e : Defn) → own.defn ≡ d → other.defn ≡ e → IsVariedAs own d e → SeedsAgree fed own other d e
      → (IsQuery own.defn → IsSameBag (cut wanted (Some (scratch_table a clock (Model own ps)))) (cut wanted (Some (scratch_table b clock (Model other qs)))))
      → IsSameBag (cut wanted (Some (scratch_table a clock (Model own ps)))) (cut wanted (Some (scratch_table b clock (Model other qs))))
  by_defn own other ps qs fed wanted inside there v (Seed columns rows) (Seed others more) e f varied seeds query =
      let one : from_scratch a clock (Model own ps) ≡ rows = seed_rows a own ps columns rows e varied.0 in
      let two : from_scratch b clock (Model other qs) ≡ more = seed_rows b other qs others more f (ap (λ (o : Own). is_incremental o.kind) (sym v.0) ∙ varied.0) in
      subst (λ l. IsSameBag (cut wanted (Some (table_of own l))) (cut wanted (Some (table_of other (from_scratch b clock (Model other qs)))))) (sym one)
      (subst (λ r. IsSameBag (cut wanted (Some (table_of own rows))) (cut wanted (Some (table_of other r)))) (sym two)
      (less_bag wanted (columns_fed fed own.name) inside (Some (table_of own rows)) (Some (table_of other more)) (seeds (Has_to fed (alone own.name) there))))
  by_defn own other ps qs fed wanted inside there v (Sql q) (Sql p) e f varied seeds query = query (subst IsQuery (sym e) tt)
  by_defn own other ps qs fed wanted inside there v (Seed columns rows) (Sql p) e f varied seeds query = absurd varied
  by_defn own other ps qs fed wanted inside there v (Sql q) (Seed others more) e f varied seeds query = absurd varied

  named_same : (c d : Closure) → AreVaried c d → (own_of c).name ≡ (own_of d).name
  named_same (Model own ps) (Model other qs) (v, vs) = ap (λ (o : Own). o.name) v.0

  one_table : (c d : Closure) → AreVaried c d → (needed : List Reading) (fed : List Trace) (name : Name) (x y : Option Input)
      → (Has (alone (own_of c).name) fed → IsSameBag (cut (needed_of (own_of c).name needed) (Some (scratch_table a clock c))) (cut (needed_of (own_of c).name needed) (Some (scratch_table b clock d))))
      → Has (alone name) fed → IsSameBag (cut (needed_of name needed) x) (cut (needed_of name needed) y)
      → IsSameBag (cut (needed_of name needed) (cond (is_eq (name_cmp (own_of c).name name)) (Some (scratch_table a clock c)) x)) (cut (needed_of name needed) (cond (is_eq (name_cmp (own_of d).name name)) (Some (scratch_table b clock d)) y))
  one_table c d v needed fed name x y same there rest =
      subst (λ n. IsSameBag (cut (needed_of name needed) (cond (is_eq (name_cmp (own_of c).name name)) (Some (scratch_table a clock c)) x)) (cut (needed_of name needed) (cond (is_eq (name_cmp n name)) (Some (scratch_table b clock d)) y)))
      (named_same c d v) (go (is_eq (name_cmp (own_of c).name name)) refl)
    where
      go : (t : Bool) → is_eq (name_cmp (own_of c).name name) ≡ t → IsSameBag (cut (needed_of name needed) (cond t (Some (scratch_table a clock c)) x)) (cut (needed_of name needed) (cond t (Some (scratch_table b clock d)) y))
      go true e =
          let is : (own_of c).name ≡ name = same_name (own_of c).name name e in
          subst (λ n. IsSameBag (cut (needed_of n needed) (Some (scratch_table a clock c))) (cut (needed_of n needed) (Some (scratch_table b clock d)))) is (same (subst (λ n. Has (alone n) fed) (sym is) there))
      go false e = rest

  -- so it is with a model and its parents
  mutual
    closure_same : (c d : Closure) → AreVaried c d → (fed : List Trace) (wanted : List Str) → ((x : Str) → Has x wanted → Has x (columns_fed fed (own_of c).name)) → Within (feeds c wanted) fed → Agree fed a b c d → Has (alone (own_of c).name) fed
        → IsSameBag (cut wanted (Some (scratch_table a clock c))) (cut wanted (Some (scratch_table b clock d)))
    closure_same (Model own ps) (Model other qs) (v, vs) fed wanted inside w (sources, seeds, all) there =
        by_defn own other ps qs fed wanted inside there v own.defn other.defn refl refl v.1 seeds
        (λ query. queried own other ps qs v vs query wanted fed (λ t h. w t (Has_left t (own_feeds own (needs own wanted)) (feeds_of ps (needs own wanted)) h)) sources
        (parents_same ps qs vs fed (needs own wanted)
        (λ t h. w t (Has_left t (own_feeds own (needs own wanted)) (feeds_of ps (needs own wanted)) (Has_right t (map alone (defn_names own.defn)) (map with_column (needs own wanted)) h)))
        (λ t h. w t (Has_right t (own_feeds own (needs own wanted)) (feeds_of ps (needs own wanted)) h)) all))

    parents_same : (cs ds : Closures) → HaveVaried cs ds → (fed : List Trace) (needed : List Reading) → Within (map with_column needed) fed → Within (feeds_of cs needed) fed → AllAgree fed a b cs ds → (name : Name) → Has (alone name) fed
        → IsSameBag (cut (needed_of name needed) (named (tables a clock cs) name)) (cut (needed_of name needed) (named (tables b clock ds) name))
    parents_same Alone Alone vs fed needed w above all name there = λ row. refl
    parents_same Alone (With d ds) vs fed needed w above all name there = absurd vs
    parents_same (With c cs) Alone vs fed needed w above all name there = absurd vs
    parents_same (With c cs) (With d ds) (v, vs) fed needed w above (first, all) name there =
        one_table c d v needed fed name (named (tables a clock cs) name) (named (tables b clock ds) name)
        (closure_same c d v fed (needed_of (own_of c).name needed) (needed_in fed needed (own_of c).name w) (λ t h. above t (Has_left t (feeds c (needed_of (own_of c).name needed)) (feeds_of cs needed) h)) first)
        there
        (parents_same cs ds vs fed needed w (λ t h. above t (Has_right t (feeds c (needed_of (own_of c).name needed)) (feeds_of cs needed) h)) all name there)

  pub traced : (c d : Closure) → AreVaried c d → IsQuery (own_of c).defn → (wanted : List Str) → Agree (feeds c wanted) a b c d → IsSameBag (cut wanted (Some (scratch_table a clock c))) (cut wanted (Some (scratch_table b clock d)))
  traced (Model own ps) (Model other qs) (v, vs) query wanted (sources, seeds, all) =
      let fed = own_feeds own (needs own wanted) ++ feeds_of ps (needs own wanted) in
      queried own other ps qs v vs query wanted fed (λ t h. Has_left t (own_feeds own (needs own wanted)) (feeds_of ps (needs own wanted)) h) sources
      (parents_same ps qs vs fed (needs own wanted)
      (λ t h. Has_left t (own_feeds own (needs own wanted)) (feeds_of ps (needs own wanted)) (Has_right t (map alone (defn_names own.defn)) (map with_column (needs own wanted)) h))
      (λ t h. Has_right t (own_feeds own (needs own wanted)) (feeds_of ps (needs own wanted)) h) all)
