-- An incremental table keeps the rows of a unit while units of its schedule are written and recorded: others, and
-- this one too, where it gets these rows again.
use Rattle.std.proofs.Common.{◌≡◌, ℕ, ℤ, Bool, true, false, cond, not, List, [], ◌∷◌, ◌++◌, Some, inl, inr, refl, sym, ◌∙◌, ap, subst, arith}
use Rattle.std.proofs.lemmas.Cmp.{tied_itself, int_cmp_total}
use Rattle.std.proofs.lemmas.Int.{ints}
use Rattle.std.proofs.lemmas.List.{append-nil}
use Rattle.std.proofs.lemmas.List.Elements.{filter-append}
use Rattle.std.proofs.lemmas.Map.Lookups.{exact_signed}
use Rattle.std.specs.Cmp.{Equal-is}
use Rattle.std.specs.List.{Contains, filter, flat_map}
use Rattle.std.specs.Ordering.{int_cmp, is_eq}
use Rattle.std.specs.declared.option.Option.{Option}
use Rattle.std.proofs.lemmas.Bool.{not-true as not_true}
use Rattle.mesh_base_values.specs.Bag.{IsSameBag}
use Rattle.mesh_base_values.specs.Kinds.{time_column}
use Rattle.mesh_base_values.specs.declared.kinds.Kind.{Kind}
use Rattle.mesh_base_values.specs.declared.kinds.Kind.TheVariants.{Incremental}
use Rattle.mesh_base_values.specs.declared.times.Bounds.{Bounds}
use Rattle.mesh_base_values.specs.declared.values.Cell.{Cell}
use Rattle.mesh_base_values.specs.declared.values.Column.{Column}
use Rattle.mesh_base.specs.Outputs.{columns_of}
use Rattle.mesh_base.specs.declared.definitions.Own.{Own}
use Rattle.mesh_base.specs.declared.jobs.Input.{Input}
use Rattle.mesh_time.specs.Ranges.{IsWithin}
use Rattle.mesh_time_days.specs.seconds.Rows.{rewritten}
use Rattle.mesh_time_days.specs.seconds.Times.{lies_in}
use Rattle.mesh_spec_model.specs.Closures.{Closure}
use Rattle.mesh_spec_model.specs.Horizons.{Clock, schedule}
use Rattle.mesh_spec_model.specs.Scratch.{defn_rows, is_of_unit, lies_by, piece_over}
use Rattle.mesh_spec_model.proofs.Cut.{by_second}
use Rattle.mesh_law_query.proofs.Has.{Has, Has_filter_from}
use Rattle.mesh_law_query.proofs.Perm.{Perm, nil, skip, swap, trans}
use Rattle.mesh_house.specs.Step.{run, step}
use Rattle.mesh_house.specs.declared.world.Change.TheVariants.{RecordRange, WriteRange}
use Rattle.mesh_house.specs.declared.world.World.{World}
use Rattle.mesh_spec_changes.specs.due.Plans.{Planned}
use Rattle.mesh_spec_changes.specs.Changes.{ascending}
use Rattle.mesh_spec_promise.proofs.Filled.{ascending_perm}
use Rattle.mesh_spec_promise.proofs.Joined.{passed}
use Rattle.mesh_spec_promise.proofs.Seconds.{scheduled_once, scheduled_proper}
use Rattle.mesh_law_steps.proofs.fills.Unit.{unit_changes}
use Rattle.mesh_law_promise.proofs.isolation.Holds.{HoldsAlong, holds_append, holds_end}
use Rattle.mesh_law_promise.proofs.isolation.Rows.{Keeps, keeps_elsewhere, keeps_written}

-- rows that all pass a test, and rows of which none does
all_stay : (test : List Cell → Bool) (rows : List (List Cell)) → ((row : List Cell) → Has row rows → test row ≡ true) → filter test rows ≡ rows
all_stay test [] h = refl
all_stay test (row ∷ rows) h =
    ap (λ (c : Bool). cond c (row ∷ filter test rows) (filter test rows)) (h row (inl refl)) ∙ ap (λ (rs : List (List Cell)). row ∷ rs) (all_stay test rows (λ r k. h r (inr k)))

none_stay : (test : List Cell → Bool) (rows : List (List Cell)) → ((row : List Cell) → Has row rows → test row ≡ false) → filter test rows ≡ []
none_stay test [] h = refl
none_stay test (row ∷ rows) h = ap (λ (c : Bool). cond c (row ∷ filter test rows) (filter test rows)) (h row (inl refl)) ∙ none_stay test rows (λ r k. h r (inr k))

-- lists in another order have the same items
perm_has : {X : Type 0} {xs ys : List X} → Perm xs ys → (x : X) → Has x ys → Has x xs
perm_has nil x h = h
perm_has (skip p) x (inl e) = inl e
perm_has (skip p) x (inr h) = inr (perm_has p x h)
perm_has swap x (inl e) = inr (inl e)
perm_has swap x (inr (inl e)) = inl e
perm_has swap x (inr (inr h)) = inr (inr h)
perm_has (trans p q) x h = perm_has p x (perm_has q x h)

int_is : (a b : ℤ) → is_eq (int_cmp a b) ≡ true → a ≡ b
int_is a b h = exact_signed a b ((Equal-is (int_cmp a b)).0 h)

pub int_itself : (a : ℤ) → is_eq (int_cmp a a) ≡ true
int_itself a = (Equal-is (int_cmp a a)).1 (tied_itself int_cmp_total a)

-- one of two units of a schedule, or one that has no row of it
module _ (clock : Clock) (c : Closure) (d e : Bounds) (d_there : Contains (schedule clock c) d) (e_there : Contains (schedule clock c) e) where
  some_is : (t r : ℤ) → ◌≡◌ {A = Option ℤ} (Some t) (Some r) → t ≡ r
  some_is t r f = cc

  elsewhere : (d ≡ e → ⊥) → (columns : List Column) (time : List ℕ) (row : List Cell) → lies_in columns time d row ≡ true → lies_in columns time e row ≡ false
  elsewhere other columns time row h = go (lies_in columns time e row) refl
    where
      go : (b : Bool) → lies_in columns time e row ≡ b → b ≡ false
      go false f = refl
      go true f =
          let a = (by_second columns time e row).0 f in
          let b = (by_second columns time d row).0 h in
          let same : a.0 ≡ b.0 = some_is a.0 b.0 (sym a.1 ∙ b.1) in
          absurd (other (scheduled_once clock c d e d_there e_there b.0 b.2 (subst (IsWithin e.start e.end) same a.2)))

  -- units of a schedule are told apart by their first seconds
  one_start : d.start ≡ e.start → d ≡ e
  one_start same =
      let low = scheduled_proper clock c d d_there in
      let high = scheduled_proper clock c e e_there in
      scheduled_once clock c d e d_there e_there d.start (omega (arith, ints), low) (omega (arith, ints, same), omega (arith, ints, same, high))

module _ (clock : Clock) (p : Planned) (time : List ℕ) (lookback : ℕ) (is : p.node.own.kind ≡ Incremental time lookback) (tables : List Input) (d : Bounds)
    (listed : Contains (schedule clock p.closure) d)
    (fixed : List (List Cell)) where
  abbrev own : Own
  own = p.node.own

  abbrev rows_of : Bounds → List (List Cell)
  rows_of e = ascending (piece_over own tables e)

  abbrev KeepsUnit : World → Type 0
  KeepsUnit = Keeps (λ o. filter (is_of_unit o d)) fixed p.object own

  -- a row lies in a unit by the time column
  lies_is : (e : Bounds) (row : List Cell) → is_of_unit own e row ≡ lies_in (columns_of own) time e row
  lies_is e row = ap (λ (k : Kind). lies_by (time_column k) (columns_of own) e row) is

  -- the rows of a unit lie in it
  rows_lie : (e : Bounds) (row : List Cell) → Has row (rows_of e) → is_of_unit own e row ≡ true
  rows_lie e row h = (Has_filter_from (is_of_unit own e) (defn_rows own.defn tables e) row (perm_has (ascending_perm (piece_over own tables e)) row h)).1

  abbrev written : Bounds → List (List Cell) → List (List Cell)
  written e old = rewritten (columns_of own) time e.start e.end (rows_of e) old

  split : (e : Bounds) (old : List (List Cell)) → written e old ≡ filter (λ row. not (is_of_unit own e row)) old ++ rows_of e
  split e old = ap (λ (k : Kind). filter (λ row. not (lies_by (time_column k) (columns_of own) e row)) old ++ rows_of e) (sym is)

  -- this unit is written
  here : IsSameBag (rows_of d) fixed → (old : List (List Cell)) → IsSameBag (filter (is_of_unit own d) (written d old)) fixed
  here again old = subst (λ (l : List (List Cell)). IsSameBag l fixed) (sym same) again
    where
      test : List Cell → Bool
      test = is_of_unit own d

      same : filter test (written d old) ≡ rows_of d
      same =
          ap (filter test) (split d old)
          ∙ filter-append test (filter (λ row. not (test row)) old) (rows_of d)
          ∙ (λ i. none_stay test (filter (λ row. not (test row)) old) (λ row h. not_true (test row) (Has_filter_from (λ r. not (test r)) old row h).1) i ++ all_stay test (rows_of d) (rows_lie d) i)

  -- another one is written
  beside : (e : Bounds) → Contains (schedule clock p.closure) e → (d ≡ e → ⊥) → (old : List (List Cell)) → filter (is_of_unit own d) (written e old) ≡ filter (is_of_unit own d) old
  beside e there other old =
      ap (filter (is_of_unit own d)) (split e old)
      ∙ filter-append (is_of_unit own d) (filter (λ row. not (is_of_unit own e row)) old) (rows_of e)
      ∙ (λ i. passed {U = Bounds} (is_of_unit own) (is_of_unit own d) (is_of_unit own e) apart old i ++ none_stay (is_of_unit own d) (rows_of e) (λ row h. back row (rows_lie e row h)) i)
      ∙ append-nil (filter (is_of_unit own d) old)
    where
      apart : (row : List Cell) → is_of_unit own d row ≡ true → is_of_unit own e row ≡ false
      apart row h = lies_is e row ∙ elsewhere clock p.closure d e listed there other (columns_of own) time row (sym (lies_is d row) ∙ h)

      back : (row : List Cell) → is_of_unit own e row ≡ true → is_of_unit own d row ≡ false
      back row h = lies_is d row ∙ elsewhere clock p.closure e d there listed (λ f. other (sym f)) (columns_of own) time row (sym (lies_is e row) ∙ h)

  unit_written : (e : Bounds) → Contains (schedule clock p.closure) e → (d ≡ e → IsSameBag (rows_of d) fixed) → (old : List (List Cell)) → IsSameBag (filter (is_of_unit own d) old) fixed
      → IsSameBag (filter (is_of_unit own d) (written e old)) fixed
  unit_written e there again old h = go (is_eq (int_cmp d.start e.start)) refl
    where
      go : (b : Bool) → is_eq (int_cmp d.start e.start) ≡ b → IsSameBag (filter (is_of_unit own d) (written e old)) fixed
      go true f =
          let same : d ≡ e = one_start clock p.closure d e listed there (int_is d.start e.start f) in
          subst (λ (u : Bounds). IsSameBag (filter (is_of_unit own d) (written u old)) fixed) same (here (again same) old)
      go false f =
          let other : d ≡ e → ⊥ = λ same. let clash : true ≡ false = sym (int_itself d.start) ∙ ap (λ (u : Bounds). is_eq (int_cmp d.start u.start)) same ∙ f in cc in
          subst (λ (l : List (List Cell)). IsSameBag l fixed) (sym (beside e there other old)) h

  -- one unit is written and recorded
  unit_holds : (e : Bounds) → Contains (schedule clock p.closure) e → (d ≡ e → IsSameBag (rows_of d) fixed) → (u : World) → KeepsUnit u → HoldsAlong KeepsUnit u (unit_changes p time tables e)
  unit_holds e there again u k =
      let part = λ (o : Own). filter (is_of_unit o d) in
      let then_ : KeepsUnit (step u (WriteRange p.object time e.start e.end (rows_of e))) =
      keeps_written part fixed p.object own u time e.start e.end (rows_of e) k (unit_written e there again k.rows k.same) in
      (k, (then_, keeps_elsewhere part fixed p.object own (step u (WriteRange p.object time e.start e.end (rows_of e))) (RecordRange p.object e.start e.end) tt then_))

  -- several are, this one perhaps among them
  pub units_hold : (us : List Bounds) → ((e : Bounds) → Has e us → Contains (schedule clock p.closure) e) → (Has d us → IsSameBag (rows_of d) fixed) → (u : World) → KeepsUnit u
      → HoldsAlong KeepsUnit u (flat_map (unit_changes p time tables) us)
  units_hold [] there again u k = k
  units_hold (e ∷ es) there again u k =
      let first = unit_holds e (there e (inl refl)) (λ same. again (inl (sym same))) u k in
      holds_append KeepsUnit u (unit_changes p time tables e) (flat_map (unit_changes p time tables) es) first
      (units_hold es (λ f h. there f (inr h)) (λ h. again (inr h)) (run u (unit_changes p time tables e)) (holds_end KeepsUnit u (unit_changes p time tables e) first))
