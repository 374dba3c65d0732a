-- The rows of a FROM over tables without the rows that no condition lets through.
use Rattle.std.proofs.Common.{◌≡◌, ℕ, suc, Bool, true, false, cond, List, [], ◌∷◌, ◌++◌, length, refl, sym, ap, ◌∙◌, subst}
use Rattle.std.specs.Prelude.{slice_index_or}
use Rattle.std.specs.List.{filter, flat_map, fold}
use Rattle.std.specs.declared.option.Option.{Option}
use Rattle.std.specs.declared.option.Option.TheVariants.{None, Some}
use Rattle.std.proofs.lemmas.List.{append_assoc, append-nil}
use Rattle.mesh_base_values.specs.declared.times.Bounds.{Bounds}
use Rattle.mesh_base_values.specs.declared.values.Cell.{Cell}
use Rattle.mesh_base_values.specs.declared.values.Column.{Column}
use Rattle.mesh_base_values.specs.Picked.{cell_of}
use Rattle.mesh_base_values.proofs.Tests.{or_cases as either}
use Rattle.mesh_base.specs.declared.expressions.Expr.{Expr}
use Rattle.mesh_base.specs.declared.jobs.Input.{Input}
use Rattle.mesh_base.specs.declared.queries.FromItem.{FromItem}
use Rattle.mesh_base.specs.declared.queries.Join.{Join}
use Rattle.mesh_base.specs.declared.queries.Join.TheVariants.{First, Inner, Left, Cross}
use Rattle.mesh_base.specs.declared.queries.Select.{Select}
use Rattle.mesh_time_days.specs.seconds.Times.{is_within, lies_in, time_of}
use Rattle.mesh_spec_query.specs.Cells.{is_true}
use Rattle.mesh_spec_query.specs.Ev.{Ev, at_row, seen}
use Rattle.mesh_spec_query.specs.Tables.{columns_in, relation, rows_in}
use Rattle.mesh_spec_query.specs.Sel.{Joined, from_rows, join_item, kept, partners, row_holds}
use Rattle.mesh_spec_changes.specs.steady.Steady.{bounds_by, bounds_in, is_bound}
use Rattle.mesh_spec_changes.specs.steady.Arrives.{from_its_day}
use Rattle.mesh_law_steady.specs.Days.{IsOfDay}
use Rattle.mesh_law_steady.proofs.Binding.{bound}

abbrev Row : Type 0
Row = List Cell

not_both : {P : Type 0} (b : Bool) → b ≡ true → b ≡ false → P
not_both true e f = absurd (cc)
not_both false e f = absurd (cc)

-- a table's rows whose time lies in the unit, or on its day before it
abbrev pub near_rows : Bounds → List Column → List ℕ → List Row → List Row
near_rows u cs time rows = filter (lies_in cs time (from_its_day u)) rows

-- two tables of a FROM item have the same rows, or the second has those of the first that are near, and the item is
-- bound
pub data Fits (u : Bounds) (q : Select) (k : ℕ) (f : FromItem) (cs : List Column) : List Row → List Row → Type 0 where
  same : {rows : List Row} → Fits u q k f cs rows rows
  bound_to : {rows : List Row} (time : List ℕ) → is_bound q k f time ≡ true → Fits u q k f cs rows (near_rows u cs time rows)

-- the cell of a row's part at a place
at_end : (x : Joined) (row : Row) (rest : Joined) → slice_index_or ((x ++ row ∷ []) ++ rest) (length x) [] ≡ row
at_end [] row rest = refl
at_end (y ∷ x) row rest = at_end x row rest

module _ (u : Bounds) (of : IsOfDay u) (columns : List (List Column)) (q : Select) where
  abbrev where_ : Option Expr
  where_ = q.filter

  -- whatever is joined to it, WHERE isn't true
  abbrev Bad : Joined → Type 0
  Bad x = (rest : Joined) → row_holds u columns where_ (x ++ rest) ≡ false

  -- the second list is the first without some bad rows; the rows that stay join so many tables
  data Drops (k : ℕ) : List Joined → List Joined → Type 0 where
    nil : Drops k [] []
    keep : {x : Joined} {xs ys : List Joined} → length x ≡ k → Drops k xs ys → Drops k (x ∷ xs) (x ∷ ys)
    drop : {x : Joined} {xs ys : List Joined} → Bad x → Drops k xs ys → Drops k (x ∷ xs) ys

  still_bad : (x y : Joined) → Bad x → Bad (x ++ y)
  still_bad x y bad rest = ap (row_holds u columns where_) (append_assoc x y rest) ∙ bad (y ++ rest)

  bad_itself : (x : Joined) → Bad x → row_holds u columns where_ x ≡ false
  bad_itself x bad = ap (row_holds u columns where_) (sym (append-nil x)) ∙ bad []

  -- WHERE lets the same rows through
  let_through : {k : ℕ} {xs ys : List Joined} → Drops k xs ys → filter (row_holds u columns where_) xs ≡ filter (row_holds u columns where_) ys
  let_through nil = refl
  let_through (keep {x} long d) = ap (λ l. cond (row_holds u columns where_ x) (x ∷ l) l) (let_through d)
  let_through (drop {x} {xs} bad d) = ap (λ b. cond b (x ∷ filter (row_holds u columns where_) xs) (filter (row_holds u columns where_) xs)) (bad_itself x bad) ∙ let_through d

  both : {k : ℕ} {xs ys us vs : List Joined} → Drops k xs ys → Drops k us vs → Drops k (xs ++ us) (ys ++ vs)
  both nil e = e
  both (keep long d) e = keep long (both d e)
  both (drop bad d) e = drop bad (both d e)

  abbrev AllBad : List Joined → Type 0
  AllBad [] = Unit {0}
  AllBad (x ∷ xs) = Bad x × AllBad xs

  abbrev AllLong : ℕ → List Joined → Type 0
  AllLong k [] = Unit {0}
  AllLong k (x ∷ xs) = (length x ≡ k) × AllLong k xs

  drop_all : {k : ℕ} (xs : List Joined) {us vs : List Joined} → AllBad xs → Drops k us vs → Drops k (xs ++ us) vs
  drop_all [] h d = d
  drop_all (x ∷ xs) h d = drop h.0 (drop_all xs h.1 d)

  keep_all : (k : ℕ) (xs : List Joined) → AllLong k xs → Drops k xs xs
  keep_all k [] h = nil
  keep_all k (x ∷ xs) h = keep h.0 (keep_all k xs h.1)

  -- the pairs of a row with the rows of a table
  abbrev pairs : Option Expr → Joined → List Row → List Joined
  pairs on left rows = partners u columns on left rows

  one_more : (left : Joined) (row : Row) → length (left ++ row ∷ []) ≡ suc (length left)
  one_more [] row = refl
  one_more (y ∷ left) row = ap suc (one_more left row)

  pairs_long : (k : ℕ) (on : Option Expr) (left : Joined) → length left ≡ k → (rows : List Row) → AllLong (suc k) (pairs on left rows)
  pairs_long k on left long [] = tt
  pairs_long k on left long (row ∷ rows) = go (row_holds u columns on (left ++ row ∷ [])) (pairs_long k on left long rows)
    where
      go : (b : Bool) → AllLong (suc k) (pairs on left rows) → AllLong (suc k) (cond b ((left ++ row ∷ []) ∷ pairs on left rows) (pairs on left rows))
      go true h = (one_more left row ∙ ap suc long, h)
      go false h = h

  kept_long : (k : ℕ) (join : Join) (left : Joined) → length left ≡ k → (xs : List Joined) → AllLong (suc k) xs → AllLong (suc k) (kept join left xs)
  kept_long k First left long xs h = h
  kept_long k Inner left long xs h = h
  kept_long k Cross left long xs h = h
  kept_long k Left left long [] h = (one_more left [] ∙ ap suc long, tt)
  kept_long k Left left long (x ∷ xs) h = h

  pairs_bad : (on : Option Expr) (left : Joined) → Bad left → (rows : List Row) → AllBad (pairs on left rows)
  pairs_bad on left bad [] = tt
  pairs_bad on left bad (row ∷ rows) = go (row_holds u columns on (left ++ row ∷ [])) (pairs_bad on left bad rows)
    where
      go : (b : Bool) → AllBad (pairs on left rows) → AllBad (cond b ((left ++ row ∷ []) ∷ pairs on left rows) (pairs on left rows))
      go true h = (still_bad left (row ∷ []) bad, h)
      go false h = h

  kept_bad : (join : Join) (left : Joined) → Bad left → (xs : List Joined) → AllBad xs → AllBad (kept join left xs)
  kept_bad First left bad xs h = h
  kept_bad Inner left bad xs h = h
  kept_bad Cross left bad xs h = h
  kept_bad Left left bad [] h = (still_bad left ([] ∷ []) bad, tt)
  kept_bad Left left bad (x ∷ xs) h = h

  -- a condition that binds a table isn't true of its other rows
  far : (k : ℕ) (cs : List Column) (time : List ℕ) → slice_index_or columns k [] ≡ cs → (o : Option Expr) → bounds_in k time o ≡ true → (left : Joined) → length left ≡ k → (row : Row) → lies_in cs time (from_its_day u) row ≡ false
      → (rest : Joined) → row_holds u columns o ((left ++ row ∷ []) ++ rest) ≡ false
  far k cs time at None b left long row f rest = absurd (cc)
  far k cs time at (Some e) b left long row f rest = go (is_true (Ev e (at_row u (seen columns ((left ++ row ∷ []) ++ rest))))) refl
    where
      cell : seen columns ((left ++ row ∷ []) ++ rest) k time ≡ cell_of cs row time
      cell = (λ i. cell_of (at i) (slice_index_or ((left ++ row ∷ []) ++ rest) k []) time) ∙ ap (λ r. cell_of cs r time) (subst (λ n. slice_index_or ((left ++ row ∷ []) ++ rest) n [] ≡ row) long (at_end left row rest))

      go : (c : Bool) → is_true (Ev e (at_row u (seen columns ((left ++ row ∷ []) ++ rest)))) ≡ c → c ≡ false
      go false t = refl
      go true t =
          let near = bound k time u of (seen columns ((left ++ row ∷ []) ++ rest)) e b t in
          not_both (lies_in cs time (from_its_day u) row) (ap (λ v. is_within (from_its_day u) (time_of v)) (sym cell) ∙ near) f

  -- where ON binds the table, the pairs are those of its near rows
  pairs_near : (k : ℕ) (cs : List Column) (time : List ℕ) → slice_index_or columns k [] ≡ cs → (on : Option Expr) → bounds_in k time on ≡ true → (left : Joined) → length left ≡ k → (rows : List Row) → pairs on left rows ≡ pairs on left (near_rows u cs time rows)
  pairs_near k cs time at on b left long [] = refl
  pairs_near k cs time at on b left long (row ∷ rows) = go (lies_in cs time (from_its_day u) row) refl (pairs_near k cs time at on b left long rows)
    where
      go : (c : Bool) → lies_in cs time (from_its_day u) row ≡ c → pairs on left rows ≡ pairs on left (near_rows u cs time rows)
          → pairs on left (row ∷ rows) ≡ pairs on left (cond c (row ∷ near_rows u cs time rows) (near_rows u cs time rows))
      go true e ih = ap (λ l. cond (row_holds u columns on (left ++ row ∷ [])) ((left ++ row ∷ []) ∷ l) l) ih
      go false e ih =
          ap (λ c. cond c ((left ++ row ∷ []) ∷ pairs on left rows) (pairs on left rows))
          (ap (row_holds u columns on) (sym (append-nil (left ++ row ∷ []))) ∙ far k cs time at on b left long row e []) ∙ ih

  -- where WHERE binds it, pairs with other rows are bad
  pairs_drop : (k : ℕ) (cs : List Column) (time : List ℕ) → slice_index_or columns k [] ≡ cs → bounds_in k time where_ ≡ true → (on : Option Expr) (left : Joined) → length left ≡ k → (rows : List Row) → Drops (suc k) (pairs on left rows) (pairs on left (near_rows u cs time rows))
  pairs_drop k cs time at b on left long [] = nil
  pairs_drop k cs time at b on left long (row ∷ rows) = go (lies_in cs time (from_its_day u) row) refl (row_holds u columns on (left ++ row ∷ [])) refl (pairs_drop k cs time at b on left long rows)
    where
      go : (c : Bool) → lies_in cs time (from_its_day u) row ≡ c → (d : Bool) → row_holds u columns on (left ++ row ∷ []) ≡ d → Drops (suc k) (pairs on left rows) (pairs on left (near_rows u cs time rows))
          → Drops (suc k) (cond d ((left ++ row ∷ []) ∷ pairs on left rows) (pairs on left rows)) (pairs on left (cond c (row ∷ near_rows u cs time rows) (near_rows u cs time rows)))
      go true e true f ih = rw f (keep (one_more left row ∙ ap suc long) ih)
      go true e false f ih = rw f ih
      go false e true f ih = drop (far k cs time at where_ b left long row e) ih
      go false e false f ih = ih

  bound_left : (k : ℕ) (f : FromItem) (cs : List Column) (time : List ℕ) → slice_index_or columns k [] ≡ cs → (join : Join) → bounds_by join k time f.on where_ ≡ true → (left : Joined) → length left ≡ k → (rows : List Row)
      → Drops (suc k) (kept join left (pairs f.on left rows)) (kept join left (pairs f.on left (near_rows u cs time rows)))
  bound_left k f cs time at First b left long rows = pairs_drop k cs time at b f.on left long rows
  bound_left k f cs time at Cross b left long rows = pairs_drop k cs time at b f.on left long rows
  bound_left k f cs time at Inner b left long rows =
      either (bounds_in k time where_) (bounds_in k time f.on) b
      (λ w. pairs_drop k cs time at w f.on left long rows)
      (λ o. subst (Drops (suc k) (pairs f.on left rows)) (pairs_near k cs time at f.on o left long rows) (keep_all (suc k) (pairs f.on left rows) (pairs_long k f.on left long rows)))
  bound_left k f cs time at Left b left long rows =
      subst (λ l. Drops (suc k) (kept Left left (pairs f.on left rows)) (kept Left left l)) (pairs_near k cs time at f.on b left long rows)
      (keep_all (suc k) (kept Left left (pairs f.on left rows)) (kept_long k Left left long (pairs f.on left rows) (pairs_long k f.on left long rows)))

  one_left : (k : ℕ) (f : FromItem) (cs : List Column) → slice_index_or columns k [] ≡ cs → {rows rows' : List Row} → Fits u q k f cs rows rows' → (left : Joined) → length left ≡ k
      → Drops (suc k) (kept f.join left (pairs f.on left rows)) (kept f.join left (pairs f.on left rows'))
  one_left k f cs at (same {rows}) left long = keep_all (suc k) (kept f.join left (pairs f.on left rows)) (kept_long k f.join left long (pairs f.on left rows) (pairs_long k f.on left long rows))
  one_left k f cs at (bound_to {rows} time b) left long = bound_left k f cs time at f.join b left long rows

  all_lefts : (k : ℕ) (f : FromItem) (cs : List Column) → slice_index_or columns k [] ≡ cs → {rows rows' : List Row} → Fits u q k f cs rows rows' → {xs ys : List Joined} → Drops k xs ys
      → Drops (suc k) (flat_map (λ left. kept f.join left (pairs f.on left rows)) xs) (flat_map (λ left. kept f.join left (pairs f.on left rows')) ys)
  all_lefts k f cs at fit nil = nil
  all_lefts k f cs at fit (keep {x} long d) = both (one_left k f cs at fit x long) (all_lefts k f cs at fit d)
  all_lefts k f cs at {rows} fit (drop {x} bad d) = drop_all (kept f.join x (pairs f.on x rows)) (kept_bad f.join x bad (pairs f.on x rows) (pairs_bad f.on x bad rows)) (all_lefts k f cs at fit d)

  module _ (a b ctes : List Input) where
    -- each FROM item's tables fit
    abbrev pub FitAll : ℕ → List FromItem → Type 0
    FitAll k [] = Unit {0}
    FitAll k (f ∷ fs) =
        (slice_index_or columns k [] ≡ columns_in (relation a ctes f.rel)) × Fits u q k f (columns_in (relation a ctes f.rel)) (rows_in (relation a ctes f.rel)) (rows_in (relation b ctes f.rel)) × FitAll (suc k) fs

    joined : (k : ℕ) (fs : List FromItem) → FitAll k fs → {xs ys : List Joined} → Drops k xs ys
        → filter (row_holds u columns q.filter) (fold (join_item u columns a ctes) xs fs) ≡ filter (row_holds u columns q.filter) (fold (join_item u columns b ctes) ys fs)
    joined k [] h d = let_through d
    joined k (f ∷ fs) h d = joined (suc k) fs h.2 (all_lefts k f (columns_in (relation a ctes f.rel)) h.0 h.1 d)

    pub rows_let_through : FitAll 0 q.from → filter (row_holds u columns q.filter) (from_rows u columns a ctes q.from) ≡ filter (row_holds u columns q.filter) (from_rows u columns b ctes q.from)
    rows_let_through h = joined 0 q.from h (keep refl nil)
