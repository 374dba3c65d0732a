-- A row's second by the place of its column, and rows whose seconds are all before a range.
use Rattle.std.proofs.Common.{◌≡◌, ℕ, suc, ℤ, Bool, true, false, cond, not, ◌&&◌, List, [], ◌∷◌, ◌++◌, filter, Some, None, refl, sym, ◌∙◌, ap, arith}
use Rattle.std.specs.List.{list_all}
use Rattle.std.specs.Option.{option_map}
use Rattle.std.specs.declared.option.Option.{Option}
use Rattle.std.specs.Int.Signed.{le_z, lt_z}
use Rattle.std.proofs.lemmas.Int.{ints}
use Rattle.std.proofs.lemmas.List.Folds.{list_all-append}
use Rattle.std.proofs.lemmas.Bool.{and_from as and_both}
use Rattle.mesh_list.proofs.Ascends.{and_left, and_right}
use Rattle.mesh_base_values.specs.declared.values.Cell.{Cell}
use Rattle.mesh_base_values.specs.declared.values.Cell.TheVariants.{Null}
use Rattle.mesh_base_values.specs.declared.values.Column.{Column}
use Rattle.mesh_base_values.specs.Picked.{same_text, cell_of}
use Rattle.mesh_time_days.specs.seconds.Times.{time_of, is_within}
use Rattle.mesh_time_days.specs.seconds.Rows.{lies_within, rewritten, column_at, cell_at, is_before, are_by, are_before}

-- a cell at the place of its column is that of the column
at_nothing : (o : Option ℕ) → cell_at o [] ≡ Null
at_nothing None = refl
at_nothing (Some i) = refl

at_later : (o : Option ℕ) (x : Cell) (xs : List Cell) → cell_at (option_map suc o) (x ∷ xs) ≡ cell_at o xs
at_later None x xs = refl
at_later (Some i) x xs = refl

pub cell_at-is : (cs : List Column) (name : List ℕ) (row : List Cell) → cell_at (column_at cs name) row ≡ cell_of cs row name
cell_at-is [] name row = refl
cell_at-is (c ∷ cs) name [] = at_nothing (column_at (c ∷ cs) name)
cell_at-is (c ∷ cs) name (x ∷ xs) = at (same_text c.name name) (cell_at-is cs name xs)
  where
    at : (b : Bool) → cell_at (column_at cs name) xs ≡ cell_of cs xs name → cell_at (cond b (Some 0) (option_map suc (column_at cs name))) (x ∷ xs) ≡ cond b x (cell_of cs xs name)
    at true more = refl
    at false more = at_later (column_at cs name) x xs ∙ more

-- two tests that agree keep the same
pub kept_alike : (p q : List Cell → Bool) → ((row : List Cell) → p row ≡ q row) → (rows : List (List Cell)) → filter p rows ≡ filter q rows
kept_alike p q same [] = refl
kept_alike p q same (row ∷ rows) =
    ap (λ (b : Bool). cond b (row ∷ filter p rows) (filter p rows)) (same row)
    ∙ ap (λ l. cond (q row) (row ∷ l) l) (kept_alike p q same rows)

-- rows are tested by the place of their column
all_alike : (p q : List Cell → Bool) → ((row : List Cell) → p row ≡ q row) → (rows : List (List Cell)) → list_all p rows ≡ list_all q rows
all_alike p q same [] = refl
all_alike p q same (row ∷ rows) = λ i. same row i && all_alike p q same rows i

pub are_by-is : (columns : List Column) (time : List ℕ) (e : ℤ) (place : Option ℕ) (rows : List (List Cell)) → place ≡ column_at columns time → are_by place e rows ≡ are_before columns time e rows
are_by-is columns time e place rows is =
    ap (λ p. are_by p e rows) is
    ∙ all_alike (λ row. is_before e (time_of (cell_at (column_at columns time) row))) (λ row. is_before e (time_of (cell_of columns row time))) (λ row. ap (λ x. is_before e (time_of x)) (cell_at-is columns time row)) rows

no_later : (s e t : ℤ) → lt_z t s ≡ true → (le_z s t && lt_z t e) ≡ false
no_later s e t h = let above : le_z s t ≡ false = grind (arith, ints) in ap (λ (b : Bool). b && lt_z t e) above

-- a second that is before a range doesn't lie in it
not_within : (s e : ℤ) (o : Option ℤ) → is_before s o ≡ true → not (is_within (record { start = s; end = e }) o) ≡ true
not_within s e None h = refl
not_within s e (Some t) h = ap not (no_later s e t h)

module _ (columns : List Column) (time : List ℕ) (s e : ℤ) where
  pub all_stay : (rows : List (List Cell)) → are_before columns time s rows ≡ true → filter (λ row. not (lies_within columns time s e row)) rows ≡ rows
  all_stay [] h = refl
  all_stay (row ∷ rows) h =
      ap (λ (b : Bool). cond b (row ∷ filter (λ r. not (lies_within columns time s e r)) rows) (filter (λ r. not (lies_within columns time s e r)) rows))
      (not_within s e (time_of (cell_of columns row time)) (and_left _ (are_before columns time s rows) h))
      ∙ ap (λ (l : List (List Cell)). row ∷ l) (all_stay rows (and_right (is_before s (time_of (cell_of columns row time))) (are_before columns time s rows) h))

  -- rows that come behind all that are there
  pub added : (old more all : List (List Cell)) → are_before columns time s old ≡ true → all ≡ old ++ more → all ≡ rewritten columns time s e more old
  added old more all h is = is ∙ ap (λ (l : List (List Cell)). l ++ more) (sym (all_stay old h))

  later : (o : Option ℤ) → le_z s e ≡ true → is_before s o ≡ true → is_before e o ≡ true
  later None le h = refl
  later (Some t) le h = grind (arith, ints)

  -- what is before a second is before a later one
  pub still_before : le_z s e ≡ true → (rows : List (List Cell)) → are_before columns time s rows ≡ true → are_before columns time e rows ≡ true
  still_before le [] h = refl
  still_before le (row ∷ rows) h = and_both _ _
      (later (time_of (cell_of columns row time)) le (and_left _ (are_before columns time s rows) h))
      (still_before le rows (and_right (is_before s (time_of (cell_of columns row time))) (are_before columns time s rows) h))

  -- rows that come behind those before a range, and are before its end
  pub rewritten_before : (old more : List (List Cell)) → are_before columns time s old ≡ true → le_z s e ≡ true → are_before columns time e more ≡ true → are_before columns time e (rewritten columns time s e more old) ≡ true
  rewritten_before old more h le new =
      ap (are_before columns time e) (sym (added old more (old ++ more) h refl))
      ∙ list_all-append (λ row. is_before e (time_of (cell_of columns row time))) old more
      ∙ and_both _ _ (still_before le old h) new
