-- What the audits that need no file find.
use Rattle.std.proofs.Common.{◌≡◌, ℕ, zero, suc, pos, Bool, true, false, cond, List, [], ◌∷◌, ◌++◌, length, map, get_or, slice_index_or, refl, sym, ap, ◌∙◌, arith}
use Rattle.std.proofs.lemmas.List.{append-nil}
use Rattle.std.specs.List.{Contains, filter, flat_map, fold, list_any}
use Rattle.std.specs.Option.{unwrap_or}
use Rattle.std.specs.Ordering.{int_cmp, is_gt}
use Rattle.std.specs.declared.option.Option.{Option}
use Rattle.std.specs.declared.option.Option.TheVariants.{None, Some}
use Rattle.mesh_base_values.specs.Picked.{cell_of}
use Rattle.mesh_base_values.specs.declared.times.Bounds.{Bounds}
use Rattle.mesh_base_values.specs.declared.values.Cell.{Cell}
use Rattle.mesh_base_values.specs.declared.values.Cell.TheVariants as cell
use Rattle.mesh_base_values.specs.declared.values.Column.{Column}
use Rattle.mesh_base_values.specs.declared.values.Name.{Name}
use Rattle.mesh_base.specs.declared.expressions.Expr.{Expr, out-Expr, roll-Expr, out-roll-Expr}
use Rattle.mesh_base.specs.declared.expressions.Expr as expr
use Rattle.mesh_base.specs.declared.expressions.Expr.TheOpen.{Expr-F, Literal, Col, Binary, CountAll}
use Rattle.mesh_base.specs.declared.expressions.Op.TheVariants.{Gt}
use Rattle.mesh_base.specs.declared.expressions.When.{When}
use Rattle.mesh_base.specs.declared.jobs.Input.{Input}
use Rattle.mesh_spec_query.specs.Aggregates.{distinct}
use Rattle.mesh_spec_query.specs.Cells.{case_value, chosen, is_null, is_true, op_value}
use Rattle.mesh_spec_query.specs.Ev.{Ev, Scope, Seen, at_row, seen}
use Rattle.mesh_spec_query.specs.Sel.{Group, Joined, Sel, group_of, group_row, group_scope, holds, key_list, row_holds, row_scope, same_row, select_rows}
use Rattle.mesh_spec_query.specs.Tables.{columns_in, relation, rows_in}
use Rattle.mesh_spec_query.proofs.Nodes.{count_inside, of_binary, of_case, of_column, of_is_null, of_literal}
use Rattle.mesh_audit.specs.Forms.{is_some_null, not_null, one, read_alone, repeated, stands_twice, unique_values, when_null}
use Rattle.mesh_audit.specs.Meant.{has_null, mark_row, repeats, rows_with_null, stands_again, table_at, values_of}

all_pass : {A : Type 0} (xs : List A) → filter (λ x. true) xs ≡ xs
all_pass [] = refl
all_pass (x ∷ xs) = ap (λ l. x ∷ l) (all_pass xs)

abbrev single : List Cell → Joined
single row = row ∷ []

-- a test that is another one's is passed by the same
same_test : {A : Type 0} (p q : A → Bool) → ((x : A) → p x ≡ q x) → (xs : List A) → filter p xs ≡ filter q xs
same_test p q is [] = refl
same_test p q is (x ∷ xs) = at (q x) refl (same_test p q is xs)
  where
    at : (b : Bool) → q x ≡ b → filter p xs ≡ filter q xs → filter p (x ∷ xs) ≡ filter q (x ∷ xs)
    at true e rest = rw (is x, e) (ap (λ l. x ∷ l) rest)
    at false e rest = rw (is x, e) rest

-- those of a list that is made of another one
filter_made : {A B : Type 0} (f : A → B) (p : B → Bool) (xs : List A) → filter p (map f xs) ≡ map f (filter (λ x. p (f x)) xs)
filter_made f p [] = refl
filter_made f p (x ∷ xs) = at (p (f x)) refl (filter_made f p xs)
  where
    at : (b : Bool) → p (f x) ≡ b → filter p (map f xs) ≡ map f (filter (λ x. p (f x)) xs) → filter p (map f (x ∷ xs)) ≡ map f (filter (λ x. p (f x)) (x ∷ xs))
    at true e rest = rw e (ap (λ l. f x ∷ l) rest)
    at false e rest = rw e rest

map_same : {A B : Type 0} (f g : A → B) → ((x : A) → f x ≡ g x) → (xs : List A) → map f xs ≡ map g xs
map_same f g is [] = refl
map_same f g is (x ∷ xs) = λ i. is x i ∷ map_same f g is xs i

map_map : {A B C : Type 0} (f : A → B) (g : B → C) (xs : List A) → map g (map f xs) ≡ map (λ x. g (f x)) xs
map_map f g [] = refl
map_map f g (x ∷ xs) = ap (λ l. g (f x) ∷ l) (map_map f g xs)

length_made : {A B : Type 0} (f : A → B) (xs : List A) → length (map f xs) ≡ length xs
length_made f [] = refl
length_made f (x ∷ xs) = ap suc (length_made f xs)

-- the rows of FROM one model
from_one : (rows : List (List Cell)) → filter (λ (row : Joined). true) (map (λ row. [] ++ row ∷ []) rows) ++ [] ≡ map single rows
from_one rows = append-nil _ ∙ all_pass (map single rows)

no_key_at_row : (u : Bounds) (s : Seen) (e : Expr) → Contains [] e → ⊥
no_key_at_row u s e h = absurd (omega (h.1, arith))

column_is : (u : Bounds) (columns : List Column) (row : List Cell) (name : List ℕ) → Ev (expr.Col 0 name) (row_scope u (columns ∷ []) (single row)) ≡ cell_of columns row name
column_is u columns row name = of_column 0 name _ (λ h. no_key_at_row u (seen (columns ∷ []) (single row)) _ h)

when_is : (u : Bounds) (columns : List Column) (row : List Cell) (name : List ℕ) → let s = row_scope u (columns ∷ []) (single row) in
    ◌≡◌ {A = Cell × Cell} (Ev (expr.IsNull (expr.Col 0 name)) s, Ev (expr.Literal (cell.Bool true)) s) (cell.Bool (is_null (cell_of columns row name)), cell.Bool true)
when_is u columns row name =
    let s = row_scope u (columns ∷ []) (single row) in
    λ i. (
      (of_is_null (expr.Col 0 name) s (λ h. no_key_at_row u (seen (columns ∷ []) (single row)) _ h) ∙ ap (λ c. cell.Bool (is_null c)) (column_is u columns row name)) i,
      of_literal (cell.Bool true) s (λ h. no_key_at_row u (seen (columns ∷ []) (single row)) _ h) i,
    )

-- the first condition that is true ends the CASE
stays_chosen : (v : Cell) (ws : List (Cell × Cell)) → fold chosen (Some v) ws ≡ Some v
stays_chosen v [] = refl
stays_chosen v (w ∷ ws) = stays_chosen v ws

case_is : (columns : List Column) (row : List Cell) (names : List (List ℕ)) →
    is_true (case_value (map (λ name. (cell.Bool (is_null (cell_of columns row name)), cell.Bool true)) names) (cell.Bool false)) ≡ has_null columns names row
case_is columns row [] = refl
case_is columns row (n ∷ ns) = at (is_null (cell_of columns row n)) refl (case_is columns row ns)
  where
    rest_ : List (Cell × Cell)
    rest_ = map (λ name. (cell.Bool (is_null (cell_of columns row name)), cell.Bool true)) ns

    at : (b : Bool) → is_null (cell_of columns row n) ≡ b → is_true (case_value (map (λ name. (cell.Bool (is_null (cell_of columns row name)), cell.Bool true)) ns) (cell.Bool false)) ≡ has_null columns ns row
        → is_true (case_value (map (λ name. (cell.Bool (is_null (cell_of columns row name)), cell.Bool true)) (n ∷ ns)) (cell.Bool false)) ≡ has_null columns (n ∷ ns) row
    at true e rest = rw e (ap (λ o. is_true (unwrap_or o (cell.Bool false))) (stays_chosen (cell.Bool true) (map (λ name. (cell.Bool (is_null (cell_of columns row name)), cell.Bool true)) ns)))
    at false e rest = rw e rest

null_is : (u : Bounds) (columns : List Column) (names : List (List ℕ)) (row : List Cell) → row_holds u (columns ∷ []) (Some (is_some_null names)) (single row) ≡ has_null columns names row
null_is u columns names row =
    let s = row_scope u (columns ∷ []) (single row) in
    ap is_true (of_case (map when_null names) (expr.Literal (cell.Bool false)) s (λ h. no_key_at_row u (seen (columns ∷ []) (single row)) _ h)
    ∙ (λ i. case_value (whens i) (of_literal (cell.Bool false) s (λ h. no_key_at_row u (seen (columns ∷ []) (single row)) _ h) i)))
    ∙ case_is columns row names
  where
    whens : map {B = Cell × Cell} (λ (w : When). (Ev w.test (row_scope u (columns ∷ []) (single row)), Ev w.value (row_scope u (columns ∷ []) (single row)))) (map when_null names) ≡ map {B = Cell × Cell} (λ name. (cell.Bool (is_null (cell_of columns row name)), cell.Bool true)) names
    whens = map_map when_null _ names ∙ map_same _ _ (when_is u columns row) names

marked : (u : Bounds) (columns : List Column) (row : List Cell) → Ev (expr.Literal (cell.Int (pos 1))) (row_scope u (columns ∷ []) (single row)) ∷ [] ≡ mark_row
marked u columns row = ap (λ c. c ∷ []) (of_literal (cell.Int (pos 1)) _ (λ h. no_key_at_row u (seen (columns ∷ []) (single row)) _ h))

-- not_null
pub rows_found : (tables : List Input) (u : Bounds) (model : Name) (names : List (List ℕ)) → Sel (not_null model names) tables u ≡ map (λ (row : List Cell). mark_row) (rows_with_null (table_at tables model) names)
rows_found tables u model names =
    let columns = columns_in (table_at tables model) in
    let rows = rows_in (table_at tables model) in
    append-nil _
    ∙ ap (λ (js : List Joined). map (λ row. Ev (expr.Literal (cell.Int (pos 1))) (row_scope u (columns ∷ []) row) ∷ []) (filter (row_holds u (columns ∷ []) (Some (is_some_null names))) js)) (from_one rows)
    ∙ ap (map (λ row. Ev (expr.Literal (cell.Int (pos 1))) (row_scope u (columns ∷ []) row) ∷ [])) (filter_made single _ rows ∙ ap (map single) (same_test _ _ (null_is u columns names) rows))
    ∙ map_map single _ (filter (has_null columns names) rows)
    ∙ map_same _ _ (marked u columns) (filter (has_null columns names) rows)

not_literal : (name : List ℕ) (c : Cell) → expr.Col 0 name ≡ expr.Literal c → ⊥
unfolding roll-Expr denote.Hole.Carrier.roll
not_literal name c h = let nodes : Col 0 name ≡ Literal c = sym (out-roll-Expr (Col 0 name)) ∙ ap out-Expr h ∙ out-roll-Expr (Literal c) in cc nodes

not_count : (name : List ℕ) → expr.Col 0 name ≡ expr.CountAll → ⊥
unfolding roll-Expr denote.Hole.Carrier.roll
not_count name h = let nodes : Col 0 name ≡ CountAll = sym (out-roll-Expr (Col 0 name)) ∙ ap out-Expr h ∙ out-roll-Expr CountAll in cc nodes

not_binary : (name : List ℕ) (a b : Expr) → expr.Col 0 name ≡ expr.Binary Gt a b → ⊥
unfolding roll-Expr denote.Hole.Carrier.roll
not_binary name a b h = let nodes : Col 0 name ≡ Binary Gt a b = sym (out-roll-Expr (Col 0 name)) ∙ ap out-Expr h ∙ out-roll-Expr (Binary Gt a b) in cc nodes

no_key_in_group : (name : List ℕ) (e : Expr) → (expr.Col 0 name ≡ e → ⊥) → Contains (expr.Col 0 name ∷ []) e → ⊥
no_key_in_group name e differs (zero, lt, is) = differs is
no_key_in_group name e differs (suc k, lt, is) = absurd (omega (lt, arith))

module _ (u : Bounds) (columns : List Column) (name : List ℕ) (rows : List (List Cell)) where
  abbrev keys : List Expr
  keys = expr.Col 0 name ∷ []

  abbrev value : List Cell → List Cell
  value row = cell_of columns row name ∷ []

  key_is : (row : List Cell) → key_list u (columns ∷ []) keys (single row) ≡ value row
  key_is row = ap (λ c. c ∷ []) (column_is u columns row name)

  keys_are : map (key_list u (columns ∷ []) keys) (map single rows) ≡ map value rows
  keys_are = map_map single (key_list u (columns ∷ []) keys) rows ∙ map_same _ value key_is rows

  abbrev group : List Cell → Group
  group v = group_of u (columns ∷ []) keys (map single rows) v

  count_is : (v : List Cell) → length (map (seen (columns ∷ [])) (group v).rows) ≡ length (filter (same_row v) (map value rows))
  count_is v =
      length_made (seen (columns ∷ [])) (group v).rows
      ∙ ap length (filter_made single (λ j. same_row v (key_list u (columns ∷ []) keys j)) rows)
      ∙ length_made single _
      ∙ ap length (same_test _ (λ row. same_row v (value row)) (λ row. ap (same_row v) (key_is row)) rows)
      ∙ sym (length_made value _)
      ∙ ap length (sym (filter_made value (same_row v) rows))

  having_is : (v : List Cell) → holds (Some stands_twice) (group_scope u (columns ∷ []) keys (group v)) ≡ stands_again (map value rows) v
  having_is v =
      let s = group_scope u (columns ∷ []) keys (group v) in
      ap is_true
      (of_binary Gt expr.CountAll (expr.Literal (cell.Int (pos 1))) s (no_key_in_group name _ (not_binary name _ _))
      ∙ (λ i. compared_gt
      (count_inside s (map (seen (columns ∷ [])) (group v).rows) (no_key_in_group name _ (not_count name)) refl i)
      (of_literal (cell.Int (pos 1)) s (no_key_in_group name _ (not_literal name _)) i)))
      ∙ ap (λ n. is_gt (int_cmp (pos n) (pos 1))) (count_is v)
    where
      compared_gt : Cell → Cell → Cell
      compared_gt = op_value Gt

  group_is : (v : List Cell) → group_row u (columns ∷ []) (repeated (record { schema = []; model = [] }) name) (group v) ≡ cond (stands_again (map value rows) v) (mark_row ∷ []) []
  group_is v =
      let s = group_scope u (columns ∷ []) keys (group v) in
      λ i. cond (having_is v i) ((of_literal (cell.Int (pos 1)) s (no_key_in_group name _ (not_literal name _)) i ∷ []) ∷ []) []

-- each that passes, as one row
each_marked : {A : Type 0} (p : A → Bool) (f : A → List (List Cell)) → ((x : A) → f x ≡ cond (p x) (mark_row ∷ []) []) → (xs : List A) → flat_map f xs ≡ map (λ x. mark_row) (filter p xs)
each_marked p f is [] = refl
each_marked p f is (x ∷ xs) = at (p x) refl (each_marked p f is xs)
  where
    at : (b : Bool) → p x ≡ b → flat_map f xs ≡ map (λ x. mark_row) (filter p xs) → flat_map f (x ∷ xs) ≡ map (λ x. mark_row) (filter p (x ∷ xs))
    at true e rest = rw (is x, e) (ap (λ l. mark_row ∷ l) rest)
    at false e rest = rw (is x, e) rest

flat_made : {A B C : Type 0} (f : A → B) (g : B → List C) (xs : List A) → flat_map g (map f xs) ≡ flat_map (λ x. g (f x)) xs
flat_made f g [] = refl
flat_made f g (x ∷ xs) = ap (λ l. g (f x) ++ l) (flat_made f g xs)

column_found : (tables : List Input) (u : Bounds) (model : Name) (name : List ℕ) → select_rows tables u [] (repeated model name) ≡ map (λ (value : List Cell). mark_row) (repeats (values_of (table_at tables model) name))
column_found tables u model name =
    let columns = columns_in (table_at tables model) in
    let rows = rows_in (table_at tables model) in
    let key : List Expr = expr.Col 0 name ∷ [] in
    let q = repeated model name in
    ap (λ (js : List Joined). flat_map (group_row u (columns ∷ []) q) (map (group_of u (columns ∷ []) key js) (distinct same_row (map (key_list u (columns ∷ []) key) js)))) (all_kept rows)
    ∙ flat_made (group_of u (columns ∷ []) key (map single rows)) (group_row u (columns ∷ []) q) _
    ∙ ap (flat_map (λ v. group_row u (columns ∷ []) q (group_of u (columns ∷ []) key (map single rows) v))) (ap (distinct same_row) (keys_are u columns name rows))
    ∙ each_marked (stands_again (values_of (table_at tables model) name)) _ (group_is u columns name rows) (distinct same_row (values_of (table_at tables model) name))
  where
    all_kept : (rs : List (List Cell)) → filter (λ (row : Joined). true) (filter (λ (row : Joined). true) (map (λ row. [] ++ row ∷ []) rs) ++ []) ≡ map single rs
    all_kept rs = all_pass _ ∙ from_one rs

flat_same : {A B : Type 0} (f g : A → List B) → ((x : A) → f x ≡ g x) → (xs : List A) → flat_map f xs ≡ flat_map g xs
flat_same f g is [] = refl
flat_same f g is (x ∷ xs) = λ i. is x i ++ flat_same f g is xs i

-- unique_values
pub values_found : (tables : List Input) (u : Bounds) (model : Name) (names : List (List ℕ)) →
    Sel (unique_values model names) tables u ≡ flat_map (λ name. map (λ (value : List Cell). mark_row) (repeats (values_of (table_at tables model) name))) names
values_found tables u model names = flat_made (repeated model) (select_rows tables u []) names ∙ flat_same _ _ (column_found tables u model) names
