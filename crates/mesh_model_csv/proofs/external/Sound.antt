-- Sources that are declared ascend by name, and each is proper.
use Rattle.std.proofs.Common.{◌≡◌, ℕ, ◌+◌, ◌==◌, Bool, true, false, cond, ◌&&◌, not, nat_le, nat_lt, List, [], ◌∷◌, ◌++◌, codes, length, Result, Ok, Err, refl, sym, ◌∙◌, ap, subst}
use Rattle.std.proofs.lemmas.List.{append-nil, append_assoc}
use Rattle.std.proofs.lemmas.List.Folds.{list_any-append}
use Rattle.std.specs.List.{list_all}
use Rattle.std.specs.Option.{is_some, unwrap_or}
use Rattle.std.specs.Ordering.{is_eq}
use Rattle.std.specs.Str.{bytes_eq}
use Rattle.std.specs.declared.cmp.Ordering.{Ordering}
use Rattle.std.specs.declared.cmp.Ordering.TheVariants.{Less, Equal, Greater}
use Rattle.std.specs.declared.option.Option.{Option}
use Rattle.std.specs.declared.option.Option.TheVariants.{None, Some}
use Rattle.std.proofs.lemmas.Bool.{and_from as and_both, or_left, or_right}
use Rattle.csv.specs.Reading.{default_config, records, strip_bom}
use Rattle.mesh_list.proofs.Ascends.{and_left, and_right, ascends-placed}
use Rattle.mesh_list.proofs.Standing.{ascends-without}
use Rattle.mesh_list.specs.Keyed.{found, put_by, placed, without, ascends}
use Rattle.mesh_base_values.specs.NameOrder.{names_total}
use Rattle.mesh_base_values.specs.Names.{name_cmp, is_identifier}
use Rattle.mesh_base_values.specs.Picked.{same_text}
use Rattle.mesh_base.specs.declared.definitions.Decl.{Decl}
use Rattle.mesh_base_values.specs.declared.values.Column.{Column}
use Rattle.mesh_base_values.specs.declared.values.Name.{Name}
use Rattle.mesh_base_values.proofs.Equals.{self_equal as itself, text_itself as same_itself}
use Rattle.mesh_query_tokens.specs.Gives.{◌>>=◌}
use Rattle.mesh_query_tokens.specs.declared.faults.ReadFault.{ReadFault}
use Rattle.mesh_model_csv.specs.seeds.Cells.{Record, field}
use Rattle.mesh_model_csv.specs.seeds.Headers.{bad_row, long_name, many_columns, longest_name, most_columns, lowered}
use Rattle.mesh_model_csv.specs.seeds.Seeds.{unless}
use Rattle.mesh_query_tokens.specs.Text.{largest_file}
use Rattle.mesh_model_csv.specs.external.Externals.{has_column, column_name, column_type, time_of, with_column, grown, decl_name, undeclared, declared, with_source, source_name, declared_by, declare, declare_all, shape_fault, external_of, external_text, large_file}
use Rattle.mesh_model_csv.specs.external.Proper.{are_new, has_its_time, is_proper}

bound : {A B : Type 0} (r : Result A ReadFault) (next : A → Result B ReadFault) (y : B) → (r >>= next) ≡ Ok y → (x : A) × (r ≡ Ok x) × (next x ≡ Ok y)
bound (Ok x) next y e = (x, refl, e)
bound (Err f) next y e = cc e

-- a text is itself

-- a column behind those that are new is new where none has its name
new_behind : (front cs : List Column) (c : Column) → are_new front cs ≡ true → has_column (front ++ cs) c.name ≡ false → are_new front (cs ++ c ∷ []) ≡ true
new_behind front [] c new none = and_both _ _ (ap not (ap (λ l. has_column l c.name) (sym (append-nil front)) ∙ none)) refl
new_behind front (d ∷ cs) c new none =
    and_both _ _ (and_left _ _ new) (new_behind (front ++ d ∷ []) cs c (and_right (not (has_column front d.name)) _ new)
    (ap (λ l. has_column l c.name) (append_assoc front (d ∷ []) cs) ∙ none))

-- columns that a source has it keeps
still_there : (cs : List Column) (c : Column) (time : Option (List ℕ)) → has_its_time cs time ≡ true → has_its_time (cs ++ c ∷ []) time ≡ true
still_there cs c None h = refl
still_there cs c (Some t) h = list_any-append (λ (d : Column). same_text d.name t) cs (c ∷ []) ∙ or_left _ _ h

last_there : (cs : List Column) (c : Column) → has_column (cs ++ c ∷ []) c.name ≡ true
last_there cs c = list_any-append (λ (d : Column). same_text d.name c.name) cs (c ∷ []) ∙ or_right _ _ (or_left _ _ (same_itself c.name))

-- the time column of a source with one column more
time_there : (r : ℕ) (cs : List Column) (c : Column) (time found : Option (List ℕ)) (role : List ℕ) → has_its_time cs time ≡ true → time_of r time c.name role ≡ Ok found
    → has_its_time (cs ++ c ∷ []) found ≡ true
time_there r cs c time found [] h e = let same : time ≡ found = cc e in subst (λ t. has_its_time (cs ++ c ∷ []) t ≡ true) same (still_there cs c time h)
time_there r cs c time found (b ∷ bs) h e = by (bytes_eq (b ∷ bs) (codes "time") && not (is_some time)) e
  where
    by : (t : Bool) → cond t (Ok (Some c.name)) (Err (bad_row r 4)) ≡ Ok found → has_its_time (cs ++ c ∷ []) found ≡ true
    by true f = let same : Some c.name ≡ found = cc f in subst (λ t. has_its_time (cs ++ c ∷ []) t ≡ true) same (last_there cs c)
    by false f = cc f

-- a column's name is new to the source
name_new : (r : ℕ) (cs : List Column) (column name : List ℕ) → column_name r cs column ≡ Ok name → has_column cs name ≡ false
name_new r cs column name e = by (is_identifier column) (nat_le (length column) longest_name) (has_column cs (lowered column)) refl (nat_lt (length cs) most_columns) e
  where
    by : (a b t : Bool) → has_column cs (lowered column) ≡ t → (d : Bool)
        → cond (not a) (Err (bad_row r 2)) (cond (not b) (Err long_name) (cond t (Err (bad_row r 2)) (cond (not d) (Err many_columns) (Ok (lowered column))))) ≡ Ok name → has_column cs name ≡ false
    by false b t is d f = cc f
    by true false t is d f = cc f
    by true true true is d f = cc f
    by true true false is false f = cc f
    by true true false is true f = let same : lowered column ≡ name = cc f in subst (λ n. has_column cs n ≡ false) same is

-- a source with one column more is proper
grown_proper : (r : ℕ) (d more : Decl) (column type role : List ℕ) → is_proper d ≡ true → grown r d column type role ≡ Ok more → is_proper more ≡ true
grown_proper r d more column type role h e =
    let named = bound (column_name r d.columns column) (λ name. column_type r type >>= λ kind. time_of r d.time name role >>= λ time. Ok (with_column d name kind time)) more e in
    let typed = bound (column_type r type) (λ kind. time_of r d.time named.0 role >>= λ time. Ok (with_column d named.0 kind time)) more named.2 in
    let timed = bound (time_of r d.time named.0 role) (λ time. Ok (with_column d named.0 typed.0 time)) more typed.2 in
    let c : Column = record { name = named.0; kind = typed.0 } in
    let same : with_column d named.0 typed.0 timed.0 ≡ more = cc timed.2 in
    subst (λ m. is_proper m ≡ true) same (and_both _ _
    (new_behind [] d.columns c (and_left _ _ h) (name_new r d.columns column named.0 named.1))
    (time_there r d.columns c d.time timed.0 role (and_right (are_new [] d.columns) _ h) timed.1))

-- the source that is found is one of the list
found_proper : (name : Name) (ds : List Decl) → list_all is_proper ds ≡ true → is_proper (declared name ds) ≡ true
found_proper name [] h = refl
found_proper name (d ∷ ds) h = by (is_eq (name_cmp d.name name)) (found_proper name ds (and_right (is_proper d) _ h))
  where
    by : (b : Bool) → is_proper (declared name ds) ≡ true → is_proper (unwrap_or (cond b (Some d) (found name_cmp decl_name name ds)) (undeclared name)) ≡ true
    by true more = and_left _ _ h
    by false more = more

without_proper : (name : Name) (ds : List Decl) → list_all is_proper ds ≡ true → list_all is_proper (without name_cmp decl_name name ds) ≡ true
without_proper name [] h = refl
without_proper name (d ∷ ds) h = by (is_eq (name_cmp d.name name)) (without_proper name ds (and_right (is_proper d) _ h))
  where
    by : (b : Bool) → list_all is_proper (without name_cmp decl_name name ds) ≡ true → list_all is_proper (cond b ds (d ∷ without name_cmp decl_name name ds)) ≡ true
    by true more = and_right (is_proper d) _ h
    by false more = and_both _ _ (and_left _ _ h) more

placed_proper : (d : Decl) (ds : List Decl) → is_proper d ≡ true → list_all is_proper ds ≡ true → list_all is_proper (placed name_cmp decl_name d ds) ≡ true
placed_proper d [] p h = and_both _ _ p refl
placed_proper d (x ∷ xs) p h = by (name_cmp x.name d.name) (placed_proper d xs p (and_right (is_proper x) _ h))
  where
    by : (o : Ordering) → list_all is_proper (placed name_cmp decl_name d xs) ≡ true → list_all is_proper (put_by o x d xs (placed name_cmp decl_name d xs)) ≡ true
    by Less more = and_both _ _ (and_left _ _ h) more
    by Equal more = and_both _ _ p (and_right (is_proper x) _ h)
    by Greater more = and_both _ _ p h

-- what every list of sources keeps
Kept : List Decl → Type 0
Kept ds = (list_all is_proper ds ≡ true) × (ascends name_cmp decl_name ds ≡ true)

declared_keeps : (r : ℕ) (ds more : List Decl) (name column type role : List ℕ) → Kept ds → declared_by r ds name column type role ≡ Ok more → Kept more
unfolding Kept
declared_keeps r ds more name column type role h e =
    let named = bound (source_name r name) (λ name. grown r (declared name ds) column type role >>= λ d. Ok (with_source name ds d)) more e in
    let made = bound (grown r (declared named.0 ds) column type role) (λ d. Ok (with_source named.0 ds d)) more named.2 in
    let same : with_source named.0 ds made.0 ≡ more = cc made.2 in
    subst Kept same (
      placed_proper made.0 (without name_cmp decl_name named.0 ds) (grown_proper r (declared named.0 ds) made.0 column type role (found_proper named.0 ds h.0) made.1) (without_proper named.0 ds h.0),
      ascends-placed name_cmp names_total decl_name made.0 (without name_cmp decl_name named.0 ds) (ascends-without name_cmp names_total decl_name named.0 ds h.1),
    )

declare_keeps : (r : ℕ) (ds more : List Decl) (fields : Record) → Kept ds → declare r ds fields ≡ Ok more → Kept more
declare_keeps r ds more fields h e = by (length fields == 4) e
  where
    by : (b : Bool) → cond b (declared_by r ds (field 0 fields) (field 1 fields) (field 2 fields) (field 3 fields)) (Err (bad_row r 0)) ≡ Ok more → Kept more
    by true f = declared_keeps r ds more (field 0 fields) (field 1 fields) (field 2 fields) (field 3 fields) h f
    by false f = cc f

all_keep : (r : ℕ) (ds more : List Decl) (rs : List Record) → Kept ds → declare_all r ds rs ≡ Ok more → Kept more
all_keep r ds more [] h e = let same : ds ≡ more = cc e in subst Kept same h
all_keep r ds more (fields ∷ rs) h e =
    let one = bound (declare r ds fields) (λ ds. declare_all (r + 1) ds rs) more e in
    all_keep (r + 1) one.0 more rs (declare_keeps r ds one.0 fields h one.1) one.2

unless_ok : {A : Type 0} (fault : Option ReadFault) (answer : Result A ReadFault) (x : A) → unless fault answer ≡ Ok x → answer ≡ Ok x
unless_ok None answer x e = e
unless_ok (Some f) answer x e = cc e

records_keep : (rs : List Record) (ds : List Decl) → external_of rs ≡ Ok ds → Kept ds
unfolding Kept
records_keep [] ds e = cc e
records_keep (header ∷ rs) ds e = all_keep 2 [] ds rs (refl, refl) (unless_ok (shape_fault header) (declare_all 2 [] rs) ds e)

pub text_keeps : (bytes : List ℕ) (ds : List Decl) → external_text bytes ≡ Ok ds → (list_all is_proper ds ≡ true) × (ascends name_cmp decl_name ds ≡ true)
unfolding Kept
text_keeps bytes ds e = by (nat_le (length bytes) largest_file) e
  where
    by : (b : Bool) → cond b (external_of (records default_config (strip_bom bytes))) (Err large_file) ≡ Ok ds → Kept ds
    by true f = records_keep (records default_config (strip_bom bytes)) ds f
    by false f = cc f

pub sources_proper : (bytes : List ℕ) (ds : List Decl) → external_text bytes ≡ Ok ds → list_all is_proper ds ≡ true
sources_proper bytes ds e = (text_keeps bytes ds e).0

pub sources_up : (bytes : List ℕ) (ds : List Decl) → external_text bytes ≡ Ok ds → ascends name_cmp decl_name ds ≡ true
sources_up bytes ds e = (text_keeps bytes ds e).1
