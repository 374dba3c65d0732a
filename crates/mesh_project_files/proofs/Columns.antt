-- No two columns of a seed have one name.
use Rattle.std.proofs.Common.{◌≡◌, ℕ, ◌+◌, Bool, true, false, cond, ◌&&◌, ◌||◌, not, nat_le, List, [], ◌∷◌, ◌++◌, map, length, Ok, refl, sym, ◌∙◌, ap, subst}
use Rattle.std.proofs.lemmas.List.{append_assoc}
use Rattle.std.proofs.lemmas.List.Folds.{list_any-append}
use Rattle.std.specs.List.{list_any}
use Rattle.std.specs.declared.option.Option.TheVariants.{None, Some}
use Rattle.std.proofs.lemmas.Bool.{and_from as and_both}
use Rattle.csv.specs.Reading.{default_config, records, strip_bom}
use Rattle.mesh_list.proofs.Ascends.{and_left, and_right}
use Rattle.mesh_base_values.specs.declared.values.Column.{Column}
use Rattle.mesh_base_values.specs.declared.values.ColType.{ColType}
use Rattle.mesh_base_values.specs.declared.values.Seed.{Seed}
use Rattle.mesh_base_values.specs.Picked.{same_text}
use Rattle.mesh_base.specs.rules.Seen.{has_column, are_distinct}
use Rattle.mesh_model_csv.specs.seeds.Cells.{Record}
use Rattle.mesh_base_values.specs.Names.{is_identifier}
use Rattle.mesh_model_csv.specs.seeds.Headers.{bad_row, long_name, longest_name, many_columns, most_columns, name_fault, names_fault, header_fault, header_names, is_among, lowered}
use Rattle.mesh_model_csv.specs.seeds.Seeds.{shape_fault, kinds, records_fault, columns_of, seed_rows, seed_under, seed_of, seed_text, unless}
use Rattle.mesh_model_csv.proofs.seeds.Fitting.{first_none, unless_ok}

-- none of the names stands before it, where these stand before all
abbrev are_fresh : List (List ℕ) → List (List ℕ) → Bool
are_fresh before [] = true
are_fresh before (n ∷ ns) = not (is_among before n) && are_fresh (before ++ n ∷ []) ns

third : {A : Type 0} (a b m d : Bool) (x y z w : A) → cond a (Some x) (cond b (Some y) (cond m (Some z) (cond d (Some w) None))) ≡ None → not m ≡ true
third true b m d x y z w e = cc e
third false true m d x y z w e = cc e
third false false true d x y z w e = cc e
third false false false d x y z w e = refl

names_fresh : (before : List (List ℕ)) (c : ℕ) (fields : List (List ℕ)) → names_fault before c fields ≡ None → are_fresh before (map lowered fields) ≡ true
names_fresh before c [] e = refl
names_fresh before c (f ∷ fields) e =
    let both = first_none (name_fault before c f) (names_fault (before ++ lowered f ∷ []) (c + 1) fields) e in
    and_both _ _
    (third (not (is_identifier f)) (not (nat_le (length f) longest_name)) (is_among before (lowered f)) (not (nat_le c most_columns)) (bad_row 1 c) long_name (bad_row 1 c) many_columns both.0)
    (names_fresh (before ++ lowered f ∷ []) (c + 1) fields both.1)

middle : (a b c : Bool) → not (a || (b || c)) ≡ true → b ≡ false
middle true b c e = cc e
middle false true c e = cc e
middle false false c e = refl

-- a name that stands before others is none of theirs
unlike : (front back : List (List ℕ)) (n : List ℕ) (ns : List (List ℕ)) (ks : List ColType) → are_fresh (front ++ n ∷ back) ns ≡ true → has_column (columns_of ns ks) n ≡ false
unlike front back n [] ks e = refl
unlike front back n (m ∷ ns) [] e = refl
unlike front back n (m ∷ ns) (k ∷ ks) e =
    let apart : not (list_any (same_text m) front || (same_text m n || list_any (same_text m) back)) ≡ true =
    ap not (sym (list_any-append (same_text m) front (n ∷ back))) ∙ and_left (not (is_among (front ++ n ∷ back) m)) _ e in
    let later : are_fresh (front ++ n ∷ (back ++ m ∷ [])) ns ≡ true =
    subst (λ l. are_fresh l ns ≡ true) (append_assoc front (n ∷ back) (m ∷ [])) (and_right (not (is_among (front ++ n ∷ back) m)) _ e) in
    ap (λ (b : Bool). b || has_column (columns_of ns ks) n) (middle _ (same_text m n) _ apart) ∙ unlike front (back ++ m ∷ []) n ns ks later

fresh_distinct : (before ns : List (List ℕ)) (ks : List ColType) → are_fresh before ns ≡ true → are_distinct (columns_of ns ks) ≡ true
fresh_distinct before [] ks e = refl
fresh_distinct before (n ∷ ns) [] e = refl
fresh_distinct before (n ∷ ns) (k ∷ ks) e =
    let later = and_right (not (is_among before n)) _ e in
    and_both _ _ (ap not (unlike before [] n ns ks later)) (fresh_distinct (before ++ n ∷ []) ns ks later)

under_distinct : (declared : List Column) (names : List (List ℕ)) (rs : List Record) (seed : Seed) → are_fresh [] names ≡ true → seed_under declared names rs ≡ Ok seed → are_distinct seed.columns ≡ true
under_distinct declared names rs seed fresh e =
    let ks = kinds declared names rs in
    let shape = unless_ok (shape_fault declared names) (unless (records_fault 2 ks rs) (Ok (seed_rows names ks rs))) seed e in
    let read = unless_ok (records_fault 2 ks rs) (Ok (seed_rows names ks rs)) seed shape.1 in
    let is : seed_rows names ks rs ≡ seed = cc read.1 in
    subst (λ (s : Seed). are_distinct s.columns ≡ true) is (fresh_distinct [] names ks fresh)

records_distinct : (declared : List Column) (rs : List Record) (seed : Seed) → seed_of declared rs ≡ Ok seed → are_distinct seed.columns ≡ true
records_distinct declared [] seed e = cc e
records_distinct declared (header ∷ rs) seed e =
    let read = unless_ok (header_fault header) (seed_under declared (header_names header) rs) seed e in
    under_distinct declared (header_names header) rs seed (names_fresh [] 1 header read.0) read.1

pub seed_distinct : (declared : List Column) (bytes : List ℕ) (seed : Seed) → seed_text declared bytes ≡ Ok seed → are_distinct seed.columns ≡ true
seed_distinct declared bytes seed e = records_distinct declared (records default_config (strip_bom bytes)) seed e
