-- Tables that are cut to what a definition reads give it the same rows.
use Rattle.std.proofs.Common.{◌≡◌, Bool, true, false, cond, ◌||◌, List, [], ◌∷◌, map, refl, ap, ◌∙◌}
use Rattle.std.specs.List.{All}
use Rattle.std.specs.Ordering.{is_eq}
use Rattle.std.specs.declared.option.Option.TheVariants.{Some}
use Rattle.std.proofs.lemmas.Bool.{or_right as later}
use Rattle.mesh_base_values.specs.NameOrder.{names_exact}
use Rattle.mesh_base_values.specs.Names.{name_cmp}
use Rattle.mesh_base_values.specs.declared.values.ColType.{ColType}
use Rattle.mesh_base_values.specs.Picked.{same_text, kind_of, cell_of, picked_row, picked_rows, picked_columns}
use Rattle.mesh_base_values.specs.declared.times.Bounds.{Bounds}
use Rattle.mesh_base_values.specs.declared.values.Cell.TheVariants.{Null}
use Rattle.mesh_base_values.specs.declared.values.Column.{Column}
use Rattle.mesh_base_values.specs.declared.values.Name.{Name}
use Rattle.mesh_base_values.proofs.Equals.{equal_of}
use Rattle.mesh_base.specs.declared.definitions.Defn.{Defn}
use Rattle.mesh_base.specs.declared.jobs.Input.{Input}
use Rattle.mesh_base.specs.rules.Proper.{defn_names}
use Rattle.mesh_spec_model.specs.Scratch.{defn_rows}
use Rattle.mesh_law_query.specs.Alike.{named}
use Rattle.mesh_law_query.specs.Reads.{defn_reads}
use Rattle.mesh_law_query.specs.Cuts.{cut, cut_input, cut_inputs}
use Rattle.mesh_law_query.proofs.Lists.{Each}
use Rattle.mesh_law_query.proofs.ReadColumns.{Str, among, text_is, text_self}
use Rattle.mesh_law_query.proofs.Reading.{Row, rows_read}

-- columns of these names, with types
abbrev pub under : (Str → ColType) → List Str → List Column
under kinds all = map (λ name. record { name = name; kind = kinds name }) all

-- what a cut row has in a column
look : (kinds : Str → ColType) (all : List Str) (cs : List Column) (row : Row) (c : Str) → cell_of (under kinds all) (picked_row all cs row) c ≡ cond (among all c) (cell_of cs row c) Null
look kinds [] cs row c = refl
look kinds (n ∷ all) cs row c = go (same_text n c) refl (look kinds all cs row c)
  where
    go : (b : Bool) → same_text n c ≡ b → cell_of (under kinds all) (picked_row all cs row) c ≡ cond (among all c) (cell_of cs row c) Null
        → cond b (cell_of cs row n) (cell_of (under kinds all) (picked_row all cs row) c) ≡ cond (b || among all c) (cell_of cs row c) Null
    go true e ih = ap (cell_of cs row) (text_is n c e)
    go false e ih = ih

found_in : (kinds : Str → ColType) (all : List Str) (cs : List Column) (row : Row) (c : Str) → among all c ≡ true → cell_of (under kinds all) (picked_row all cs row) c ≡ cell_of cs row c
found_in kinds all cs row c h = look kinds all cs row c ∙ ap (λ b. cond b (cell_of cs row c) Null) h

each_among : (all xs : List Str) → ((c : Str) → among xs c ≡ true → among all c ≡ true) → Each (λ c. among all c ≡ true) xs
each_among all [] h = tt
each_among all (x ∷ xs) h = (h x (ap (λ b. b || among xs x) (text_self x)), each_among all xs (λ c k. h c (later (same_text x c) (among xs c) k)))

row_twice : (kinds : Str → ColType) (all : List Str) (cs : List Column) (row : Row) (some : List Str) → Each (λ c. among all c ≡ true) some → picked_row some (under kinds all) (picked_row all cs row) ≡ picked_row some cs row
row_twice kinds all cs row [] h = refl
row_twice kinds all cs row (c ∷ some) h = λ i. found_in kinds all cs row c h.0 i ∷ row_twice kinds all cs row some h.1 i

-- rows that are cut to some columns stay as they are when they are cut to them again
pub twice : (kinds : Str → ColType) (all : List Str) (cs : List Column) (rows : List Row) → picked_rows all (under kinds all) (picked_rows all cs rows) ≡ picked_rows all cs rows
twice kinds all cs [] = refl
twice kinds all cs (row ∷ rows) = λ i. row_twice kinds all cs row all (each_among all all (λ c h. h)) i ∷ twice kinds all cs rows i

cut_found : (d : Defn) (name : Name) (inputs : List Input) → cut (defn_reads d name) (named (cut_inputs d inputs) name) ≡ cut (defn_reads d name) (named inputs name)
cut_found d name [] = refl
cut_found d name (x ∷ xs) = go (is_eq (name_cmp x.name name)) refl (cut_found d name xs)
  where
    go : (b : Bool) → is_eq (name_cmp x.name name) ≡ b → cut (defn_reads d name) (named (cut_inputs d xs) name) ≡ cut (defn_reads d name) (named xs name)
        → cut (defn_reads d name) (cond b (Some (cut_input d x)) (named (cut_inputs d xs) name)) ≡ cut (defn_reads d name) (cond b (Some x) (named xs name))
    go true e ih =
        let same : x.name ≡ name = names_exact x.name name (equal_of (name_cmp x.name name) e) in
        ap (λ all. picked_rows (defn_reads d name) (picked_columns all x.columns) (picked_rows all x.columns x.rows)) (ap (defn_reads d) same) ∙ twice (kind_of x.columns) (defn_reads d name) x.columns x.rows
    go false e ih = ih

pub rows_cut : (d : Defn) (inputs : List Input) (u : Bounds) → defn_rows d (cut_inputs d inputs) u ≡ defn_rows d inputs u
rows_cut d inputs u = rows_read d (cut_inputs d inputs) inputs (each_one (defn_names d)) u
  where
    each_one : (all : List Name) → All (λ name. cut (defn_reads d name) (named (cut_inputs d inputs) name) ≡ cut (defn_reads d name) (named inputs name)) all
    each_one all k e l = cut_found d _ inputs
