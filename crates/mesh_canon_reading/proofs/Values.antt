-- Cells, columns and names that were written are read again.
use Rattle.std.proofs.Common.{◌≡◌, ℕ, ◌-◌, ◌^◌, ◌<◌, true, false, List, [], ◌∷◌, ◌++◌, length, Some, None, refl, append_assoc, arith}
use Rattle.std.specs.Prelude.{codes}
use Rattle.std.specs.Fmt.{signed_decimal}
use Rattle.std.proofs.lemmas.Bool.{and_parts}
use Rattle.mesh_base_values.specs.declared.values.Cell.{Cell}
use Rattle.mesh_base_values.specs.declared.values.Cell.TheVariants as cells
use Rattle.mesh_base_values.specs.declared.values.ColType.{ColType}
use Rattle.mesh_base_values.specs.declared.values.ColType.TheVariants as types
use Rattle.mesh_base_values.specs.declared.values.Column.{Column}
use Rattle.mesh_base_values.specs.declared.values.Name.{Name}
use Rattle.mesh_canon_text.specs.Text.{cell_text, column_text, row_text, text_of, type_word}
use Rattle.mesh_canon_reading.specs.Fits.{cell_fits, column_fits, name_fits, row_fits, text_fits}
use Rattle.mesh_canon_words.specs.Words.{after, bare_head_at, cell_head_at, text_at, then_at, type_at, valued_head_at}
use Rattle.mesh_canon_reading.specs.Reading.{cell_at, cell_parts_at, column_at, name_at, row_at}
use Rattle.mesh_canon_reading.proofs.Numbers.{signed_again, text_again, text_opens}
use Rattle.mesh_canon_reading.proofs.Lists.{Member, each_of, list_again, list_opens}

pub type_again : (kind : ColType) (rest : List ℕ) → type_at (type_word kind ++ rest) ≡ Some (kind, rest)
unfolding type_at after
type_again types.Int rest = refl
type_again types.Text rest = refl
type_again types.Date rest = refl
type_again types.Bool rest = refl

pub cell_again : (c : Cell) (rest : List ℕ) → cell_fits c ≡ true → cell_at (cell_text c ++ rest) ≡ Some (c, rest)
unfolding cell_at cell_head_at valued_head_at bare_head_at cell_parts_at cell_text after
cell_again cells.Null rest fits = refl
cell_again (cells.Int n) rest fits =
    rw (append_assoc (signed_decimal n) (41 ∷ []) rest, signed_again (2 ^ 63 - 1) n (41 ∷ rest) (omega arith) fits refl) refl
cell_again (cells.Text t) rest fits = rw (append_assoc (text_of t) (41 ∷ []) rest, text_again t (41 ∷ rest) fits) refl
cell_again (cells.Date n) rest fits =
    rw (append_assoc (signed_decimal n) (41 ∷ []) rest, signed_again (2 ^ 31 - 1) n (41 ∷ rest) (omega arith) fits refl) refl
cell_again (cells.Bool true) rest fits = refl
cell_again (cells.Bool false) rest fits = refl

pub cell_opens : (c : Cell) (rest : List ℕ) → after (codes "]") (cell_text c ++ rest) ≡ None
unfolding cell_text after
cell_opens cells.Null rest = refl
cell_opens (cells.Int n) rest = refl
cell_opens (cells.Text t) rest = refl
cell_opens (cells.Date n) rest = refl
cell_opens (cells.Bool true) rest = refl
cell_opens (cells.Bool false) rest = refl

cell_member : (c : Cell) → cell_fits c ≡ true → Member cell_at cell_text c
cell_member c fits = record { opens = cell_opens c; again = λ rest. cell_again c rest fits }

pub row_member : (cs : List Cell) → row_fits cs ≡ true → Member row_at row_text cs
unfolding row_at row_text
row_member cs fits =
    record { opens = list_opens cell_text cs; again = list_again cell_at cell_text cs (each_of cell_at cell_text cell_fits cell_member cs fits) }

column_again : (c : Column) (rest : List ℕ) → column_fits c ≡ true → column_at (column_text c ++ rest) ≡ Some (c, rest)
unfolding column_at column_text then_at after
column_again c rest fits =
    let e : (text_of c.name ++ (32 ∷ (type_word c.kind ++ (41 ∷ [])))) ++ rest ≡ text_of c.name ++ (32 ∷ (type_word c.kind ++ (41 ∷ rest))) = simp append_assoc in
    rw (e, text_again c.name (32 ∷ (type_word c.kind ++ (41 ∷ rest))) fits, type_again c.kind (41 ∷ rest)) refl

pub column_member : (c : Column) → column_fits c ≡ true → Member column_at column_text c
unfolding column_text after
column_member c fits = record { opens = λ rest. refl; again = λ rest. column_again c rest fits }

pub name_again : (n : Name) (rest : List ℕ) → name_fits n ≡ true → name_at (text_of n.schema ++ (32 ∷ (text_of n.model ++ rest))) ≡ Some (n, rest)
unfolding name_at then_at after
name_again n rest fits =
    let p = and_parts (text_fits n.schema) (text_fits n.model) fits in
    rw (text_again n.schema (32 ∷ (text_of n.model ++ rest)) p.0, text_again n.model rest p.1) refl

pub text_member : (t : List ℕ) → text_fits t ≡ true → Member text_at text_of t
text_member t fits = record { opens = λ rest. text_opens t rest fits; again = λ rest. text_again t rest fits }

pub cell_long : (c : Cell) → 0 < length (cell_text c)
unfolding cell_text
cell_long cells.Null = omega arith
cell_long (cells.Int n) = omega arith
cell_long (cells.Text t) = omega arith
cell_long (cells.Date n) = omega arith
cell_long (cells.Bool true) = omega arith
cell_long (cells.Bool false) = omega arith

pub cell_some : (c : Cell) (rest : List ℕ) → after (codes "none") (cell_text c ++ rest) ≡ None
unfolding cell_text after
cell_some cells.Null rest = refl
cell_some (cells.Int n) rest = refl
cell_some (cells.Text t) rest = refl
cell_some (cells.Date n) rest = refl
cell_some (cells.Bool true) rest = refl
cell_some (cells.Bool false) rest = refl
