-- Cells and types of columns on their own.
use Rattle.std.proofs.Common.{◌≡◌, ℕ, true, List, [], ◌∷◌, ◌++◌, Some, refl, sym, ap, ◌∙◌}
use Rattle.std.specs.Prelude.{codes}
use Rattle.std.proofs.lemmas.List.{append-nil}
use Rattle.mesh_base_values.specs.declared.values.Cell.{Cell}
use Rattle.mesh_base_values.specs.declared.values.ColType.{ColType}
use Rattle.mesh_base_values.specs.declared.values.ColType.TheVariants as types
use Rattle.mesh_canon_text.specs.Text.{cell_text, type_word}
use Rattle.mesh_canon_reading.specs.Fits.{cell_fits}
use Rattle.mesh_canon_words.specs.Words.{type_at}
use Rattle.mesh_canon_reading.specs.Reading.{cell_at, cell_in, type_in, whole}
use Rattle.mesh_canon_reading.proofs.Steps.{whole_is, word_says}
use Rattle.mesh_canon_reading.proofs.Values.{cell_again, type_again}

-- the text of a cell is read as that cell
pub cell_is_read : (c : Cell) → cell_fits c ≡ true → cell_in (cell_text c) ≡ Some c
unfolding cell_in
cell_is_read c fits = ap (λ t. whole (cell_at t)) (sym (append-nil (cell_text c))) ∙ rw (cell_again c [] fits) refl

-- the text of a type is read as that type
pub type_is_read : (kind : ColType) → type_in (type_word kind) ≡ Some kind
unfolding type_in
type_is_read kind = ap (λ t. whole (type_at t)) (sym (append-nil (type_word kind))) ∙ rw (type_again kind []) refl

type_says : (bytes : List ℕ) (y : ColType × List ℕ) → type_at bytes ≡ Some y → bytes ≡ type_word y.0 ++ y.1
unfolding type_at
type_says bytes y e =
    word_says type_word ((codes "int", types.Int) ∷ (codes "text", types.Text) ∷ (codes "date", types.Date) ∷ (codes "bool", types.Bool) ∷ []) bytes (refl, (refl, (refl, (refl, tt)))) y e

-- what is read as a type is its text
pub type_has_text : (bytes : List ℕ) (kind : ColType) → type_in bytes ≡ Some kind → bytes ≡ type_word kind
unfolding type_in
type_has_text bytes kind e = type_says bytes (kind, []) (whole_is (type_at bytes) kind e) ∙ append-nil (type_word kind)
