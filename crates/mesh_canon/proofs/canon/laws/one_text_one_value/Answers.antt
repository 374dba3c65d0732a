use Rattle.mesh_canon_text.specs.Text.{cell_text, list_text, own_text, own_text_old, type_word}
use Rattle.mesh_canon_text.specs.declared.form.Form.TheVariants.{Current, Former}
use Rattle.mesh_canon_reading.specs.Reading.{cell_in, list_in, own_in, type_in}
use Rattle.mesh_canon_reading.proofs.Definitions.{list_is_read, own_is_read}
use Rattle.mesh_canon_reading.proofs.Exact.{one_value}
use Rattle.mesh_canon_reading.proofs.Forms.{forms_agree}
use Rattle.mesh_canon_reading.proofs.Lone.{cell_is_read, type_is_read}
use Rattle.mesh_canon.proofs.canon.laws.one_text_one_value.Goals as goal

pub returns-clause-definitions : goal.returns-clause-definitions
returns-clause-definitions c = λ a b p q e. one_value own_text (own_in Current) a b (own_is_read Current a p tt) (own_is_read Current b q tt) e

pub returns-clause-former : goal.returns-clause-former
returns-clause-former c = λ a b p q n k e. one_value own_text_old (own_in Former) a b (own_is_read Former a p n) (own_is_read Former b q k) e

pub returns-clause-both : goal.returns-clause-both
returns-clause-both c = forms_agree

pub returns-clause-lists : goal.returns-clause-lists
returns-clause-lists c = λ a b p q e. one_value list_text list_in a b (list_is_read a p) (list_is_read b q) e

pub returns-clause-cells : goal.returns-clause-cells
returns-clause-cells c = λ a b p q e. one_value cell_text cell_in a b (cell_is_read a p) (cell_is_read b q) e

pub returns-clause-types : goal.returns-clause-types
returns-clause-types c = λ a b e. one_value type_word type_in a b (type_is_read a) (type_is_read b) e
