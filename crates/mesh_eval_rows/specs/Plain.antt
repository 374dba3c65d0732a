-- A cell that owns no memory, since its text lies elsewhere.
use Rattle.mesh_base_values.specs.declared.values.Cell.{Cell}
use Rattle.mesh_base_values.specs.declared.values.Cell.TheVariants as cell
use Rattle.mesh_eval_rows.specs.declared.plain.Plain.{Plain}
use Rattle.mesh_eval_rows.specs.declared.plain.Plain.TheVariants.{Null, Int, Text, Date, Bool}

-- the cell
abbrev pub cell_of : Plain → Cell
cell_of Null = cell.Null
cell_of (Int n) = cell.Int n
cell_of (Text t) = cell.Text t.now
cell_of (Date d) = cell.Date d
cell_of (Bool b) = cell.Bool b
