-- A cell that lies elsewhere, or one that was made.
use Rattle.std.specs.Prelude.{Some, None}
use Rattle.std.specs.Borrow.{Bor}
use Rattle.std.specs.declared.option.Option.{Option}
use Rattle.mesh_base_values.specs.declared.values.Cell.{Cell}

-- the cell that lies elsewhere, or where there is none the one that was made
abbrev pub held : Option (Bor Cell) → Cell → Cell
held (Some cell) made = cell.now
held None made = made
