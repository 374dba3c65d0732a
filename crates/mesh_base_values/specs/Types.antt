-- Equal types of columns.
use Rattle.std.specs.Prelude.{Bool, true, false, ◌&&◌, List, [], ◌∷◌}
use Rattle.mesh_base_values.specs.declared.values.ColType.{ColType}
use Rattle.mesh_base_values.specs.declared.values.ColType.TheVariants.{Int, Text, Date, Bool as Truth}
use Rattle.mesh_base_values.specs.declared.values.Column.{Column}

-- two types are one
abbrev pub same_type : ColType → ColType → Bool
same_type Int Int = true
same_type Text Text = true
same_type Date Date = true
same_type Truth Truth = true
same_type _ _ = false

-- as many columns, of the same types in the same order, whatever their names
abbrev pub have_same_types : List Column → List Column → Bool
have_same_types [] [] = true
have_same_types (x ∷ xs) (y ∷ ys) = same_type x.kind y.kind && have_same_types xs ys
have_same_types _ _ = false
