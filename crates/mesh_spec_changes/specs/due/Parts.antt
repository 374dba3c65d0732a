-- Parts of tables. A part is what is computed at once and recorded, and what can be forgotten: a unit of an incremental
-- table, or all of another, which its marks stand for.
use Rattle.std.specs.Prelude.{ℤ, Bool, true, false, not, ◌&&◌, ◌||◌, List}
use Rattle.std.specs.List.{list_any}
use Rattle.std.specs.Ordering.{is_eq, int_cmp}
use Rattle.mesh_base_values.specs.Names.{name_cmp}
use Rattle.mesh_base_values.specs.declared.times.Bounds.{Bounds}
use Rattle.mesh_base_values.specs.declared.values.Name.{Name}
use Rattle.mesh_base.specs.declared.forgets.Forget.{Forget}
use Rattle.mesh_base.specs.declared.forgets.Forget.TheVariants.{Range, Marks}

-- a unit of an object
abbrev pub unit_of : Name → Bounds → Forget
unit_of object u = Range object u.start u.end

-- the table of a part
abbrev pub object_of : Forget → Name
object_of (Range object start end) = object
object_of (Marks object) = object

-- names are equal byte for byte
abbrev pub same_name : Name → Name → Bool
same_name a b = is_eq (name_cmp a b)

-- seconds are equal
abbrev pub same_second : ℤ → ℤ → Bool
same_second a b = is_eq (int_cmp a b)

-- parts are the same unit of one table, or one table as a whole
abbrev pub same_part : Forget → Forget → Bool
same_part (Range a start end) (Range b start' end') = same_name a b && (same_second start start' && same_second end end')
same_part (Marks a) (Marks b) = same_name a b
same_part (Range a start end) (Marks b) = false
same_part (Marks a) (Range b start end) = false

-- Some parts of any tables, by a test. They are those whose rows need not be what they would be from scratch.
abbrev pub Parts : Type 0
Parts = Forget → Bool

-- none
abbrev pub no_parts : Parts
no_parts p = false

-- all
abbrev pub all_parts : Parts
all_parts p = true

-- a part stands in a list
abbrev pub is_among : List Forget → Parts
is_among list p = list_any (same_part p) list

-- those of one or of the other
abbrev pub either : Parts → Parts → Parts
either x y p = x p || y p

-- those that do not stand in a list
abbrev pub without : List Forget → Parts → Parts
without list x p = x p && not (is_among list p)
