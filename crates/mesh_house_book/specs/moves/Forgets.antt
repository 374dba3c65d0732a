-- What a book is where units and marks are forgotten.
use Rattle.std.specs.Prelude.{List, [], ◌∷◌, None, ℤ, if◌then◌else◌}
use Rattle.std.specs.Int.Signed.{lt_z}
use Rattle.mesh_list.specs.Keyed.{found}
use Rattle.mesh_base_values.specs.Names.{name_cmp}
use Rattle.mesh_time.specs.Edits.{spans_without}
use Rattle.mesh_base.specs.declared.forgets.Forget.{Forget}
use Rattle.mesh_base.specs.declared.forgets.Forget.TheVariants.{Range, Marks}
use Rattle.mesh_house_book.specs.declared.book.Book.{Book}
use Rattle.mesh_house_book.specs.declared.versions.Version.{Version}
use Rattle.mesh_house_book.specs.Changes.{at_version, version_object}

-- the version's ranges lose the seconds from a start to an end
abbrev pub without_range : ℤ → ℤ → Version → Version
without_range start end v = record v { ranges = spans_without start end v.ranges }

-- the version has no marks
abbrev pub without_marks : Version → Version
without_marks v = record v { marks = None }

-- one item is forgotten; a range whose start isn't below its end takes nothing
abbrev pub forget : Book → Forget → Book
forget b (Range object start end) =
    if lt_z start end then at_version (found name_cmp version_object object b.versions) (without_range start end) b else b
forget b (Marks object) = at_version (found name_cmp version_object object b.versions) without_marks b

-- the items are forgotten one after another
abbrev pub forget_units : Book → List Forget → Book
forget_units b [] = b
forget_units b (f ∷ fs) = forget_units (forget b f) fs
