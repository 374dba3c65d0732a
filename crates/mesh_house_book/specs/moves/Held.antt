-- The versions of a book, with seconds of one of them that are still to be forgotten.
use Rattle.std.specs.Prelude.{List, [], ◌∷◌, Some, None, if◌then◌else◌}
use Rattle.std.specs.declared.option.Option.{Option}
use Rattle.std.specs.Int.Signed.{lt_z}
use Rattle.mesh_list.specs.Keyed.{found, exchanged}
use Rattle.mesh_base_values.specs.declared.times.Bounds.{Bounds}
use Rattle.mesh_base_values.specs.declared.values.Name.{Name}
use Rattle.mesh_base_values.specs.Names.{name_cmp}
use Rattle.mesh_time.specs.Edits.{spans_without_each}
use Rattle.mesh_base.specs.declared.forgets.Forget.{Forget}
use Rattle.mesh_base.specs.declared.forgets.Forget.TheVariants.{Range, Marks}
use Rattle.mesh_house_book.specs.declared.versions.Version.{Version}
use Rattle.mesh_house_book.specs.Changes.{version_object}
use Rattle.mesh_house_book.specs.declared.moves.forgets.Held.{Held}
use Rattle.mesh_house_book.specs.moves.Forgets.{without_range, without_marks}

-- a version changes, where there is one
abbrev pub changed_for : Option Version → (Version → Version) → List Version → List Version
changed_for None f versions = versions
changed_for (Some v) f versions = exchanged name_cmp version_object (f v) versions

-- the version of an object changes
abbrev pub changed : Name → (Version → Version) → List Version → List Version
changed object f versions = changed_for (found name_cmp version_object object versions) f versions

-- the version's ranges lose the seconds of all these spans
abbrev pub without_spans : List Bounds → Version → Version
without_spans spans v = record v { ranges = spans_without_each spans v.ranges }

-- the versions once what is held is forgotten
abbrev pub settled : Option Held → List Version → List Version
settled None versions = versions
settled (Some h) versions = changed h.object (without_spans h.spans) versions

-- one item is forgotten of the versions
abbrev pub forgotten : List Version → Forget → List Version
forgotten versions (Range object start end) = if lt_z start end then changed object (without_range start end) versions else versions
forgotten versions (Marks object) = changed object without_marks versions

-- the items are forgotten of the versions one after another
abbrev pub all_forgotten : List Version → List Forget → List Version
all_forgotten versions [] = versions
all_forgotten versions (f ∷ fs) = all_forgotten (forgotten versions f) fs
