-- The changes that fill a due part of a model, its rows before what is recorded of them.
use Rattle.std.specs.Prelude.{List, [], ◌∷◌}
use Rattle.mesh_base_values.specs.declared.kinds.Kind.{Kind}
use Rattle.mesh_base_values.specs.declared.kinds.Kind.TheVariants.{View, Incremental}
use Rattle.mesh_base_values.specs.declared.values.Cell.{Cell}
use Rattle.mesh_base.specs.declared.plans.Due.{Due}
use Rattle.mesh_base.specs.declared.plans.Due.TheVariants.{Whole, Unit}
use Rattle.mesh_house.specs.declared.world.Change.{Change}
use Rattle.mesh_house.specs.declared.world.Change.TheVariants.{ReplaceRows, WriteRange, RecordRange, RecordMarks}
use Rattle.mesh_spec_changes.specs.due.Plans.{Planned}

-- what fills a due part of a model with these rows
abbrev pub written : Planned → Kind → Due → List (List Cell) → List Change
written p (Incremental time lookback) (Unit place start end) rows = WriteRange p.object time start end rows ∷ RecordRange p.object start end ∷ []
written p (Incremental time lookback) (Whole place marks) rows = []
written p View (Whole place marks) rows = RecordMarks p.object marks ∷ []
written p kind (Whole place marks) rows = ReplaceRows p.object rows ∷ RecordMarks p.object marks ∷ []
written p kind (Unit place start end) rows = []
