-- The recorded parts whose rows from scratch change where other sources or a later moment come.
use Rattle.std.specs.Prelude.{Bool, false, not, ◌&&◌, nat_eq, List, ◌++◌}
use Rattle.std.specs.List.{list_all, list_any}
use Rattle.mesh_base_values.specs.Bag.{times}
use Rattle.mesh_base_values.specs.declared.times.Bounds.{Bounds}
use Rattle.mesh_base_values.specs.declared.values.Cell.{Cell}
use Rattle.mesh_base.specs.declared.jobs.Input.{Input}
use Rattle.mesh_base_values.specs.declared.kinds.Kind.{Kind}
use Rattle.mesh_base_values.specs.declared.kinds.Kind.TheVariants.{Full, Incremental}
use Rattle.mesh_base.specs.declared.snapshots.Snapshot.{Snapshot}
use Rattle.mesh_spec_model.specs.Horizons.{Clock, schedule}
use Rattle.mesh_spec_model.specs.Scratch.{from_scratch, piece}
use Rattle.mesh_house.specs.declared.world.World.{World}
use Rattle.mesh_house.specs.World.{version_of}
use Rattle.mesh_spec_changes.specs.listed.Closing.{closing}
use Rattle.mesh_spec_changes.specs.due.Marks.{marks, same_marks}
use Rattle.mesh_spec_changes.specs.due.Parts.{Parts, same_name, same_second}
use Rattle.mesh_base.specs.declared.forgets.Forget.TheVariants.{Range, Marks}
use Rattle.mesh_spec_changes.specs.due.Plans.{holds, marks_of, are_marks}

-- the same rows, each as often, as a test
abbrev pub same_bag : List (List Cell) → List (List Cell) → Bool
same_bag xs ys = list_all (λ row. nat_eq (times row xs) (times row ys)) (xs ++ ys)

-- a unit is one of these
abbrev pub is_unit_of : List Bounds → Bounds → Bool
is_unit_of units u = list_any (λ (v : Bounds). same_second v.start u.start && same_second v.end u.end) units

module _ (w : World) (before after : Clock) (sources : List Input) where
  -- a recorded unit of an incremental model gets other rows
  abbrev pub unit_moves : Snapshot → Bounds → Kind → Bool
  unit_moves s u (Incremental time lookback) =
      let c = closing w.book.snapshots s in
      is_unit_of (schedule before c) u && (holds w.book s.object u && not (same_bag (piece w.sources before c u) (piece sources after c u)))
  unit_moves s u other = false

  -- a table whose marks are those of its model, before and after, gets other rows
  abbrev pub whole_moves : Snapshot → Kind → Bool
  whole_moves s Full =
      let c = closing w.book.snapshots s in
      are_marks (marks_of (version_of w.book s.object)) (marks before c) && (same_marks (marks before c) (marks after c) && not (same_bag (from_scratch w.sources before c) (from_scratch sources after c)))
  whole_moves s other = false

  -- the parts that move from the world's sources and the clock before to these sources and the clock after
  abbrev pub moved : Parts
  moved (Range object start end) = list_any (λ (s : Snapshot). same_name s.object object && unit_moves s (record { start = start; end = end }) s.own.kind) w.book.snapshots
  moved (Marks object) = list_any (λ (s : Snapshot). same_name s.object object && whole_moves s s.own.kind) w.book.snapshots
