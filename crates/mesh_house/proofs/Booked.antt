-- Changes of the book alone, which leave the rest of a world as it is.
use Rattle.std.proofs.Common.{◌≡◌, ◌≢◌, ℕ, ℤ, Bool, List, refl}
use Rattle.mesh_base_values.specs.declared.values.Cell.{Cell}
use Rattle.mesh_base_values.specs.declared.values.Column.{Column}
use Rattle.mesh_base_values.specs.declared.values.Name.{Name}
use Rattle.mesh_base_values.specs.declared.values.Pair.{Pair}
use Rattle.mesh_base.specs.declared.definitions.Own.{Own}
use Rattle.mesh_house.specs.declared.world.World.{World}
use Rattle.mesh_house.specs.declared.world.Change.{Change}
use Rattle.mesh_house.specs.declared.world.Change.TheVariants.{Moment, Load, PutSnapshot, MakeTable, MakeView, ReplaceRows, WriteRange, RecordRange, RecordMarks, SetPending, PointView, DropView, Finalize, Expire, ForgetVersion, DropObject, DeleteSnapshot, DeleteEnv, ForgetUnits, Migrate}
use Rattle.mesh_house.specs.Step.{with_book, step}
use Rattle.mesh_house.specs.Booked.{booked}

-- what is no change of tables or views is a change of the book
pub step_booked : (w : World) (c : Change)
    → ((name : Name) (columns : List Column) (rows : List (List Cell)) (keep : Bool) → c ≢ Load name columns rows keep)
    → ((object : Name) (columns : List Column) → c ≢ MakeTable object columns)
    → ((object : Name) (columns : List Column) (own : Own) (targets : List Pair) → c ≢ MakeView object columns own targets)
    → ((object : Name) (rows : List (List Cell)) → c ≢ ReplaceRows object rows)
    → ((object : Name) (time : List ℕ) (start end : ℤ) (rows : List (List Cell)) → c ≢ WriteRange object time start end rows)
    → ((view target : Name) → c ≢ PointView view target)
    → ((view : Name) → c ≢ DropView view)
    → ((object : Name) → c ≢ DropObject object)
    → step w c ≡ with_book w (booked w.book c)
step_booked w (Moment t) _ _ _ _ _ _ _ _ = refl
step_booked w (Load name columns rows keep) load _ _ _ _ _ _ _ = absurd (load name columns rows keep refl)
step_booked w (PutSnapshot snapshot) _ _ _ _ _ _ _ _ = refl
step_booked w (MakeTable object columns) _ make_table _ _ _ _ _ _ = absurd (make_table object columns refl)
step_booked w (MakeView object columns own targets) _ _ make_view _ _ _ _ _ = absurd (make_view object columns own targets refl)
step_booked w (ReplaceRows object rows) _ _ _ replace _ _ _ _ = absurd (replace object rows refl)
step_booked w (WriteRange object time start end rows) _ _ _ _ write _ _ _ = absurd (write object time start end rows refl)
step_booked w (RecordRange object start end) _ _ _ _ _ _ _ _ = refl
step_booked w (RecordMarks object marks) _ _ _ _ _ _ _ _ = refl
step_booked w (SetPending env list expires) _ _ _ _ _ _ _ _ = refl
step_booked w (PointView view target) _ _ _ _ _ point _ _ = absurd (point view target refl)
step_booked w (DropView view) _ _ _ _ _ _ drop_view _ = absurd (drop_view view refl)
step_booked w (Finalize env) _ _ _ _ _ _ _ _ = refl
step_booked w (Expire env) _ _ _ _ _ _ _ _ = refl
step_booked w (ForgetVersion object) _ _ _ _ _ _ _ _ = refl
step_booked w (DropObject object) _ _ _ _ _ _ _ drop_object = absurd (drop_object object refl)
step_booked w (DeleteSnapshot name fingerprint) _ _ _ _ _ _ _ _ = refl
step_booked w (DeleteEnv env) _ _ _ _ _ _ _ _ = refl
step_booked w (ForgetUnits list) _ _ _ _ _ _ _ _ = refl
step_booked w (Migrate renames) _ _ _ _ _ _ _ _ = refl
