-- Histories: any list of commands from the empty world, each made up to any of its changes. And the promise of them.
use Rattle.std.specs.Prelude.{◌≡◌, ℤ, true, false, not, ◌&&◌, if◌then◌else◌, List, ◌++◌, IsTrue}
use Rattle.std.specs.List.{list_any}
use Rattle.std.specs.declared.option.Option.{Option}
use Rattle.mesh_base.specs.declared.forgets.Forget.{Forget}
use Rattle.mesh_base.specs.declared.forgets.Forget.TheVariants.{Range, Marks}
use Rattle.mesh_base.specs.declared.forgets.Restate.{Restate}
use Rattle.mesh_base.specs.declared.jobs.Input.{Input}
use Rattle.mesh_base.specs.declared.snapshots.Node.{Node}
use Rattle.mesh_base.specs.rules.Proper.{is_proper}
use Rattle.mesh_house_book.specs.WellFormed.{is_moment}
use Rattle.mesh_house_book.specs.declared.book.Book.{Book}
use Rattle.mesh_spec_model.specs.Horizons.{Clock, Shows}
use Rattle.mesh_house.specs.declared.world.World.{World}
use Rattle.mesh_house.specs.declared.world.Change.{Change}
use Rattle.mesh_house.specs.declared.world.Change.TheVariants.{ForgetUnits, ForgetVersion, MakeTable, RecordRange, RecordMarks}
use Rattle.mesh_house.specs.Step.{load, run}
use Rattle.mesh_house.specs.World.{empty_world}
use Rattle.mesh_spec_changes.specs.due.Dues.{due}
use Rattle.mesh_spec_changes.specs.due.Parts.{Parts, either, is_among, no_parts, object_of, same_name, same_part}
use Rattle.mesh_spec_changes.specs.due.Plans.{Planned, is_planned}
use Rattle.mesh_spec_changes.specs.Changes.{Plan}
use Rattle.mesh_spec_changes.specs.Commands.{Command, Apply, RunAll, Janitor, Ingest, Invalidate, MigrateAll, Nothing, allows, changes}
use Rattle.mesh_spec_changes.specs.Planning.{IsPlan, IsRunPlan}
use Rattle.mesh_spec_promise.specs.Final.{Final}
use Rattle.mesh_spec_promise.specs.Moved.{moved}
use Rattle.mesh_spec_promise.specs.Sound.{Sound}

-- the moment that a command raises the book's to, where it does
abbrev pub raised_to : World → Command → ℤ
raised_to w (Apply plan) = plan.moment
raised_to w (RunAll plan) = plan.moment
raised_to w (Janitor t) = t
raised_to w (Ingest name columns rows keep) = w.book.moment
raised_to w (Invalidate env) = w.book.moment
raised_to w (MigrateAll renames) = w.book.moment
raised_to w Nothing = w.book.moment

-- the moment that a world's tables are judged at under a command; one that is refused raises none
abbrev pub judged_at : World → Command → ℤ
judged_at w c = if allows w c then raised_to w c else w.book.moment

-- the sources that a command leaves
abbrev pub sources_after : World → Command → List Input
sources_after w (Ingest name columns rows keep) = (load w name columns rows keep).sources
sources_after w other = w.sources

-- the parts in doubt before a command's changes: those from before, and those that move by the command
abbrev pub met : Clock → Clock → Command → World → Parts → Parts
met before after c w x = either x (moved w before after (sources_after w c))

-- the parts that a change takes out of doubt: those that it forgets or records anew, and all of a table that is made
-- anew or of which nothing is recorded any more
abbrev pub taken_by : Change → Parts
taken_by (RecordRange object start end) q = same_part (Range object start end) q
taken_by (RecordMarks object marks) q = same_part (Marks object) q
taken_by (ForgetUnits list) q = is_among list q
taken_by (MakeTable object columns) q = same_name object (object_of q)
taken_by (ForgetVersion object) q = same_name object (object_of q)
taken_by other q = false

-- the parts that are still in doubt after some changes
abbrev pub left : List Change → Parts → Parts
left made x q = x q && not (list_any (λ c. taken_by c q) made)

-- each part in doubt whose object is one of the plan's is due in the plan
abbrev pub IsCovered : Clock → Book → Plan → Parts → Type 0
IsCovered clock b plan x =
    (q : Forget) → x q ≡ true → IsTrue (is_planned plan.models (object_of q)) → IsTrue (list_any (λ (p : Planned). is_among (due clock b plan.forgets p) q) plan.models)

-- what was computed for a model of the command's plan would be computed to the same rows, or is due in that plan
abbrev pub Settles : Clock → Command → World → Parts → Type 0
Settles clock (Apply plan) w x = IsCovered clock w.book plan x
Settles clock (RunAll plan) w x = IsCovered clock w.book plan x
Settles clock other w x = Unit {0}

-- an apply is asked for with the plan of a proper project
pub record IsApplied (clock : Clock) (w : World) (plan : Plan) : Type 0 where
  pub nodes : List Node
  pub restate : Option Restate
  pub proper : IsTrue (is_proper nodes)
  pub moment : IsTrue (is_moment plan.moment)
  pub planned : IsPlan clock w.book nodes restate plan

-- a command is one that words, project and book can ask for
abbrev pub IsAsked : Clock → World → Command → Type 0
IsAsked clock w (Apply plan) = IsApplied clock w plan
IsAsked clock w (RunAll plan) = IsTrue (is_moment plan.moment) × IsRunPlan clock w.book plan
IsAsked clock w (Janitor t) = IsTrue (is_moment t)
IsAsked clock w other = Unit {0}

-- a command is asked for in a world whose moment the first clock shows; the second shows the moment that it is judged
-- at
pub record IsMet (before after : Clock) (w : World) (c : Command) : Type 0 where
  pub was : Shows before w.book.moment
  pub is : Shows after (judged_at w c)
  pub asked : IsAsked after w c

-- At every exit of a command a world stays well kept, but for the parts in doubt that are left. The changes made are
-- any in front.
abbrev pub StaysSound : Type 0
StaysSound =
    (x : Parts) (w : World) (c : Command) (before after : Clock) → IsMet before after w c → Sound x w → Settles after c w (met before after c w x) →
    (made rest : List Change) → changes after c w ≡ made ++ rest → Sound (left made (met before after c w x)) (run w made)

-- the parts of the objects that a command plans
abbrev pub planned_parts : Command → Parts
planned_parts (Apply plan) q = is_planned plan.models (object_of q)
planned_parts (RunAll plan) q = is_planned plan.models (object_of q)
planned_parts other q = false

-- Whether it settles or not, it stays so but for these, those that move, and all parts of the objects that it plans.
abbrev pub StaysFormed : Type 0
StaysFormed =
    (x : Parts) (w : World) (c : Command) (before after : Clock) → IsMet before after w c → Sound x w →
    (made rest : List Change) → changes after c w ≡ made ++ rest → Sound (either (met before after c w x) (planned_parts c)) (run w made)

-- an apply that is made whole leaves its environment final
abbrev pub LeavesFinal : Type 0
LeavesFinal =
    (x : Parts) (w : World) (plan : Plan) (before after : Clock) → IsMet before after w (Apply plan) → IsTrue (allows w (Apply plan)) → Sound x w → Settles after (Apply plan) w (met before after (Apply plan) w x) →
    Final (run w (changes after (Apply plan) w)) after plan.env plan.models

-- and so does a run
abbrev pub RunLeavesFinal : Type 0
RunLeavesFinal =
    (x : Parts) (w : World) (plan : Plan) (before after : Clock) → IsMet before after w (RunAll plan) → IsTrue (allows w (RunAll plan)) → Sound x w → Settles after (RunAll plan) w (met before after (RunAll plan) w x) →
    Final (run w (changes after (RunAll plan) w)) after plan.env plan.models

-- The worlds that any list of commands reaches from the empty one, each command made up to any of its changes, with the
-- parts in doubt. Each of them settles.
pub data History : World → Parts → Type 0 where
  begun : History empty_world no_parts
  event : (w : World) (x : Parts) → History w x → (c : Command) (before after : Clock) → IsMet before after w c → Settles after c w (met before after c w x) →
      (made rest : List Change) → changes after c w ≡ made ++ rest → History (run w made) (left made (met before after c w x))

-- after such a history an apply that is made whole leaves its environment final, where it settles too
abbrev pub ShowsRowsFromScratch : Type 0
ShowsRowsFromScratch =
    (w : World) (x : Parts) → History w x → (plan : Plan) (before after : Clock) → IsMet before after w (Apply plan) → IsTrue (allows w (Apply plan)) → Settles after (Apply plan) w (met before after (Apply plan) w x) →
    Final (run w (changes after (Apply plan) w)) after plan.env plan.models

-- and so does a run
abbrev pub RunsShowRowsFromScratch : Type 0
RunsShowRowsFromScratch =
    (w : World) (x : Parts) → History w x → (plan : Plan) (before after : Clock) → IsMet before after w (RunAll plan) → IsTrue (allows w (RunAll plan)) → Settles after (RunAll plan) w (met before after (RunAll plan) w x) →
    Final (run w (changes after (RunAll plan) w)) after plan.env plan.models
