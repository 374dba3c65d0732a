-- What the public call promises where it ends: at every exit, and where it answers 0.
use Rattle.std.specs.Prelude.{◌≡◌, ℕ, List, Some}
use mathlib.Core.Logic.{inl, inr}
use Rattle.mesh_house.specs.House.{Told}
use Rattle.mesh_house.specs.World.{empty_world}
use Rattle.mesh_house.specs.declared.world.World.{World}
use Rattle.mesh_spec_changes.specs.Commands as promise
use Rattle.mesh_spec_changes.specs.due.Parts.{Parts, all_parts, no_parts}
use Rattle.mesh_io.specs.Told.{SourceTold}
use Rattle.mesh_cli_values.specs.scripts.Scripts.{is_skipped}
use Rattle.mesh_spec_promise.specs.Sound.{Sound}
use Rattle.mesh_cli_words.specs.Lines.{IsLine}
use Rattle.mesh_cli_words.specs.declared.line.Line.{Line}
use Rattle.mesh_cli_print.specs.printed.Printing.{Sinks}
use Rattle.mesh_cli.specs.cli.Scripts.{BatchEnds, IsTextLine, ScriptEnds, TextsEnd, WordsEnd, ended, lines_run, stopped, unread, went, asked, batch}
use Rattle.mesh_cli.specs.cli.Sides.{Sides, here, place_or}
use Rattle.mesh_cli.specs.promise.Histories.{Events}
use Rattle.mesh_cli.specs.promise.Kept.{CallSettles, IsAllMade, IsSettled, Passed, ScriptSettles, TellsSound}
use Rattle.mesh_cli.specs.promise.Promised.{AsksFor, LeavesIt}

-- a house tells a world that events lead to from the empty one, and these parts are in doubt there
pub record IsReached (told : Told) (w : World) (x : Parts) : Type 0 where
  pub told_is : told.world ≡ Some w
  pub events : Events empty_world no_parts w x

-- Whatever events led to the world before, a line asked for a command of the promise; where that settles, all of its
-- changes were made, and an apply or a run leaves its environment final.
abbrev pub LeavesFinal : List ℕ → Line → Sides → Sides → Type 0
LeavesFinal dir line before after = (w : World) (x : Parts) → IsReached before.house w x →
    (v : World) × (after.house.world ≡ Some v) × (k : promise.Command) × AsksFor (place_or line.paths dir) before line.command w k × ((settled : IsSettled x w k) → IsAllMade x w k settled v × LeavesIt settled.after k w v)

-- words or a text ask for a line that does so
abbrev pub AskedFinal : (Line → Type 0) → List ℕ → Sides → Sides → Type 0
AskedFinal asks dir before after = (line : Line) × asks line × LeavesFinal dir line before after

-- each line of a script does so that ended with status 0
abbrev pub TextsFinal : (dir : List ℕ) {texts : List (List ℕ)} {old new : Sides} {sinks printed : Sinks} {s : ℕ} → TextsEnd dir texts old new sinks printed s → Type 0
TextsFinal dir (ended old sinks) = Unit {0}
TextsFinal dir (went text texts old mid new sinks between printed s step more) = Passed (is_skipped text) (Unit {0}) (AskedFinal (IsTextLine text) dir old mid) × TextsFinal dir more
TextsFinal dir (stopped text texts old new sinks printed s short step) = Unit {0}

abbrev pub ScriptFinal : (dir script : List ℕ) {old new : Sides} {sinks printed : Sinks} {s : ℕ} → ScriptEnds dir script old new sinks printed s → Type 0
ScriptFinal dir script (inl texts) = TextsFinal dir texts
ScriptFinal dir script (inr said) = Unit {0}

abbrev pub BatchFinal : (dir : List ℕ) {input rest : SourceTold} {old new : Sides} {sinks printed : Sinks} {s : ℕ} → BatchEnds dir input rest old new sinks printed s → Type 0
BatchFinal dir (unread r read said) = Unit {0}
BatchFinal dir (lines_run script read ends) = ScriptFinal dir script ends

-- so does a call that answers 0, and each line of a batch that did
abbrev pub FinalAtZero : {words : List (List ℕ)} {input rest : SourceTold} {old new : Sides} {sinks printed : Sinks} {s : ℕ} → WordsEnd words input rest old new sinks printed s → Type 0
FinalAtZero {words = words} {old = old} {new = new} {s = s} (asked same ends) = s ≡ 0 → AskedFinal (IsLine words) here old new
FinalAtZero (batch line read is ends) = BatchFinal (place_or line.paths here) ends

-- Whatever the status: whatever events led to the world before, and where all that is asked for settles, more events
-- lead to the world that the house then tells, and it is sound but for what is in doubt.
abbrev pub SoundAtEveryExit : (Parts → World → Type 0) → Sides → Sides → Type 0
SoundAtEveryExit Settle before after = (w : World) (x : Parts) → IsReached before.house w x → Settle x w → (v : World) × (y : Parts) × IsReached after.house v y × Sound y v

-- whether it settles or not, a world that was formed is
abbrev pub FormedAtEveryExit : Sides → Sides → Type 0
FormedAtEveryExit before after = TellsSound all_parts before.house → TellsSound all_parts after.house

-- what a call promises
pub record CallPromise (words : List (List ℕ)) (input rest : SourceTold) (before after : Sides) (sinks printed : Sinks) (s : ℕ) : Type 0 where
  pub ends : WordsEnd words input rest before after sinks printed s
  pub sound_at_every_exit : SoundAtEveryExit (CallSettles ends) before after
  pub formed_at_every_exit : FormedAtEveryExit before after
  pub final_at_zero : FinalAtZero ends

-- what the lines of a script promise
pub record ScriptPromise (dir script : List ℕ) (before after : Sides) (sinks printed : Sinks) (s : ℕ) : Type 0 where
  pub ends : ScriptEnds dir script before after sinks printed s
  pub sound_at_every_exit : SoundAtEveryExit (ScriptSettles dir script ends) before after
  pub formed_at_every_exit : FormedAtEveryExit before after
  pub final_at_zero : ScriptFinal dir script ends
