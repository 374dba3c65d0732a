-- When what a command line asks for settles, and when no recorded rows would come out otherwise through it; what is
-- kept then.
use Rattle.std.specs.Prelude.{◌≡◌, ℕ, Bool, true, false, List, ◌++◌, Some}
use mathlib.Core.Logic.{inl, inr}
use Rattle.mesh_base.specs.declared.forgets.Forget.{Forget}
use Rattle.mesh_spec_model.specs.Horizons.{Clock, Shows}
use Rattle.mesh_house.specs.House.{Told}
use Rattle.mesh_house.specs.Step.{run}
use Rattle.mesh_house.specs.declared.world.Change.{Change}
use Rattle.mesh_house.specs.declared.world.World.{World}
use Rattle.mesh_spec_changes.specs.Commands as promise
use Rattle.mesh_spec_changes.specs.due.Parts.{Parts, either}
use Rattle.mesh_io.specs.Told.{SourceTold}
use Rattle.mesh_layer.specs.Shows.{Tells}
use Rattle.mesh_cli_values.specs.scripts.Scripts.{is_skipped}
use Rattle.mesh_spec_promise.specs.Histories.{Settles, judged_at, left, met, planned_parts, sources_after}
use Rattle.mesh_spec_promise.specs.Moved.{moved}
use Rattle.mesh_spec_promise.specs.Sound.{Sound}
use Rattle.mesh_cli_words.specs.Lines.{IsLine}
use Rattle.mesh_cli_words.specs.declared.line.Command.{Command}
use Rattle.mesh_cli_words.specs.declared.line.Line.{Line}
use Rattle.mesh_cli_print.specs.printed.Printing.{Sinks}
use Rattle.mesh_cli.specs.cli.Scripts.{BatchEnds, IsTextLine, ScriptEnds, TextsEnd, WordsEnd, ended, lines_run, stopped, unread, went, asked, batch}
use Rattle.mesh_cli.specs.cli.Sides.{Sides, here, place_or}
use Rattle.mesh_cli.specs.promise.Promised.{AsksFor}

-- A command of the promise settles in a world that is sound but for some parts. One clock shows the moment before the
-- command, the other one that which it is judged at.
pub record IsSettled (x : Parts) (w : World) (k : promise.Command) : Type 0 where
  pub before : Clock
  pub after : Clock
  pub was : Shows before w.book.moment
  pub is : Shows after (judged_at w k)
  pub settles : Settles after k w (met before after k w x)

-- whatever a command line asks for in a world settles there
abbrev pub LineSettles : List ℕ → Sides → Command → Parts → World → Type 0
LineSettles dir s c x w = (k : promise.Command) → AsksFor dir s c w k → IsSettled x w k

-- What a command leaves of a world, and what is in doubt then: all is as it was, or some first changes of what it
-- asks for were made, and what is in doubt is what they leave of it.
pub data Leaves (dir : List ℕ) (s : Sides) (c : Command) (x : Parts) (w : World) (settled : LineSettles dir s c x w) : Parts → World → Type 0 where
  untouched : Leaves dir s c x w settled x w
  changed : (k : promise.Command) (asks : AsksFor dir s c w k) (made rest : List Change) → promise.changes (settled k asks).after k w ≡ made ++ rest →
      Leaves dir s c x w settled (left made (met (settled k asks).before (settled k asks).after k w x)) (run w made)

-- a house tells a world that is sound but for these parts, and that the command leaves so
pub record TellsLeft (dir : List ℕ) (s : Sides) (c : Command) (x : Parts) (w : World) (settled : LineSettles dir s c x w) (told : Told) : Type 0 where
  pub doubts : Parts
  pub world : World
  pub told_is : told.world ≡ Some world
  pub sound : Sound doubts world
  pub left_so : Leaves dir s c x w settled doubts world

-- all changes of a command that settles were made, and the world is sound but for what they leave in doubt
pub record IsAllMade (x : Parts) (w : World) (k : promise.Command) (settled : IsSettled x w k) (v : World) : Type 0 where
  pub made : v ≡ run w (promise.changes settled.after k w)
  pub sound : Sound (left (promise.changes settled.after k w) (met settled.before settled.after k w x)) v

-- What a command leaves of a world, whether it settles or not, and what is in doubt then: all is as it was; or some
-- first changes of what it asks for were made, and in doubt is what was, what moves by them, and all parts of the
-- objects that it plans.
pub data Widens (dir : List ℕ) (s : Sides) (c : Command) (x : Parts) (w : World) : Parts → World → Type 0 where
  unchanged : Widens dir s c x w x w
  widened : (k : promise.Command) → AsksFor dir s c w k → (before after : Clock) → Shows before w.book.moment → Shows after (judged_at w k) → (made rest : List Change) → promise.changes after k w ≡ made ++ rest →
      Widens dir s c x w (either (met before after k w x) (planned_parts k)) (run w made)

-- a house tells a world that is sound but for these parts, and that the command leaves so, whether it settles or not
pub record TellsFormed (dir : List ℕ) (s : Sides) (c : Command) (x : Parts) (w : World) (told : Told) : Type 0 where
  pub doubts : Parts
  pub world : World
  pub told_is : told.world ≡ Some world
  pub sound : Sound doubts world
  pub left_so : Widens dir s c x w doubts world

-- whatever line some words or a text ask for settles
abbrev pub AllSettle : (Line → Type 0) → List ℕ → Sides → Parts → World → Type 0
AllSettle asks dir s x w = (line : Line) → asks line → LineSettles (place_or line.paths dir) s line.command x w

-- what is left where a text asks for a line that ends with status 0: what all of its changes leave
pub data AskedLeaves (asks : Line → Type 0) (dir : List ℕ) (s : Sides) (x : Parts) (w : World) (settled : AllSettle asks dir s x w) : Parts → World → Type 0 where
  of_line : (line : Line) (as_asked : asks line) (k : promise.Command) (it_asks : AsksFor (place_or line.paths dir) s line.command w k) →
      AskedLeaves asks dir s x w settled (left (promise.changes (settled line as_asked k it_asks).after k w) (met (settled line as_asked k it_asks).before (settled line as_asked k it_asks).after k w x))
      (run w (promise.changes (settled line as_asked k it_asks).after k w))

-- of a text that is passed over, and of one that asks for a line
abbrev pub Passed : Bool → Type 0 → Type 0 → Type 0
Passed true over asking = over
Passed false over asking = asking

-- the lines of a script settle, each in what those before it leave
abbrev pub TextsSettle : (dir : List ℕ) {texts : List (List ℕ)} {old new : Sides} {sinks printed : Sinks} {s : ℕ} → TextsEnd dir texts old new sinks printed s → Parts → World → Type 0
TextsSettle dir (ended old sinks) x w = Unit {0}
TextsSettle dir (went text texts old mid new sinks between printed s step more) x w =
    Passed (is_skipped text) (TextsSettle dir more x w)
    ((settled : AllSettle (IsTextLine text) dir old x w) × ((y : Parts) (v : World) → mid.house.world ≡ Some v → AskedLeaves (IsTextLine text) dir old x w settled y v → TextsSettle dir more y v))
TextsSettle dir (stopped text texts old new sinks printed s short step) x w = AllSettle (IsTextLine text) dir old x w

abbrev pub ScriptSettles : (dir script : List ℕ) {old new : Sides} {sinks printed : Sinks} {s : ℕ} → ScriptEnds dir script old new sinks printed s → Parts → World → Type 0
ScriptSettles dir script (inl texts) x w = TextsSettle dir texts x w
ScriptSettles dir script (inr said) x w = Unit {0}

abbrev pub BatchSettles : (dir : List ℕ) {input rest : SourceTold} {old new : Sides} {sinks printed : Sinks} {s : ℕ} → BatchEnds dir input rest old new sinks printed s → Parts → World → Type 0
BatchSettles dir (unread r read said) x w = Unit {0}
BatchSettles dir (lines_run script read ends) x w = ScriptSettles dir script ends x w

-- all that a call's words ask for settles
abbrev pub CallSettles : {words : List (List ℕ)} {input rest : SourceTold} {old new : Sides} {sinks printed : Sinks} {s : ℕ} → WordsEnd words input rest old new sinks printed s → Parts → World → Type 0
CallSettles {words = words} {old = old} (asked same ends) x w = AllSettle (IsLine words) here old x w
CallSettles (batch line read is ends) x w = BatchSettles (place_or line.paths here) ends x w

-- a house tells a world that is sound but for these parts
pub record TellsSound (x : Parts) (told : Told) : Type 0 where
  pub world : World
  pub told_is : told.world ≡ Some world
  pub sound : Sound x world

-- No recorded rows would come out otherwise through a command of the promise: where nothing was in doubt, it settles.
pub record IsStill (w : World) (k : promise.Command) : Type 0 where
  pub before : Clock
  pub after : Clock
  pub was : Shows before w.book.moment
  pub is : Shows after (judged_at w k)
  pub still : (q : Forget) → moved w before after (sources_after w k) q ≡ false

-- so through whatever a line asks for, in the world that the house tells
abbrev pub LineIsStill : List ℕ → Line → Sides → Type 0
LineIsStill dir line old = (w : World) → Tells old.house w → (k : promise.Command) → AsksFor (place_or line.paths dir) old line.command w k → IsStill w k

-- through the lines of a script, each in the world that those before it leave
abbrev pub TextsAreStill : (dir : List ℕ) {texts : List (List ℕ)} {old new : Sides} {sinks printed : Sinks} {s : ℕ} → TextsEnd dir texts old new sinks printed s → Type 0
TextsAreStill dir (ended old sinks) = Unit {0}
TextsAreStill dir (went text texts old mid new sinks between printed s step more) = ((line : Line) → IsTextLine text line → LineIsStill dir line old) × TextsAreStill dir more
TextsAreStill dir (stopped text texts old new sinks printed s short step) = (line : Line) → IsTextLine text line → LineIsStill dir line old

abbrev pub ScriptIsStill : (dir script : List ℕ) {old new : Sides} {sinks printed : Sinks} {s : ℕ} → ScriptEnds dir script old new sinks printed s → Type 0
ScriptIsStill dir script (inl texts) = TextsAreStill dir texts
ScriptIsStill dir script (inr said) = Unit {0}

abbrev pub BatchIsStill : (dir : List ℕ) {input rest : SourceTold} {old new : Sides} {sinks printed : Sinks} {s : ℕ} → BatchEnds dir input rest old new sinks printed s → Type 0
BatchIsStill dir (unread r read said) = Unit {0}
BatchIsStill dir (lines_run script read ends) = ScriptIsStill dir script ends

-- through all that a call's words ask for
abbrev pub CallIsStill : {words : List (List ℕ)} {input rest : SourceTold} {old new : Sides} {sinks printed : Sinks} {s : ℕ} → WordsEnd words input rest old new sinks printed s → Type 0
CallIsStill {words = words} {old = old} (asked same ends) = (line : Line) → IsLine words line → LineIsStill here line old
CallIsStill (batch line read is ends) = BatchIsStill (place_or line.paths here) ends
