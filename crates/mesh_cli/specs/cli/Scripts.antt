-- How the lines of a script end, one after another, and how words do.
use Rattle.std.specs.Prelude.{◌≡◌, ◌⊎◌, ◌&&◌, not, ℕ, ◌<◌, ◌≤◌, Bool, true, false, List, [], ◌∷◌, length, codes, Some, Result, Ok, Err, IfOk, IfErr, IfSome, IsErrOf}
use Rattle.std.specs.Option.{is_none}
use Rattle.mesh_list.specs.Counts.{Rose}
use Rattle.mesh_query_tokens.specs.declared.faults.FaultKind.TheVariants.{TooLarge}
use Rattle.mesh_io.specs.Told.{SourceTold}
use Rattle.mesh_cli_print.specs.declared.printed.refusals.Refusal.{Refusal}
use Rattle.mesh_cli_print.specs.declared.printed.refusals.Refusal.TheVariants.{Usage, Memory, Input, Model}
use Rattle.mesh_cli_words.specs.declared.line.Command.{Command}
use Rattle.mesh_cli_words.specs.declared.line.Command.TheVariants.{Batch, Demo}
use Rattle.mesh_cli_words.specs.declared.line.Line.{Line}
use Rattle.mesh_cli_words.specs.declared.line.UsageFault.{UsageFault}
use Rattle.mesh_cli_words.specs.declared.line.UsageFault.TheVariants as fault
use Rattle.mesh_cli_words.specs.Lines.{IsLine}
use Rattle.mesh_cli_values.specs.scripts.Scripts.{is_skipped, lines, words_of}
use Rattle.mesh_cli.specs.cli.Ends.{Commanded, IsSaid}
use Rattle.mesh_cli_print.specs.printed.Printing.{Printed, Sinks}
use Rattle.mesh_cli.specs.cli.Sides.{Sides, here, place_or}

-- what a command tells where its words are no command line
abbrev pub of_usage : UsageFault → Refusal
of_usage fault.Usage = Usage
of_usage fault.Memory = Memory

abbrev pub is_batch : Command → Bool
is_batch Batch = true
is_batch other = false

-- what no line of a script asks for
abbrev pub stands_alone : Command → Bool
stands_alone Batch = true
stands_alone (Demo n workers) = true
stands_alone other = false

-- a line of a script names no warehouse, and isn't itself a batch or a demonstration
abbrev pub may_stand : Line → Bool
may_stand line = not (stands_alone line.command) && is_none line.warehouse

-- a text is a command line that a script may have
pub record IsTextLine (text : List ℕ) (line : Line) : Type 0 where
  pub words : List (List ℕ)
  pub split : words_of text ≡ Some words
  pub read : IsLine words line
  pub may : may_stand line ≡ true

-- what a line answers over a folder: that of its command, or memory was wanting before it
abbrev pub LineAnswers : List ℕ → Line → Sides → Sides → Result (List ℕ) Refusal → Type 0
LineAnswers dir line old new answer = Commanded (place_or line.paths dir) line.command old new answer ⊎ ((new ≡ old) × (answer ≡ Err Memory))

-- What is answered where some words or a text ask for a line: that of a command other than a batch; or they ask for
-- none; or memory was wanting before its command.
pub data AskedAnswers (asks : Line → Type 0) (dir : List ℕ) (old new : Sides) (answer : Result (List ℕ) Refusal) : Type 0 where
  command : (line : Line) → asks line → is_batch line.command ≡ false → Commanded (place_or line.paths dir) line.command old new answer → AskedAnswers asks dir old new answer
  usage : ((line : Line) → ¬ asks line) → new ≡ old → answer ≡ Err Usage → AskedAnswers asks dir old new answer
  wanting : new ≡ old → answer ≡ Err Memory → AskedAnswers asks dir old new answer

-- and it was printed
pub record AskedEnds (asks : Line → Type 0) (dir : List ℕ) (old new : Sides) (sinks printed : Sinks) (s : ℕ) : Type 0 where
  pub answer : Result (List ℕ) Refusal
  pub answered : AskedAnswers asks dir old new answer
  pub said : Printed answer sinks printed s

abbrev pub StepBy : Bool → List ℕ → List ℕ → Sides → Sides → Sinks → Sinks → ℕ → Type 0
StepBy true dir text old new sinks printed s = (new ≡ old) × (printed ≡ sinks) × (s ≡ 0)
StepBy false dir text old new sinks printed s = AskedEnds (IsTextLine text) dir old new sinks printed s

-- one text of a script: it is skipped, or it asks for a command
abbrev pub StepEnds : List ℕ → List ℕ → Sides → Sides → Sinks → Sinks → ℕ → Type 0
StepEnds dir text old new sinks printed s = StepBy (is_skipped text) dir text old new sinks printed s

-- the texts of a script, up to the first status that isn't 0
pub data TextsEnd (dir : List ℕ) : List (List ℕ) → Sides → Sides → Sinks → Sinks → ℕ → Type 0 where
  ended : (old : Sides) (sinks : Sinks) → TextsEnd dir [] old old sinks sinks 0
  went : (text : List ℕ) (texts : List (List ℕ)) (old mid new : Sides) (sinks between printed : Sinks) (s : ℕ) →
      StepEnds dir text old mid sinks between 0 → TextsEnd dir texts mid new between printed s → TextsEnd dir (text ∷ texts) old new sinks printed s
  stopped : (text : List ℕ) (texts : List (List ℕ)) (old new : Sides) (sinks printed : Sinks) (s : ℕ) → ¬ (s ≡ 0) →
      StepEnds dir text old new sinks printed s → TextsEnd dir (text ∷ texts) old new sinks printed s

-- a script, or memory was wanting before its first line
abbrev pub ScriptEnds : List ℕ → List ℕ → Sides → Sides → Sinks → Sinks → ℕ → Type 0
ScriptEnds dir script old new sinks printed s = TextsEnd dir (lines script) old new sinks printed s ⊎ IsSaid Memory old new sinks printed s

-- what is said of a script that has too many bytes
abbrev pub too_large : Refusal
too_large = Model (codes "-") 0 (TooLarge (codes "script") 1_048_576)

-- the input was read to its end and is this script, or has more bytes than a script may have, or failed
pub record IsScript (old new : SourceTold) (read : Result (List ℕ) Refusal) : Type 0 where
  pub whole : IfOk read (λ script. IfSome old.left (λ bytes. bytes ≡ script))
  pub small : IfOk read (λ script. length script ≤ 1_048_576)
  pub large : IsErrOf read too_large → IfSome old.left (λ bytes. 1_048_576 < length bytes)
  pub failed : IsErrOf read Input → Rose old.faults new.faults
  pub other : IfErr read (λ r. (r ≡ Input) ⊎ ((r ≡ Memory) ⊎ (r ≡ too_large)))

-- how a batch ends: its script can't be read, which is said, or its lines are run
pub data BatchEnds (dir : List ℕ) (input left : SourceTold) (old new : Sides) (sinks printed : Sinks) (s : ℕ) : Type 0 where
  unread : (r : Refusal) → IsScript input left (Err r) → IsSaid r old new sinks printed s → BatchEnds dir input left old new sinks printed s
  lines_run : (script : List ℕ) → IsScript input left (Ok script) → ScriptEnds dir script old new sinks printed s → BatchEnds dir input left old new sinks printed s

-- How words end: they ask for a command other than a batch, or for none, and the input is as it was; or they ask for
-- a batch.
pub data WordsEnd (words : List (List ℕ)) (input left : SourceTold) (old new : Sides) (sinks printed : Sinks) (s : ℕ) : Type 0 where
  asked : left ≡ input → AskedEnds (IsLine words) here old new sinks printed s → WordsEnd words input left old new sinks printed s
  batch : (line : Line) → IsLine words line → is_batch line.command ≡ true →
      BatchEnds (place_or line.paths here) input left old new sinks printed s → WordsEnd words input left old new sinks printed s
