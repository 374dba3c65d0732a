-- How a command ends: what it answered, what was printed, and its status.
use Rattle.std.specs.Prelude.{◌≡◌, ◌⊎◌, ℕ, ◌≤◌, false, List, Result, Err}
use Rattle.mesh_list.specs.Counts.{Rose}
use Rattle.mesh_cli_answer.specs.Answers.{Answers, IsGiven}
use Rattle.mesh_cli_print.specs.printed.Printing.{Printed, Sinks}
use Rattle.mesh_cli_print.specs.declared.printed.refusals.Refusal.{Refusal}
use Rattle.mesh_cli_words.specs.declared.line.Command.{Command}
use Rattle.mesh_house.specs.declared.world.World.{World}
use Rattle.mesh_cli.specs.cli.Asked.{Gives, Makes, asks_clock, reads_folder, uses_house}
use Rattle.mesh_cli.specs.cli.Sides.{Sides}

-- Commanded: a command was called for, for the project in a folder, and answered so. It makes changes and gives
-- answers as it is to in the world that the house tells; the outside is told to have failed only where a count of its
-- faults rose; and what the command doesn't need is as it was. One that doesn't use the warehouse gives such an
-- answer in every world.
pub record Commanded (dir : List ℕ) (c : Command) (old new : Sides) (answer : Result (List ℕ) Refusal) : Type 0 where
  pub house : Answers (Rose old.folder.faults new.folder.faults ⊎ Rose old.clock.faults new.clock.faults) (Makes dir old c) (Gives dir old c) old.house new.house answer
  pub files : new.folder.files ≡ old.folder.files
  pub moment : new.clock.moment ≡ old.clock.moment
  pub folder : old.folder.faults ≤ new.folder.faults
  pub clock : old.clock.faults ≤ new.clock.faults
  pub unread : reads_folder c ≡ false → new.folder ≡ old.folder
  pub unasked : asks_clock c ≡ false → new.clock ≡ old.clock
  pub unused : uses_house c ≡ false → (new.house ≡ old.house) × ((w : World) → IsGiven (Gives dir old c w) answer)

-- Ended: a command was called for, and what it answered was printed
pub record Ended (dir : List ℕ) (c : Command) (old new : Sides) (sinks printed : Sinks) (s : ℕ) : Type 0 where
  pub answer : Result (List ℕ) Refusal
  pub commanded : Commanded dir c old new answer
  pub said : Printed answer sinks printed s

-- a refusal was printed, and all else is as it was
abbrev pub IsSaid : Refusal → Sides → Sides → Sinks → Sinks → ℕ → Type 0
IsSaid r old new sinks printed s = (new ≡ old) × Printed (Err r) sinks printed s
