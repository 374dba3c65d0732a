-- How what a command answers is printed: its text, or the line of its refusal, and the exit status.
use Rattle.std.specs.Prelude.{◌≡◌, ◌⊎◌, ℕ, List, ◌++◌, take, Result, Ok, Err}
use Rattle.std.specs.Option.{option_map}
use Rattle.mesh_list.specs.Counts.{Rose}
use Rattle.mesh_io.specs.Told.{SinkTold}
use Rattle.mesh_cli_print.specs.printed.Refusals.{refusal_line, status}
use Rattle.mesh_cli_print.specs.declared.printed.refusals.Refusal.{Refusal}

-- what is printed on
pub record Sinks : Type 0 where
  pub out : SinkTold
  pub err : SinkTold

abbrev pub sinks : SinkTold → SinkTold → Sinks
sinks o e = record { out = o; err = e }

-- a text was written
abbrev pub IsWritten : List ℕ → SinkTold → SinkTold → Type 0
IsWritten text old new = new.written ≡ option_map (λ bytes. bytes ++ text) old.written

-- the beginning of a text was written
abbrev pub IsBegun : List ℕ → SinkTold → SinkTold → Type 0
IsBegun text old new = (n : ℕ) × IsWritten (take n text) old new

-- A text was to be written with a status: it was, or with 6 the sink failed and with 4 memory was wanting, and a
-- beginning of the text was written.
abbrev pub IsPut : List ℕ → ℕ → SinkTold → SinkTold → ℕ → Type 0
IsPut text whole old new s =
    ((s ≡ whole) × IsWritten text old new) ⊎ (((s ≡ 6) × Rose old.faults new.faults × IsBegun text old new) ⊎ ((s ≡ 4) × IsBegun text old new))

-- Printed: what was answered goes to `out`, and the line of a refusal to `err`, and the other one is as it was.
abbrev pub Printed : Result (List ℕ) Refusal → Sinks → Sinks → ℕ → Type 0
Printed (Ok text) old new s = IsPut text 0 old.out new.out s × (new.err ≡ old.err)
Printed (Err r) old new s = IsPut (refusal_line r) (status r) old.err new.err s × (new.out ≡ old.out)
