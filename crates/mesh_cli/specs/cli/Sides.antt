-- What lies outside of a command, as it tells of itself.
use Rattle.std.specs.Prelude.{◌≡◌, ◌⊎◌, ◌≤◌, ℕ, ℤ, Bool, true, false, List, codes, Some, Result, IfOk, IfErr, IfSome, IsErrOf}
use Rattle.std.specs.declared.option.Option.{Option}
use Rattle.std.specs.declared.option.Option.TheVariants.{None}
use Rattle.mesh_list.specs.Counts.{Rose}
use Rattle.mesh_time_days.specs.Moments.{IsMoment}
use Rattle.mesh_io.specs.declared.fails.IoFail.{IoFail}
use Rattle.mesh_io.specs.declared.fails.IoFail.TheVariants as io
use Rattle.mesh_io.specs.Told.{ClockTold, FolderTold}
use Rattle.mesh_house.specs.House.{Told}
use Rattle.mesh_cli_print.specs.declared.printed.refusals.Refusal.{Refusal}
use Rattle.mesh_cli_print.specs.declared.printed.refusals.Refusal.TheVariants.{Input, Memory}

-- the folder, the clock and the warehouse
pub record Sides : Type 0 where
  pub folder : FolderTold
  pub clock : ClockTold
  pub house : Told

abbrev pub sides : FolderTold → ClockTold → Told → Sides
sides f c h = record { folder = f; clock = c; house = h }

-- the folder that is named, or else another one
abbrev pub place_or : Option (List ℕ) → List ℕ → List ℕ
place_or None other = other
place_or (Some paths) other = paths

-- the folder that a command is called in
abbrev pub here : List ℕ
here = codes "."

-- what a command tells where the outside failed
abbrev pub of_io : IoFail → Refusal
of_io io.Failed = Input
of_io io.Memory = Memory

-- the moment that the words give, or else the clock's, where it tells it
abbrev pub IsAt : Option ℤ → Option ℤ → ℤ → Type 0
IsAt (Some given) now t = t ≡ given
IsAt None now t = IfSome now (λ m. t ≡ m)

-- a moment that isn't given
abbrev pub is_open : Option ℤ → Bool
is_open None = true
is_open (Some t) = false

-- The moment of a command was found: the clock is asked only where none is given, and stands where it stood.
pub record Timed (given : Option ℤ) (old new : ClockTold) (result : Result ℤ Refusal) : Type 0 where
  pub moment : new.moment ≡ old.moment
  pub faults : old.faults ≤ new.faults
  pub is_at : IfOk result (IsAt given old.moment)
  pub within : IfOk result IsMoment
  pub failed : IsErrOf result Input → Rose old.faults new.faults
  pub fault : IfErr result (λ r. (r ≡ Input) ⊎ (r ≡ Memory))
  pub unasked : is_open given ≡ false → new ≡ old

-- this holds of the moment, which is one of the calendar
abbrev pub AtMoment : Option ℤ → Option ℤ → (ℤ → Type 0) → Type 0
AtMoment given now of = (t : ℤ) × IsAt given now t × IsMoment t × of t
