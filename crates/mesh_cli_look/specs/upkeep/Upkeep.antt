-- What the commands that keep a book in order make and print, and why they are refused.
use Rattle.std.specs.Prelude.{◌≡◌, ◌⊎◌, ℕ, ℤ, true, ◌&&◌, List, [], ◌∷◌, Result, Ok, Err, if◌then◌else◌}
use Rattle.std.specs.Int.Signed.{lt_z}
use Rattle.std.specs.Option.{is_none, is_some}
use Rattle.mesh_base.specs.declared.jobs.Swept.{Swept}
use Rattle.mesh_house_book.specs.declared.book.Book.{Book}
use Rattle.mesh_house.specs.declared.world.Change.{Change}
use Rattle.mesh_house.specs.declared.world.Change.TheVariants.{Expire}
use Rattle.mesh_house.specs.declared.world.World.{World}
use Rattle.mesh_spec_model.specs.Horizons.{Clock}
use Rattle.mesh_spec_changes.specs.Commands.{Invalidate, Janitor, changes, is_not_behind, is_present}
use Rattle.mesh_spec_changes.specs.Environments.{env_at}
use Rattle.mesh_spec_changes.specs.Kept.{sweeps}
use Rattle.mesh_janitor.specs.janitor.Sweeping.{numbers}
use Rattle.mesh_janitor.specs.declared.janitor.faults.Swept.{Swept as Numbers}
use Rattle.mesh_cli_print.specs.declared.printed.refusals.Refusal.{Refusal}
use Rattle.mesh_cli_print.specs.declared.printed.refusals.Refusal.TheVariants.{MomentBehind, EnvUnknown}
use Rattle.mesh_cli_print.specs.printed.Reports.{invalidated_line, janitor_line}
use Rattle.mesh_cli_answer.specs.Present.{IsNotPresent}

-- the book is as it has to be and of a later moment, and this is told
pub record IsBehind (t : ℤ) (b : Book) (r : Refusal) : Type 0 where
  pub present : is_present b ≡ true
  pub behind : lt_z t b.moment ≡ true
  pub told : r ≡ MomentBehind t b.moment

-- the book is as it has to be and has no such environment, and this is told
pub record IsUnknown (env : List ℕ) (b : Book) (r : Refusal) : Type 0 where
  pub present : is_present b ≡ true
  pub unknown : is_none (env_at b env) ≡ true
  pub told : r ≡ EnvUnknown env

-- why `janitor` is refused
abbrev pub JanitorRefused : ℤ → Book → Refusal → Type 0
JanitorRefused t b r = IsNotPresent b r ⊎ IsBehind t b r

-- why `invalidate` is refused
abbrev pub InvalidateRefused : List ℕ → Book → Refusal → Type 0
InvalidateRefused env b r = IsNotPresent b r ⊎ IsUnknown env b r

-- the changes of `janitor`, by the book
abbrev pub janitor_changes : ℤ → Book → List Change
janitor_changes t b = if is_present b && is_not_behind t b then sweeps b t else []

-- the changes of `invalidate`, by the book
abbrev pub invalidate_changes : List ℕ → Book → List Change
invalidate_changes env b = if is_present b && is_some (env_at b env) then Expire env ∷ [] else []

-- how much a sweep takes out
abbrev pub swept : ℤ → Book → Swept
swept t b = record {
  environments = (numbers b t).environments;
  objects = (numbers b t).objects;
  snapshots = (numbers b t).snapshots;
  changes = (numbers b t).changes;
}

-- the line of `janitor`
abbrev pub swept_line : ℤ → Book → List ℕ
swept_line t b = janitor_line t (swept t b)

-- a book that is as it has to be and isn't behind is swept
abbrev pub IsSwept : ℤ → Book → Type 0
IsSwept t b = (is_present b && is_not_behind t b) ≡ true

-- what is told of a sweep by a book
abbrev pub NumbersGiven : ℤ → Book → Result Numbers Refusal → Type 0
NumbersGiven t b (Ok swept) = IsSwept t b × (swept ≡ numbers b t)
NumbersGiven t b (Err r) = JanitorRefused t b r

-- the same as a line
abbrev pub SweepGives : ℤ → Book → Result (List ℕ) Refusal → Type 0
SweepGives t b (Ok text) = IsSwept t b × (text ≡ swept_line t b)
SweepGives t b (Err r) = JanitorRefused t b r

-- what is told of an environment that is to be over, by a book
abbrev pub ExpiryGives : List ℕ → Book → Result (List ℕ) Refusal → Type 0
ExpiryGives env b (Ok text) = ((is_present b && is_some (env_at b env)) ≡ true) × (text ≡ invalidated_line env)
ExpiryGives env b (Err r) = InvalidateRefused env b r

-- `janitor` and `invalidate` make the changes of their command
abbrev pub JanitorMakes : ℤ → World → List Change → Type 0
JanitorMakes t w list = (clock : Clock) → list ≡ changes clock (Janitor t) w

abbrev pub InvalidateMakes : List ℕ → World → List Change → Type 0
InvalidateMakes env w list = (clock : Clock) → list ≡ changes clock (Invalidate env) w

-- what they answer, by the book of the world
abbrev pub JanitorGives : ℤ → World → Result (List ℕ) Refusal → Type 0
JanitorGives t w answer = SweepGives t w.book answer

abbrev pub InvalidateGives : List ℕ → World → Result (List ℕ) Refusal → Type 0
InvalidateGives env w answer = ExpiryGives env w.book answer
