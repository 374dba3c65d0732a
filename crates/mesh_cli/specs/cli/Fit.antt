-- What the values of a command line keep.
use Rattle.std.specs.Prelude.{◌≡◌, ℕ, ◌≤◌, false, IfSome}
use Rattle.mesh_time_days.specs.Moments.{IsMoment}
use Rattle.mesh_base_values.specs.Picked.{same_text}
use Rattle.mesh_spec_changes.specs.Environments.{prod}
use Rattle.mesh_cli_words.specs.declared.line.Command.{Command}
use Rattle.mesh_cli_words.specs.declared.line.Command.TheVariants.{Plan, Apply, Run, Evaluate, Fetchdf, Ingest, Janitor, Invalidate, Migrate, Trace, Impact, Batch, Demo}

-- 1 to 64 workers
abbrev pub IsCrew : ℕ → Type 0
IsCrew workers = (1 ≤ workers) × (workers ≤ 64)

-- moments and days of the calendar, workers as many as may be, and an environment that may go
abbrev pub IsFit : Command → Type 0
IsFit (Plan env auto workers moment again) = IsCrew workers × IfSome moment IsMoment
IsFit (Apply env workers moment again) = IsCrew workers × IfSome moment IsMoment
IsFit (Run env workers moment) = IsCrew workers × IfSome moment IsMoment
IsFit (Evaluate model env first last) = Unit {0}
IsFit (Fetchdf query env) = Unit {0}
IsFit (Ingest name file append) = Unit {0}
IsFit (Janitor moment) = IfSome moment IsMoment
IsFit (Invalidate env) = same_text env prod ≡ false
IsFit Migrate = Unit {0}
IsFit (Trace model column) = Unit {0}
IsFit (Impact name column) = Unit {0}
IsFit Batch = Unit {0}
IsFit (Demo n workers) = IsCrew workers
