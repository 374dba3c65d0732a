-- The queries by which the rows of runs of due parts are computed.
use Rattle.std.specs.Prelude.{ℕ, List, [], ◌∷◌, Some, None}
use Rattle.std.specs.List.{flat_map}
use Rattle.std.specs.Option.{option_to_list}
use Rattle.std.specs.declared.option.Option.{Option}
use Rattle.mesh_base_values.specs.declared.kinds.Kind.{Kind}
use Rattle.mesh_base_values.specs.declared.kinds.Kind.TheVariants.{Full, View, Seed, Incremental}
use Rattle.mesh_base.specs.declared.definitions.Defn.{Defn}
use Rattle.mesh_base.specs.declared.definitions.Defn.TheVariants.{Seed as Rows, Sql}
use Rattle.mesh_base.specs.declared.jobs.Job.{Job}
use Rattle.mesh_base.specs.declared.plans.Due.{Due}
use Rattle.mesh_base.specs.declared.plans.Due.TheVariants.{Whole, Unit}
use Rattle.mesh_spec_model.specs.Scratch.{no_bounds}
use Rattle.mesh_exec.specs.declared.runs.Run.{Run}
use Rattle.mesh_exec.specs.Runs.{dues_in, spanned}

-- the query by which a due part's rows are computed, if there is one
abbrev pub due_job : ℕ → Kind → Defn → Due → Option Job
due_job pool (Incremental time lookback) (Sql q) (Unit place start end) = Some (record { query = q; pool = pool; bounds = record { start = start; end = end }; time = Some time })
due_job pool (Incremental time lookback) (Sql q) (Whole place marks) = None
due_job pool Full (Sql q) (Whole place marks) = Some (record { query = q; pool = pool; bounds = no_bounds; time = None })
due_job pool Full (Sql q) (Unit place start end) = None
due_job pool View (Sql q) d = None
due_job pool Seed (Sql q) d = None
due_job pool kind (Rows columns rows) d = None

-- that of a run
abbrev pub span_job : ℕ → Kind → Defn → List Due → List Job
span_job pool kind defn [] = []
span_job pool kind defn (d ∷ ds) = option_to_list (due_job pool kind defn (spanned d ds))

abbrev pub jobs_of : ℕ → Kind → Defn → List Run → List Job
jobs_of pool kind defn runs = flat_map (λ r. span_job pool kind defn (dues_in r)) runs
