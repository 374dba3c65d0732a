-- The rows of each job of a wave. Nothing here speaks of workers.
use Rattle.std.specs.Prelude.{ℕ, Bool, true, List, []}
use Rattle.std.specs.List.{filter, slice_index_or}
use Rattle.std.specs.declared.option.Option.{Option}
use Rattle.std.specs.declared.option.Option.TheVariants.{None, Some}
use Rattle.mesh_base_values.specs.declared.times.Bounds.{Bounds}
use Rattle.mesh_base_values.specs.declared.values.Cell.{Cell}
use Rattle.mesh_base_values.specs.declared.values.Column.{Column}
use Rattle.mesh_base.specs.Outputs.{select_columns}
use Rattle.mesh_base.specs.declared.jobs.Input.{Input}
use Rattle.mesh_base.specs.declared.jobs.Job.{Job}
use Rattle.mesh_time_days.specs.seconds.Times.{lies_in}
use Rattle.mesh_spec_query.specs.Sel.{Sel}
use Rattle.mesh_spec_changes.specs.Changes.{ascending}

-- whether a row counts: each one where there is no time column, and otherwise one that lies in the bounds by it
abbrev pub counts : Option (List ℕ) → List Column → Bounds → List Cell → Bool
counts None columns u row = true
counts (Some time) columns u row = lies_in columns time u row

-- the rows of a job over its inputs: those of its query for its bounds that count
abbrev pub rows_over : Job → List Input → List (List Cell)
rows_over job inputs = filter (counts job.time (select_columns job.query.selects) job.bounds) (Sel job.query inputs job.bounds)

-- the inputs of the pool that a job names
abbrev pub pool_of : List (List Input) → Job → List Input
pool_of pools job = slice_index_or pools job.pool []

-- the rows of a job over its pool, in ascending order
unfoldable pub job_rows : List (List Input) → Job → List (List Cell)
job_rows pools job = ascending (rows_over job (pool_of pools job))
