-- Models whose rows are computed side by side, before any of them is made.
use Rattle.std.specs.Prelude.{ℕ, List, [], ◌∷◌, ◌++◌, map}
use Rattle.mesh_base_values.specs.declared.values.Cell.{Cell}
use Rattle.mesh_base.specs.declared.jobs.Input.{Input}
use Rattle.mesh_base.specs.declared.jobs.Job.{Job}
use Rattle.mesh_house.specs.declared.world.Change.{Change}
use Rattle.mesh_spec_changes.specs.due.Plans.{Planned}
use Rattle.mesh_exec_works.specs.Plain.{making, model_of, work_model}
use Rattle.mesh_exec_works.specs.Works.{Part}
use Rattle.mesh_exec.specs.declared.ready.Cut.{Cut}
use Rattle.mesh_exec.specs.Fills.{fillings, run_rows}
use Rattle.mesh_exec.specs.Jobs.{jobs_of}

-- what makes and fills a model over these tables
abbrev pub part_changes : List Planned → Part → List Input → List Change
part_changes all p tables = making all p ++ fillings (model_of p.node p.entry) tables p.dues

-- what makes and fills the first of some models, each over its own tables, as far as there are tables
abbrev pub front_changes : List Planned → List Part → List (List Input) → List Change
front_changes all [] pools = []
front_changes all (p ∷ ps) [] = []
front_changes all (p ∷ ps) (tables ∷ pools) = part_changes all p tables ++ front_changes all ps pools

-- the jobs of some models, each over the pool of its number
abbrev pub cut_jobs : List Cut → List ℕ → List Job
cut_jobs [] numbers = []
cut_jobs (c ∷ cs) [] = []
cut_jobs (c ∷ cs) (n ∷ ns) = jobs_of n c.work.node.now.own.kind c.work.node.now.own.defn c.runs ++ cut_jobs cs ns

-- the rows of the runs of a model over these tables
abbrev pub part_rows_of : Cut → List Input → List (List (List Cell))
part_rows_of c tables = map (run_rows (work_model c.work) tables) c.runs

-- those of some models, each over its own tables
abbrev pub cut_rows : List Cut → List (List Input) → List (List (List Cell))
cut_rows [] pools = []
cut_rows (c ∷ cs) [] = []
cut_rows (c ∷ cs) (tables ∷ pools) = part_rows_of c tables ++ cut_rows cs pools
