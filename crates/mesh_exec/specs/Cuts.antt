-- Models that may be computed side by side.
use Rattle.std.specs.Prelude.{◌≡◌, ◌+◌, ◌≤◌, ⊤, ℕ, Bool, true, false, List, [], ◌∷◌, length, map, take}
use Rattle.mesh_base.specs.declared.plans.Due.{Due}
use Rattle.mesh_base.specs.declared.snapshots.Node.{Node}
use Rattle.mesh_spec_changes.specs.due.Marks.{is_computed}
use Rattle.mesh_lineage.specs.Joinable.{is_joinable}
use Rattle.mesh_exec_works.specs.declared.works.Work.{Work}
use Rattle.mesh_exec_works.specs.Works.{Part, part_of}
use Rattle.mesh_exec.specs.declared.ready.Cut.{Cut}
use Rattle.mesh_exec.specs.declared.runs.Run.{Run}
use Rattle.mesh_exec.specs.Runs.{AreRunsOf}

-- the runs of what is due of a model whose rows are computed; another one has none
abbrev pub AreRunsIf : Bool → Node → List Due → List Run → Type 0
AreRunsIf true n dues runs = AreRunsOf (is_joinable n.own) dues runs
AreRunsIf false n dues runs = runs ≡ []

abbrev pub IsCut : Cut → Type 0
IsCut c = AreRunsIf (is_computed c.work.node.now.own.kind) c.work.node.now c.work.dues.now c.runs

abbrev pub AreCuts : List Cut → Type 0
AreCuts [] = ⊤
AreCuts (c ∷ cs) = IsCut c × AreCuts cs

abbrev pub work_of : Cut → Work
work_of c = c.work

abbrev pub cut_part : Cut → Part
cut_part c = part_of c.work

-- how many runs some models have
abbrev pub count_runs : List Cut → ℕ
count_runs [] = 0
count_runs (c ∷ cs) = length c.runs + count_runs cs

-- the first of some models, with few runs
pub record IsReady (works : List Work) (cuts : List Cut) : Type 0 where
  pub first : map work_of cuts ≡ take (length cuts) works
  pub within : length cuts ≤ length works
  pub each : AreCuts cuts
  pub models : length cuts ≤ 256
  pub runs : count_runs cuts ≤ 256
