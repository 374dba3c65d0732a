-- The rows of a job that is made for a model.
use Rattle.std.proofs.Common.{◌≡◌, ℕ, true, List, [], ◌∷◌, Some, None, refl, sym, ap, ◌∙◌}
use Rattle.std.specs.List.{filter}
use Rattle.std.specs.declared.option.Option.{Option}
use Rattle.mesh_base_values.specs.declared.values.Cell.{Cell}
use Rattle.mesh_base_values.specs.Kinds.{time_column}
use Rattle.mesh_base.specs.Outputs.{defn_columns, select_columns}
use Rattle.mesh_base.specs.declared.definitions.Defn.{Defn}
use Rattle.mesh_base.specs.declared.definitions.Defn.TheVariants.{Sql}
use Rattle.mesh_base.specs.declared.definitions.Own.{Own}
use Rattle.mesh_base.specs.declared.jobs.Input.{Input}
use Rattle.mesh_base.specs.declared.jobs.Job.{Job}
use Rattle.mesh_spec_query.specs.Sel.{Sel}
use Rattle.mesh_spec_model.specs.Scratch.{defn_rows, lies_by, piece_over}
use Rattle.mesh_spec_changes.specs.Changes.{ascending}
use Rattle.mesh_exec_wave.specs.wave.Waves.{counts, job_rows, pool_of}

pub unit_rows : (pools : List (List Input)) (job : Job) (own : Own) (time : List ℕ) → own.defn ≡ Sql job.query → time_column own.kind ≡ Some time → job.time ≡ Some time → job_rows pools job ≡ ascending (piece_over own (pool_of pools job) job.bounds)
unfolding job_rows
unit_rows pools job own time is_defn is_kind is_time =
    let inputs = pool_of pools job in
    let u = job.bounds in
    let columns = select_columns job.query.selects in
    let rows : List (List Cell) = Sel job.query inputs u in
    ap (λ (t : Option (List ℕ)). ascending (filter (λ row. counts t columns u row) rows)) is_time
    ∙ ap (λ (t : Option (List ℕ)). ascending (filter (λ row. lies_by t columns u row) rows)) (sym is_kind)
    ∙ ap (λ (d : Defn). ascending (filter (λ row. lies_by (time_column own.kind) (defn_columns d) u row) (defn_rows d inputs u))) (sym is_defn)

all_count : (rows : List (List Cell)) → filter (λ row. true) rows ≡ rows
all_count [] = refl
all_count (row ∷ rows) = ap (λ (l : List (List Cell)). row ∷ l) (all_count rows)

pub whole_rows : (pools : List (List Input)) (job : Job) (own : Own) → own.defn ≡ Sql job.query → job.time ≡ None → job_rows pools job ≡ ascending (defn_rows own.defn (pool_of pools job) job.bounds)
unfolding job_rows
whole_rows pools job own is_defn is_time =
    let inputs = pool_of pools job in
    let u = job.bounds in
    let rows : List (List Cell) = Sel job.query inputs u in
    ap (λ (t : Option (List ℕ)). ascending (filter (λ row. counts t (select_columns job.query.selects) u row) rows)) is_time
    ∙ ap ascending (all_count rows)
    ∙ ap (λ (d : Defn). ascending (defn_rows d inputs u)) (sym is_defn)
