use Rattle.std.proofs.Common.{◌≡◌, ℕ, List, [], length, ap, subst, refl, ◌∙◌}
use Rattle.mesh_base_values.proofs.Tests.{both_parts as is_both}
use Rattle.mesh_house.specs.declared.world.Change.{Change}
use Rattle.mesh_house.specs.Runs.{Makes}
use Rattle.mesh_house.proofs.Runs.{memory_then, ran_nothing}
use Rattle.mesh_lineage.specs.Joinable.{is_joinable}
use Rattle.mesh_exec_works.specs.Plain.{model_of}
use Rattle.mesh_exec.specs.Fills.{fillings, first_pool, run_fillings}
use Rattle.mesh_exec.specs.Runs.{are_fit_runs}
use Rattle.mesh_exec.proofs.Filling.{ok_more, runs_fill}
use Rattle.mesh_exec.proofs.Running.{runs_fit}
use Rattle.mesh_exec.proofs.fills.fill_computed.Goals as goal

pub returns-in_err-runs-clause-makes : goal.returns-in_err-runs-clause-makes
returns-in_err-runs-clause-makes g c =
    let list = fillings (model_of c.args.node.now c.args.entry.now) (first_pool c.args.pools.now) c.args.dues.now in
    memory_then (λ w. []) (λ w. list) (λ w. list) _ _ c.from_residual.result (ran_nothing _) c.from_residual.ensures.1 (λ w told. refl)

pub fill_runs-requires-clause-fit : goal.fill_runs-requires-clause-fit
fill_runs-requires-clause-fit g c κs within = ap (are_fit_runs c.args.node.now) c.as_slice.ensures ∙ runs_fit c.args.node.now c.args.dues.now c.in_ok-runs.runs c.in_ok-runs.ensures c.requires.fit

pub fill_runs-requires-clause-body : goal.fill_runs-requires-clause-body
fill_runs-requires-clause-body g c κs within = (is_both _ _ c.requires.fit).0

pub returns-clause-makes : goal.returns-clause-makes
returns-clause-makes g c =
    let m = model_of c.args.node.now c.args.entry.now in
    let pool = first_pool c.args.pools.now in
    let is : run_fillings m pool c.as_slice.result.now ≡ fillings m pool c.args.dues.now = ap (run_fillings m pool) c.as_slice.ensures ∙ runs_fill m pool (is_joinable c.args.node.now.own) c.args.dues.now c.in_ok-runs.runs c.in_ok-runs.ensures in
    subst (λ (l : List Change). Makes (λ w. l) (g.W.Warehouse.told c.args.house.now) (g.W.Warehouse.told c.fill_runs.new.house) c.fill_runs.result) is c.fill_runs.ensures.makes

pub returns-clause-number : goal.returns-clause-number
returns-clause-number g c =
    let m = model_of c.args.node.now c.args.entry.now in
    let pool = first_pool c.args.pools.now in
    let is : run_fillings m pool c.as_slice.result.now ≡ fillings m pool c.args.dues.now = ap (run_fillings m pool) c.as_slice.ensures ∙ runs_fill m pool (is_joinable c.args.node.now.own) c.args.dues.now c.in_ok-runs.runs c.in_ok-runs.ensures in
    ok_more (λ (made : ℕ). made ≡ length (run_fillings m pool c.as_slice.result.now)) (λ (made : ℕ). made ≡ length (fillings m pool c.args.dues.now)) c.fill_runs.result (λ made number. number ∙ ap length is) c.fill_runs.ensures.number
