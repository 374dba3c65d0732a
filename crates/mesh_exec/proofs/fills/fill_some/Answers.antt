use Rattle.std.proofs.Common.{List, subst, ◌∙◌}
use Rattle.mesh_house.specs.declared.world.Change.{Change}
use Rattle.mesh_house.specs.Runs.{Makes}
use Rattle.mesh_house.proofs.Runs.{memory_then, ran_nothing}
use Rattle.std.proofs.Common.{refl, []}
use Rattle.mesh_exec_works.specs.Plain.{model_of}
use Rattle.mesh_exec.specs.Fills.{first_pool, run_fillings}
use Rattle.mesh_exec.proofs.fills.fill_some.Goals as goal

pub returns-in_err-changes-clause-makes : goal.returns-in_err-changes-clause-makes
returns-in_err-changes-clause-makes g c =
    let list = run_fillings (model_of c.args.node.now c.args.entry.now) (first_pool c.args.pools.now) c.args.runs.now in
    memory_then (λ w. []) (λ w. list) (λ w. list) _ _ c.from_residual.result (ran_nothing _) c.from_residual.ensures.1 (λ w told. refl)

pub returns-clause-makes : goal.returns-clause-makes
returns-clause-makes g c =
    subst (λ (l : List Change). Makes (λ w. l) (g.W.Warehouse.told c.args.house.now) (g.W.Warehouse.told c.make_counted.new.house) c.make_counted.result) (c.as_slice.ensures ∙ c.in_ok-changes.ensures) c.make_counted.ensures.makes
