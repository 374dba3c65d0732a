use Rattle.std.proofs.Common.{List, [], subst, refl, ◌∙◌}
use Rattle.mesh_house.specs.declared.world.Change.{Change}
use Rattle.mesh_house.specs.Runs.{Makes}
use Rattle.mesh_house.proofs.Runs.{memory_then, ran_nothing}
use Rattle.mesh_exec_works.specs.Plain.{opened}
use Rattle.mesh_exec.proofs.executing.open.Goals as goal

pub returns-in_err-changes-clause-makes : goal.returns-in_err-changes-clause-makes
returns-in_err-changes-clause-makes g c =
    memory_then (λ w. []) (λ w. opened c.args.p.now) (λ w. opened c.args.p.now) _ _ c.from_residual.result (ran_nothing _) c.from_residual.ensures.1 (λ w told. refl)

pub returns-clause-makes : goal.returns-clause-makes
returns-clause-makes g c =
    subst (λ (l : List Change). Makes (λ w. l) (g.W.Warehouse.told c.args.house.now) (g.W.Warehouse.told c.make_counted.new.house) c.make_counted.result) (c.as_slice.ensures ∙ c.in_ok-changes.ensures) c.make_counted.ensures.makes
