use Rattle.std.proofs.Common.{◌≡◌, List, [], ◌++◌, subst, refl, ap, ◌∙◌}
use Rattle.mesh_house.specs.declared.world.Change.{Change}
use Rattle.mesh_house.specs.Runs.{Makes}
use Rattle.mesh_house.proofs.Runs.{memory_then, ran_nothing}
use Rattle.mesh_exec_works.specs.Plain.{making, plain_models}
use Rattle.mesh_exec_works.specs.Works.{part_of}
use Rattle.mesh_exec.proofs.making.make_object.Goals as goal

pub returns-in_err-push_making-clause-makes : goal.returns-in_err-push_making-clause-makes
returns-in_err-push_making-clause-makes g c =
    let list = making (plain_models c.args.nodes.now c.args.entries.now) (part_of c.args.work.now) in
    memory_then (λ w. []) (λ w. list) (λ w. list) _ _ c.from_residual.result (ran_nothing _) c.from_residual.ensures.1 (λ w told. refl)

pub returns-clause-makes : goal.returns-clause-makes
returns-clause-makes g c =
    let list = making (plain_models c.args.nodes.now c.args.entries.now) (part_of c.args.work.now) in
    let is : c.as_slice.result.now ≡ list = c.as_slice.ensures ∙ c.in_ok-push_making.ensures ∙ ap (λ (l : List Change). l ++ list) c.new-changes.ensures in
    subst (λ (l : List Change). Makes (λ w. l) (g.W.Warehouse.told c.args.house.now) (g.W.Warehouse.told c.make_counted.new.house) c.make_counted.result) is c.make_counted.ensures.makes
