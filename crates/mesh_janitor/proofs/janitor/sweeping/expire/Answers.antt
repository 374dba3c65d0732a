use Rattle.std.proofs.Common.{List, [], ◌∷◌, subst, ◌∙◌}
use Rattle.mesh_house.specs.declared.world.Change.{Change}
use Rattle.mesh_house.specs.declared.world.Change.TheVariants.{Expire}
use Rattle.mesh_house.specs.Runs.{Makes}
use Rattle.mesh_janitor.proofs.janitor.Making.{wanting}
use Rattle.mesh_janitor.proofs.janitor.sweeping.expire.Goals as goal

pub returns-in_err-list-clause-makes : goal.returns-in_err-list-clause-makes
returns-in_err-list-clause-makes g c = wanting (Expire c.args.env.now ∷ []) _ _ c.from_residual.ensures.1

pub returns-clause-makes : goal.returns-clause-makes
returns-clause-makes g c =
    subst (λ (l : List Change). Makes (λ w. l) (g.W.Warehouse.told c.args.house.now) (g.W.Warehouse.told c.make_counted.new.house) c.make_counted.result) (c.as_slice.ensures ∙ c.in_ok-list.ensures) c.make_counted.ensures.makes
