use Rattle.std.proofs.Common.{◌≡◌, List, FitsSigned, w64, to_z, of_z, ap, subst, ◌∙◌}
use Rattle.std.proofs.lemmas.Int.{to_z-of_z}
use Rattle.mesh_house.specs.declared.world.Change.{Change}
use Rattle.mesh_house.specs.Runs.{Makes}
use Rattle.mesh_janitor.specs.promote.Promotion.{promotion}
use Rattle.mesh_janitor.proofs.janitor.Making.{wanting}
use Rattle.mesh_janitor.proofs.promote.promoting.promote.Goals as goal

pub returns-in_err-changes-clause-makes : goal.returns-in_err-changes-clause-makes
returns-in_err-changes-clause-makes g c =
    wanting (promotion c.args.b.now c.args.env.now c.args.list.now c.args.objects.now c.args.t) _ _ c.from_residual.ensures.1

pub returns-clause-makes : goal.returns-clause-makes
returns-clause-makes g c =
    let fits : FitsSigned w64 c.args.t = c.ranges.t in
    let same : to_z w64 (of_z w64 c.args.t) ≡ c.args.t = simp to_z-of_z in
    let list = c.as_slice.ensures ∙ c.in_ok-changes.ensures ∙ ap (promotion c.args.b.now c.args.env.now c.args.list.now c.args.objects.now) same in
    subst (λ (l : List Change). Makes (λ w. l) (g.W.Warehouse.told c.args.house.now) (g.W.Warehouse.told c.make_counted.new.house) c.make_counted.result) list c.make_counted.ensures.makes
