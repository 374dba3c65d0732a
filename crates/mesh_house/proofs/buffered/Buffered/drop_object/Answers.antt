use Rattle.std.proofs.Common.{◌≡◌, true, ◌∙◌, ap}
use Rattle.std.proofs.lemmas.Result.{on_ok_weaker}
use Rattle.mesh_list.specs.Keyed.{placed, ascends}
use Rattle.mesh_base_values.specs.declared.values.Name.{Name}
use Rattle.mesh_base_values.specs.Names.{name_cmp}
use Rattle.mesh_house.specs.declared.world.World.{World}
use Rattle.mesh_house.specs.Objects.{object_name}
use Rattle.mesh_house.specs.Outside.{itself}
use Rattle.mesh_house.specs.Step.{drop_object}
use Rattle.mesh_house.proofs.Settled.{object_waits}
use Rattle.mesh_house.proofs.buffered.Buffered.drop_object.Goals as goal

pub returns-clause-ok : goal.returns-clause-ok
returns-clause-ok c =
    let w = c.self.inside.world in
    let g = c.self.inside.gone in
    let up : ascends name_cmp object_name w.objects ≡ true = c.as_slice-objects.ensures.ascending in
    on_ok_weaker c.place.result
    (λ d. object_waits w g c.args.object.now c.place.new.self (d ∙ ap (λ (k : Name). placed name_cmp itself k g.objects) c.in_ok-copy.ensures) up
    ∙ ap (λ (v : World). drop_object v c.args.object.now) c.self.view_is)
    c.place.ensures.ok
