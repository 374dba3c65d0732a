use Rattle.std.proofs.Common.{◌∙◌, ap}
use Rattle.std.proofs.lemmas.Result.{on_ok_weaker, on_err_weaker}
use Rattle.mesh_house_book.specs.Changes.{forget_version}
use Rattle.mesh_house.specs.declared.world.World.{World}
use Rattle.mesh_house.specs.Gone.{thinned}
use Rattle.mesh_house.specs.Step.{with_book}
use Rattle.mesh_house.proofs.Settled.{settled_book}
use Rattle.mesh_house.proofs.buffered.Buffered.forget_version.Goals as goal

pub returns-clause-ok : goal.returns-clause-ok
returns-clause-ok c =
    let w = c.self.inside.world in
    let g = c.self.inside.gone in
    let went = c.version_goes in
    on_ok_weaker went.result
    (λ d. settled_book w g went.new.gone went.new.book (forget_version (thinned w.book g) c.args.object.now) went.ensures.objects d
    ∙ ap (λ (v : World). with_book v (forget_version v.book c.args.object.now)) c.self.view_is)
    went.ensures.ok

pub returns-clause-err : goal.returns-clause-err
returns-clause-err c =
    let w = c.self.inside.world in
    let g = c.self.inside.gone in
    let went = c.version_goes in
    on_err_weaker went.result
    (λ d. settled_book w g went.new.gone went.new.book (thinned w.book g) went.ensures.objects d ∙ c.self.view_is)
    went.ensures.err
