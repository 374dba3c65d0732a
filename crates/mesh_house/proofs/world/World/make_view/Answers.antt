use Rattle.std.proofs.Common.{◌≡◌, ◌∙◌, refl}
use Rattle.std.specs.declared.option.Option.{Option}
use Rattle.std.proofs.lemmas.Result.{IfOk-at_ok, on_err_weaker}
use Rattle.mesh_house_book.specs.declared.versions.Version.{Version}
use Rattle.mesh_house_book.specs.Changes.{as_view}
use Rattle.mesh_house.specs.World.{version_of}
use Rattle.mesh_house.proofs.Undone.{all_undone}
use Rattle.mesh_house.proofs.world.World.make_view.Goals as goal

pub returns-clause-err : goal.returns-clause-err
returns-clause-err c =
    let w = c.args.self.now in
    let before = IfOk-at_ok (λ (v : Option Version). v ≡ version_of w.book c.args.object.now) c.in_ok-made.ensures.1 c.version_of.ensures in
    let done = c.make_view-done in
    on_err_weaker c.put_where.result
    (λ d. d ∙ all_undone done.result as_view w done.new.self c.args.object.now _ (λ v. refl) before done.ensures.ok done.ensures.err)
    c.put_where.ensures.err
