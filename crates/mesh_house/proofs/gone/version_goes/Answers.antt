use Rattle.std.proofs.Common.{◌≡◌, true, [], sym, ◌∙◌, ap}
use Rattle.std.proofs.lemmas.Result.{on_ok_weaker}
use Rattle.mesh_list.specs.Keyed.{placed, ascends}
use Rattle.mesh_base_values.specs.declared.values.Name.{Name}
use Rattle.mesh_base_values.specs.Names.{name_cmp}
use Rattle.mesh_house_book.specs.declared.book.Book.{Book}
use Rattle.mesh_house_book.specs.Changes.{version_object}
use Rattle.mesh_house.specs.Outside.{itself}
use Rattle.mesh_house.specs.Gone.{thinned}
use Rattle.mesh_house.proofs.Settled.{version_waits, version_goes}
use Rattle.mesh_house.proofs.gone.version_goes.Goals as goal

pub returns-then-may_wait-clause-ok : goal.returns-then-may_wait-clause-ok
returns-then-may_wait-clause-ok c =
    let b = c.args.book.now in
    let g = c.args.gone.now in
    let up : ascends name_cmp version_object b.versions ≡ true = ap (ascends name_cmp version_object) (sym c.as_slice-versions.ensures) ∙ c.may_wait.ensures.yes c.if-may_wait.true in
    on_ok_weaker c.place.result
    (λ d. version_waits b g c.args.object.now c.place.new.self (d ∙ ap (λ (k : Name). placed name_cmp itself k g.versions) c.in_ok-copy.ensures) up)
    c.place.ensures.ok

pub returns-clause-ok : goal.returns-clause-ok
returns-clause-ok c =
    let b = c.args.book.now in
    let g = c.args.gone.now in
    let none : g.versions ≡ [] = sym c.as_slice.ensures.items ∙ c.may_wait.ensures.no c.if-may_wait.false in
    ap (λ (made : Book). thinned made g) c.forget_version.ensures ∙ version_goes b g c.args.object.now none
