use Rattle.std.proofs.Common.{◌∙◌, ap, List}
use Rattle.mesh_house_book.specs.declared.versions.Version.{Version}
use Rattle.mesh_house_book.specs.moves.Held.{all_forgotten}
use Rattle.mesh_house_book.proofs.moves.Changed.{all_forgotten_is, over}
use Rattle.mesh_house_book.proofs.moves.forgets.forget_units.Goals as goal

pub returns-clause-ok : goal.returns-clause-ok
returns-clause-ok c =
    ap (over c.args.book.now) (c.in_ok-forget_all.ensures ∙ ap (λ (vs : List Version). all_forgotten vs c.args.list.now) c.in_ok-versions.ensures)
    ∙ all_forgotten_is c.args.book.now c.args.list.now
