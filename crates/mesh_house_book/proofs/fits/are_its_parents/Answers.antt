use Rattle.std.proofs.Common.{List, ◌∙◌, ap}
use Rattle.mesh_base.specs.declared.snapshots.Ref.{Ref}
use Rattle.mesh_house_book.specs.Named.{are_parents}
use Rattle.mesh_house_book.proofs.Parents.{parents_alike}
use Rattle.mesh_house_book.proofs.fits.are_its_parents.Goals as goal

pub returns : goal.returns
returns c =
    c.are_parents.ensures
    ∙ ap (λ (refs : List Ref). are_parents refs c.args.s.now.own) c.as_slice.ensures
    ∙ parents_alike c.args.all.now c.args.s.now.parents c.args.s.now.own
