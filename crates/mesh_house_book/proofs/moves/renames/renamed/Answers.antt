use Rattle.std.proofs.Common.{◌∙◌, sym, ap, None, Some}
use Rattle.mesh_base_values.specs.declared.values.Name.{Name}
use Rattle.mesh_house_book.specs.moves.Moves.{renames_of}
use Rattle.mesh_house_book.specs.moves.Renames.{renamed}
use Rattle.mesh_house_book.proofs.moves.Found.{renamed_is}
use Rattle.mesh_house_book.proofs.moves.renames.renamed.Goals as goal

pub returns-in-None : goal.returns-in-None
returns-in-None c =
    renamed_is (record { name = c.in_ok-copy.field-0; fingerprint = c.args.fingerprint }) c.args.moves.now None (sym c.in-None.ensures)
    ∙ ap (λ (n : Name). renamed (renames_of c.args.moves.now) (record { name = n; fingerprint = c.args.fingerprint })) c.in_ok-copy.ensures

pub returns-in-Some : goal.returns-in-Some
returns-in-Some c =
    renamed_is (record { name = c.in_ok-copy.field-0; fingerprint = c.args.fingerprint }) c.args.moves.now (Some c.in-Some.found.now) (sym c.in-Some.ensures)
    ∙ ap (λ (n : Name). renamed (renames_of c.args.moves.now) (record { name = n; fingerprint = c.args.fingerprint })) c.in_ok-copy.ensures
