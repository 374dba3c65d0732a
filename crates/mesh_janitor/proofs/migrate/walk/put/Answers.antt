use Rattle.std.proofs.Common.{◌∙◌, ap}
use Rattle.mesh_list.specs.Keyed.{placed}
use Rattle.mesh_base.specs.declared.forgets.Rename.{Rename}
use Rattle.mesh_base.specs.Keys.{ref_cmp}
use Rattle.mesh_house_book.specs.moves.Renames.{rename_old}
use Rattle.mesh_janitor.specs.migrate.Walk.{renames_of}
use Rattle.mesh_janitor.proofs.migrate.Found.{placed_is}
use Rattle.mesh_janitor.proofs.migrate.walk.put.Goals as goal

pub returns : goal.returns
returns c =
    ap renames_of c.in_ok-place.ensures.ok
    ∙ placed_is (record { rename = c.in_ok-rename.rename }) c.args.entries.now
    ∙ ap (λ (m : Rename). placed ref_cmp rename_old m (renames_of c.args.entries.now)) c.in_ok-rename.ensures
