use Rattle.std.proofs.Common.{◌∙◌, sym, ap, subst, List, map}
use Rattle.mesh_base.specs.declared.forgets.Rename.{Rename}
use Rattle.mesh_base.specs.declared.snapshots.Snapshot.{Snapshot}
use Rattle.mesh_janitor.specs.migrate.Migration.{IsMap}
use Rattle.mesh_janitor.specs.migrate.Walk.{layers, limit_from, rename_at, renames_of}
use Rattle.mesh_janitor.proofs.migrate.Put.{walk_makes_the_map}
use Rattle.mesh_janitor.proofs.migrate.renames.map_of.Goals as goal

pub returns : goal.returns
returns c =
    let slice = c.as_slice-all.result.now in
    let before = renames_of c.in_ok-entries.entries in
    let is = c.in_ok-renames.ensures
    ∙ ap (λ (m : List Rename). map (rename_at m) slice) c.in_ok-put_all.ensures
    ∙ ap (λ (ss : List Snapshot). map (rename_at (layers (limit_from 0 ss) ss before)) ss) c.as_slice-all.ensures in
    subst (λ (m : List Rename). IsMap c.args.b.now m) (sym is) (walk_makes_the_map c.args.b.now c.requires before)
