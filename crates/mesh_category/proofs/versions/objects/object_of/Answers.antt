use Rattle.std.proofs.Common.{Some, sym, ap, ◌∙◌}
use Rattle.std.specs.BTreeMap.{get}
use Rattle.mesh_base_values.specs.Names.{name_cmp}
use Rattle.mesh_category.proofs.versions.Choices.{known_is, unknown_is}
use Rattle.mesh_category.proofs.versions.Tells.{asks, is_new_then, new_missing, stored_known, stored_within}
use Rattle.mesh_category.proofs.versions.objects.object_of.Goals as goal

pub snapshot_at-requires : goal.snapshot_at-requires
snapshot_at-requires c = stored_within c.args.b.now c.requires.book c.args.nodes.now c.args.node.now c.requires.node c.in-Stored.at (c.requires.told ∙ ap Some c.in-Stored.is)

pub unknown-requires : goal.unknown-requires
unknown-requires c =
    let b = c.args.b.now in
    let new = is_new_then b c.requires.book c.args.nodes.now c.args.node.now c.requires.node c.requires.nodes c.requires.alone c.args.told c.in-New.is c.requires.told in
    c.requires.index.compared (asks b.snapshots c.args.nodes.now c.args.node.now c.requires.node new)

pub returns-in_ok-copy-in-Stored : goal.returns-in_ok-copy-in-Stored
returns-in_ok-copy-in-Stored c =
    let b = c.args.b.now in
    let s = c.snapshot_at.result.now in
    let known = stored_known b c.requires.book c.args.nodes.now c.args.node.now c.requires.node c.requires.alone.book c.in-Stored.at (c.requires.told ∙ ap Some c.in-Stored.is) s c.snapshot_at.ensures in
    known_is b c.requires.book c.args.nodes.now c.args.base.now c.args.category c.args.node.now c.requires.alone.book s known ∙ ap Some (sym c.in_ok-copy-in-Stored.ensures)

pub returns-in_ok-made-in-New : goal.returns-in_ok-made-in-New
returns-in_ok-made-in-New c =
    let b = c.args.b.now in
    let n = c.args.node.now in
    let new = is_new_then b c.requires.book c.args.nodes.now n c.requires.node c.requires.nodes c.requires.alone c.args.told c.in-New.is c.requires.told in
    unknown_is b c.requires.book c.args.nodes.now c.args.base.now c.args.category n c.requires.alone.book (new_missing b c.requires.book c.args.nodes.now n c.requires.node new)
    (get name_cmp c.args.index.now.objects) (c.requires.index.objects (asks b.snapshots c.args.nodes.now n c.requires.node new))
    c.in_ok-made-in-New.made c.in_ok-made-in-New.ensures
