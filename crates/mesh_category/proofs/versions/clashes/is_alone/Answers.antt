use Rattle.std.proofs.Common.{◌≡◌, Some, true, false, sym, ◌∙◌, ap}
use Rattle.mesh_category.proofs.versions.Tells.{new_is_alone, shared_clashes, stored_clashes, stored_is_alone, stored_within}
use Rattle.mesh_category.proofs.versions.clashes.is_alone.Goals as goal

pub snapshot_at-requires : goal.snapshot_at-requires
snapshot_at-requires c = stored_within c.args.b.now c.requires.book c.args.nodes.now c.args.node.now c.requires.node c.in-Stored.at (c.requires.told ∙ ap Some c.in-Stored.is)

pub returns-in-New-clause-yes : goal.returns-in-New-clause-yes
returns-in-New-clause-yes c t = new_is_alone c.args.b.now c.requires.book c.args.nodes.now c.args.node.now c.requires.node c.requires.nodes (c.requires.told ∙ ap Some c.in-New.is)

pub returns-in-Stored-clause-yes : goal.returns-in-Stored-clause-yes
returns-in-Stored-clause-yes c t =
    stored_is_alone c.args.b.now c.requires.book c.args.nodes.now c.args.node.now c.requires.node c.requires.nodes c.in-Stored.at (c.requires.told ∙ ap Some c.in-Stored.is)
    c.snapshot_at.result.now c.snapshot_at.ensures (c.is_of.ensures.0 t)

pub returns-in-Stored-clause-no : goal.returns-in-Stored-clause-no
returns-in-Stored-clause-no c t =
    stored_clashes c.args.b.now c.requires.book c.args.nodes.now c.args.node.now c.requires.node c.requires.nodes c.in-Stored.at (c.requires.told ∙ ap Some c.in-Stored.is)
    c.snapshot_at.result.now c.snapshot_at.ensures (λ is. let clash : true ≡ false = sym (c.is_of.ensures.1 is) ∙ t in absurd (cc))

pub returns-in-Shared-clause-no : goal.returns-in-Shared-clause-no
returns-in-Shared-clause-no c t = shared_clashes c.args.b.now c.requires.book c.args.nodes.now c.args.node.now c.requires.node c.requires.nodes (c.requires.told ∙ ap Some c.in-Shared.is)
