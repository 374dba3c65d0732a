use Rattle.std.proofs.Common.{◌∙◌, ap}
use Rattle.std.specs.Option.{is_some}
use Rattle.mesh_category.proofs.versions.Tells.{is_told}
use Rattle.mesh_category.proofs.versions.naming.named.Goals as goal

pub told_at-told-requires : goal.told_at-told-requires
told_at-told-requires c = ap is_some (c.requires.index.told c.args.node.now.fingerprint) ∙ is_told c.args.b.now.snapshots c.args.nodes.now c.args.node.now c.requires.node
