use Rattle.std.proofs.Common.{List, OnOk, length, sym, ap, ◌∙◌, subst}
use Rattle.std.specs.List.{All}
use Rattle.mesh_base.specs.declared.snapshots.Node.{Node}
use Rattle.mesh_spec_changes.specs.listed.Listed.{listed}
use Rattle.mesh_category.specs.versions.Clashes.{IsAlone}
use Rattle.mesh_category.proofs.versions.Steps.{have_as_many}
use Rattle.mesh_category.proofs.versions.naming.versions.Goals as goal

pub all_named-requires-clause-categories : goal.all_named-requires-clause-categories
all_named-requires-clause-categories c = ap length c.as_slice-4.ensures ∙ have_as_many (listed c.args.b.now.snapshots c.args.base.now) c.args.p.now.nodes c.args.c.now.of c.requires.categories ∙ sym (ap length c.as_slice-nodes.ensures.nodes)

pub returns-clause-alone : goal.returns-clause-alone
returns-clause-alone c =
    subst (λ (ns : List Node). OnOk c.all_named.result (All (IsAlone c.args.b.now.snapshots ns) ns)) c.as_slice-nodes.ensures.nodes c.all_named.ensures.alone
