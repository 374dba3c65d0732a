use Rattle.std.proofs.Common.{[], ◌∷◌, ◌++◌, ap, ap₂, sym, ◌∙◌}
use Rattle.std.specs.List.{flat_map}
use Rattle.std.proofs.lemmas.List.{take_all}
use Rattle.mesh_spec_model.specs.Closures.{closures}
use Rattle.mesh_lineage.specs.Unsteady.{unsteady_pair}
use Rattle.mesh_lineage.specs.Reaches.{node_pair, node_reach}
use Rattle.mesh_lineage.proofs.Nodes.{pairs_more, reaches_more}
use Rattle.mesh_lineage.proofs.projects.all_pairs.Goals as goal

pub loop-n-preserved : goal.loop-n-preserved
loop-n-preserved c =
    let before = c.loop-n.invariant in
    let more = c.in_ok-add_node.ensures in
    record {
      reaches = more.reaches ∙ ap₂ (λ rs n. rs ++ node_reach rs n ∷ []) before.reaches c.n-item.is ∙ sym (reaches_more c.args.nodes.now c.loop-n.n-index c.n-item.result c.loop-n-test.true);
      pairs = more.pairs ∙ (λ i. before.pairs i ++ node_pair (before.reaches i) (c.n-item.is i)) ∙ sym (pairs_more c.args.nodes.now c.loop-n.n-index c.n-item.result c.loop-n-test.true);
    }

pub returns : goal.returns
returns c = c.loop-n.invariant.pairs ∙ ap (λ l. flat_map unsteady_pair (closures l)) (take_all c.loop-n.n-index c.args.nodes.now c.loop-n-test.false)
