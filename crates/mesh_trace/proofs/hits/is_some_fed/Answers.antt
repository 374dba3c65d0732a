use Rattle.std.proofs.Common.{subst, ◌∙◌}
use Rattle.mesh_lineage.specs.Alike.{IsAlike}
use Rattle.mesh_trace.proofs.NoHits.{same_fed}
use Rattle.mesh_trace.specs.Impacts.{column_names}
use Rattle.mesh_trace.proofs.hits.is_some_fed.Goals as goal

pub returns : goal.returns
returns c =
    c.in_ok-fed.ensures
    ∙ same_fed c.args.nodes.now c.args.hits.now c.args.n.now c.args.source.now c.in_ok-wanted.wanted.keys (column_names c.args.n.now.own)
    (subst (λ l. IsAlike c.in_ok-wanted.wanted.keys l) c.in_ok-names.ensures c.in_ok-wanted.ensures)
