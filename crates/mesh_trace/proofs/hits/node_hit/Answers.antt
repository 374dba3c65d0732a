use Rattle.std.proofs.Common.{◌≡◌, false, [], sym, ◌∙◌}
use Rattle.mesh_trace.proofs.NoHits.{none_hit}
use Rattle.mesh_trace.proofs.hits.node_hit.Goals as goal

pub returns-then-not-branch : goal.returns-then-not-branch
returns-then-not-branch c =
    let empty : record { all = false; columns = c.new.result } ≡ record { all = false; columns = [] } = (λ i. record { all = false; columns = c.new.ensures i }) in
    empty ∙ sym (none_hit c.args.nodes.now c.args.hits.now c.args.n.now c.args.source.now c.in_ok-is_some_fed.field-0 c.in_ok-is_some_fed.ensures c.if-not-branch.true)
