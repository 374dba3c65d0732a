use Rattle.std.proofs.Common.{◌≡◌, ◌++◌, ◌∷◌, [], List, length, map, ap, ◌∙◌, arith, length-append}
use Rattle.mesh_trace.specs.Impacts.{column_trace, node_hit}
use Rattle.mesh_trace.specs.declared.hits.Hit.{Hit}
use Rattle.mesh_trace.proofs.Impacting.{fed_all, fed_more, hits_more}
use Rattle.mesh_trace.proofs.impacts.fed_by.Goals as goal

pub loop-n-preserved : goal.loop-n-preserved
loop-n-preserved c =
    let nodes = c.args.nodes.now in
    let source = c.args.source.now in
    let hits : List Hit = c.loop-n.hits.items in
    let n = c.n-item.result in
    let h : Hit = c.in_ok-hit.hit in
    let i = c.loop-n.invariant in
    let pushed = c.in_ok-push.ensures.items in
    let made : h ≡ node_hit nodes hits n source = c.in_ok-hit.ensures ∙ ap (λ (l : List Hit). node_hit nodes l n source) c.deref.ensures.value in
    record {
      long = ap length pushed ∙ length-append hits (h ∷ []) ∙ omega (arith, i.long);
      known = hits_more nodes c.requires source hits c.loop-n.n-index i.long n c.loop-n-test.true c.n-item.is i.known c.push.new.self.items h pushed made;
      fed = fed_more nodes c.requires source hits c.loop-n.n-index i.long n c.loop-n-test.true c.n-item.is i.known c.loop-n.found c.add_columns.new.found h made
          (c.in_ok-add_columns.ensures ∙ ap (λ l. c.loop-n.found ++ map (column_trace n.own.name) l) c.as_slice.ensures) i.fed;
    }

pub returns : goal.returns
returns c = fed_all c.args.nodes.now c.args.source.now c.loop-n.n-index c.loop-n.found c.loop-n-test.false c.loop-n.invariant.fed
