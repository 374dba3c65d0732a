use Rattle.std.proofs.Common.{◌≡◌, ◌∷◌, [], ◌||◌, length, ap, ◌∙◌, arith, length-append}
use Rattle.std.specs.Option.{option_copied}
use Rattle.mesh_plan_due.specs.Stands.{any_at, is_named}
use Rattle.mesh_plan_due.proofs.Flags.{named_more}
use Rattle.mesh_plan_due.proofs.named.named_of.Goals as goal

pub loop-node-preserved : goal.loop-node-preserved
loop-node-preserved c =
    let flag : c.either.result ≡ (is_named (option_copied c.args.restate) c.node-item.result.own.name || any_at c.loop-node.made.items c.node-item.result.parents) =
    c.either.ensures ∙ (λ j. c.is_named-named.ensures j || (c.any_at-above.ensures ∙ (λ k. any_at (c.deref.ensures.value k) (c.as_slice.ensures k))) j) in
    record {
      named = c.in_ok-push.ensures.items ∙ named_more (option_copied c.args.restate) c.args.nodes.now c.loop-node.node-index c.node-item.result c.loop-node-test.true c.node-item.is c.loop-node.made.items c.loop-node.invariant.named c.either.result flag;
      long = ap length c.in_ok-push.ensures.items ∙ omega (arith, length-append c.loop-node.made.items (c.either.result ∷ []), c.loop-node.invariant.long);
    }
