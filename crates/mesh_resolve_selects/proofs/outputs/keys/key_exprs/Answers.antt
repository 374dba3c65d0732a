use Rattle.std.proofs.Common.{[], ap, ◌∙◌}
use Rattle.std.proofs.lemmas.List.{take_all}
use Rattle.mesh_resolve_selects.specs.outputs.Keys.{key_expr, key_exprs}
use Rattle.mesh_resolve_selects.proofs.outputs.Loops.{some_made}
use Rattle.mesh_resolve_selects.proofs.outputs.keys.key_exprs.Goals as goal

pub loop-k-preserved : goal.loop-k-preserved
loop-k-preserved c =
    some_made key_expr [] c.loop-k.made c.add_key_expr.new.made c.args.keys.now c.loop-k.k-index c.k-item.result
    c.loop-k-test.true c.k-item.is c.loop-k.invariant c.in_ok-add_key_expr.ensures

pub returns : goal.returns
returns c = c.loop-k.invariant ∙ ap key_exprs (take_all c.loop-k.k-index c.args.keys.now c.loop-k-test.false)
