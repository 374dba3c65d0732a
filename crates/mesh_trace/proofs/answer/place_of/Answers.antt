use Rattle.std.proofs.Common.{ap, sym, ◌∙◌}
use Rattle.std.specs.Ordering.{is_eq}
use Rattle.mesh_trace.proofs.Naming.{named_here, named_later, named_nowhere}
use Rattle.mesh_trace.proofs.answer.place_of.Goals as goal

pub returns-then-is_eq-clause-there : goal.returns-then-is_eq-clause-there
returns-then-is_eq-clause-there c =
    named_here c.args.nodes.now c.args.name.now c.loop-i.i c.index-nodes-i.result c.loop-i-test.true c.index-nodes-i.is c.loop-i.invariant
    (ap is_eq (sym c.compare.ensures) ∙ sym c.is_eq.ensures ∙ c.if-is_eq.true)

pub loop-i-preserved : goal.loop-i-preserved
loop-i-preserved c =
    named_later c.args.nodes.now c.args.name.now c.loop-i.i c.index-nodes-i.result c.loop-i-test.true c.index-nodes-i.is c.loop-i.invariant
    (ap is_eq (sym c.compare.ensures) ∙ sym c.is_eq.ensures ∙ c.if-is_eq.false)

pub returns-clause-there : goal.returns-clause-there
returns-clause-there c = named_nowhere c.args.nodes.now c.args.name.now c.loop-i.i c.loop-i-test.false c.loop-i.invariant
