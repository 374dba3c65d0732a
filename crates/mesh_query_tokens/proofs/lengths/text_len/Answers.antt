use Rattle.std.proofs.Common.{arith, refl}
use borrow.Author.Tests.{eq-eqb, ne_eqb}
use Rattle.mesh_query_tokens.specs.Pieces.{text_len}
use Rattle.mesh_query_tokens.proofs.Steps.{text_closes, text_ends, text_goes_on, text_has_quote}
use Rattle.mesh_query_tokens.proofs.lengths.text_len.Goals as goal

pub loop-at-preserved-then-bytes-at-ne39 : goal.loop-at-preserved-then-bytes-at-ne39
loop-at-preserved-then-bytes-at-ne39 c = record {
  so_far = text_goes_on c.args.bytes.now c.loop-at.at _ (text_len c.args.bytes.now) c.loop-at-test.true refl (ne_eqb _ 39 c.if-bytes-at-ne39.true) c.loop-at.invariant.so_far;
  within = omega arith;
}

pub loop-at-preserved : goal.loop-at-preserved
loop-at-preserved c = record {
  so_far = text_has_quote c.args.bytes.now c.loop-at.at _ _ (text_len c.args.bytes.now) (omega arith) refl refl (eq-eqb _ 39 c.if-bytes-at-ne39.false) (eq-eqb _ 39 c.if-bytes-at-ne39-2.false) c.loop-at.invariant.so_far;
  within = omega arith;
}

pub returns-then-at-bytes-clause-value : goal.returns-then-at-bytes-clause-value
returns-then-at-bytes-clause-value c = text_ends c.args.bytes.now c.loop-at.at _ (text_len c.args.bytes.now) c.if-at-bytes.true refl (eq-eqb _ 39 c.if-bytes-at-ne39.false) c.loop-at.invariant.so_far

pub returns-then-bytes-at-ne39-2-clause-value : goal.returns-then-bytes-at-ne39-2-clause-value
returns-then-bytes-at-ne39-2-clause-value c = text_closes c.args.bytes.now c.loop-at.at _ _ (text_len c.args.bytes.now) (omega arith) refl refl (eq-eqb _ 39 c.if-bytes-at-ne39.false) (ne_eqb _ 39 c.if-bytes-at-ne39-2.true) c.loop-at.invariant.so_far
