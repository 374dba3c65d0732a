use Rattle.std.proofs.Common.{[], arith, sym, ◌∙◌, ap}
use Rattle.mesh_query_tokens.specs.Pieces.{piece_of}
use Rattle.mesh_query_tokens.specs.Text.{tokens_from}
use Rattle.mesh_query_tokens.proofs.Steps.{onward, refused, read_from_first, at_end}
use Rattle.mesh_query_tokens.proofs.read.tokens_of.Goals as goal

pub returns-in_err-kind : goal.returns-in_err-kind
returns-in_err-kind c = refused c.args.bytes.now c.split_at.result.1.now c.loop-at.made c.loop-at.at c.in_err-kind.field-0.0 c.from_residual.result c.loop-at.invariant.small c.loop-at-test.true c.split_at.ensures.back c.loop-at.invariant.so_far c.in_err-kind.ensures.gives c.from_residual.ensures.1

pub loop-at-preserved : goal.loop-at-preserved
loop-at-preserved c = record {
  so_far = onward c.args.bytes.now c.loop-at.made c.put.new.made c.loop-at.at c.in_ok-kind.length c.in_ok-kind.kind (tokens_from [] 0 0 c.args.bytes.now)
      (ap (piece_of c.loop-at.at) (sym c.split_at.ensures.back) ∙ c.in_ok-kind.ensures.gives) c.in_ok-kind.ensures.within.0 c.in_ok-put.ensures c.loop-at.invariant.so_far;
  within = omega (c.in_ok-kind.ensures.within.1, c.split_at.ensures.back_len, c.loop-at-test.true, arith);
  small = c.loop-at.invariant.small;
}

pub returns : goal.returns
returns c = read_from_first c.args.bytes.now c.loop-at.invariant.small ∙ sym c.loop-at.invariant.so_far ∙ at_end c.loop-at.made c.loop-at.at c.args.bytes.now c.loop-at-test.false
