use Rattle.std.proofs.Common.{sym, [], arith}
use Rattle.mesh_query_tokens.specs.bounds.Brackets.{value_len}
use Rattle.mesh_query_tokens.proofs.bounds.Steps.{ends, goes, fails, runs_out}
use Rattle.mesh_query_tokens.proofs.bounds.brackets.value_len.Goals as goal

pub returns-then-ends_value : goal.returns-then-ends_value
returns-then-ends_value c =
    record {
      value = ends c.args.any c.loop-i.last c.loop-i.held c.args.tokens.now c.loop-i.i c.index-tokens-i.result (value_len c.args.any c.args.before [] c.args.tokens.now)
          c.loop-i-test.true c.index-tokens-i.is (sym c.if-ends_value.ensures) c.loop-i.invariant;
      within = omega (c.loop-i-test.true, arith);
    }

pub returns-in-Err : goal.returns-in-Err
returns-in-Err c =
    record {
      value = fails c.in-Err.fault c.args.any c.loop-i.last c.loop-i.held c.args.tokens.now c.loop-i.i c.index-tokens-i.result (value_len c.args.any c.args.before [] c.args.tokens.now)
          c.loop-i-test.true c.index-tokens-i.is (sym c.if-ends_value.ensures) c.in-Err.ensures c.loop-i.invariant;
      within = tt;
    }

pub loop-i-preserved : goal.loop-i-preserved
loop-i-preserved c =
    goes c.args.any c.loop-i.last c.loop-i.held c.in-Ok.more c.args.tokens.now c.loop-i.i c.index-tokens-i.result (value_len c.args.any c.args.before [] c.args.tokens.now)
    c.loop-i-test.true c.index-tokens-i.is (sym c.if-ends_value.ensures) c.in-Ok.ensures c.loop-i.invariant

pub returns-clause-value : goal.returns-clause-value
returns-clause-value c =
    rw c.broken.ensures (runs_out c.args.any c.loop-i.last c.loop-i.held c.args.tokens.now c.loop-i.i (value_len c.args.any c.args.before [] c.args.tokens.now) (omega arith) c.loop-i.invariant)
