use Rattle.std.proofs.Common.{length, ◌-◌, [], sym, arith}
use Rattle.mesh_model_statement.specs.Values.{columns_from}
use Rattle.mesh_model_statement.proofs.ColumnSteps.{all_read, column_read, column_missing, too_many}
use Rattle.mesh_model_statement.proofs.EntrySteps.{is_no_length, some_length}
use Rattle.mesh_model_statement.proofs.values.columns_from.Goals as goal

pub returns-then-is_empty : goal.returns-then-is_empty
returns-then-is_empty c =
    all_read (length c.args.tokens.now - c.loop.counter) c.loop.columns c.loop.rest.now (columns_from (length c.args.tokens.now) [] c.args.tokens.now) (is_no_length c.loop.rest.now (sym c.if-is_empty.ensures)) c.loop.invariant

pub returns-in_default : goal.returns-in_default
returns-in_default c =
    column_missing (length c.args.tokens.now) c.loop.counter c.loop.columns c.loop.rest.now (columns_from (length c.args.tokens.now) [] c.args.tokens.now)
    c.loop-test.true (some_length c.loop.rest.now (sym c.if-is_empty.ensures)) (rw c.in_default.is at c.in_ok-column.ensures) c.loop.invariant

pub loop-preserved : goal.loop-preserved
loop-preserved c =
    rw c.in_ok-push.ensures.ok (column_read (length c.args.tokens.now) c.loop.counter c.loop.columns c.in-Some.column c.loop.rest.now c.in-Some.left.now (columns_from (length c.args.tokens.now) [] c.args.tokens.now)
    c.loop-test.true (some_length c.loop.rest.now (sym c.if-is_empty.ensures)) (rw c.in-Some.is at c.in_ok-column.ensures) c.loop.invariant)

pub returns-then-is_empty-2 : goal.returns-then-is_empty-2
returns-then-is_empty-2 c =
    all_read (length c.args.tokens.now - c.loop.counter) c.loop.columns c.loop.rest.now (columns_from (length c.args.tokens.now) [] c.args.tokens.now) (is_no_length c.loop.rest.now (sym c.if-is_empty-2.ensures)) c.loop.invariant

pub returns : goal.returns
returns c =
    too_many (length c.args.tokens.now) c.loop.counter c.loop.columns c.loop.rest.now (columns_from (length c.args.tokens.now) [] c.args.tokens.now) (omega arith) (some_length c.loop.rest.now (sym c.if-is_empty-2.ensures)) c.loop.invariant
