use Rattle.std.proofs.Common.{[], length, arith}
use Rattle.mesh_audit_files.specs.text.Entries.{columns_from}
use Rattle.mesh_audit_files.proofs.text.ColumnSteps.{last_read, none_read, one_read, too_many}
use Rattle.mesh_audit_files.proofs.text.entries.columns_from.Goals as goal

pub returns-in_default : goal.returns-in_default
returns-in_default c =
    none_read (length c.args.tokens.now) c.loop.counter c.loop.columns c.loop.rest.now (columns_from (length c.args.tokens.now) [] c.args.tokens.now) c.loop-test.true (rw c.in_default.is at c.one_column.ensures) c.loop.invariant

pub returns-then-is_last : goal.returns-then-is_last
returns-then-is_last c =
    rw (c.in_ok-push.ensures.ok, c.in_ok-name.ensures) (last_read (length c.args.tokens.now) c.loop.counter c.loop.columns c.loop.rest.now c.in-Some.name.now c.in-Some.is_last c.in-Some.more.now (columns_from (length c.args.tokens.now) [] c.args.tokens.now)
    c.loop-test.true (rw c.in-Some.is at c.one_column.ensures) c.if-is_last.true c.loop.invariant)

pub loop-preserved : goal.loop-preserved
loop-preserved c =
    rw (c.in_ok-push.ensures.ok, c.in_ok-name.ensures) (one_read (length c.args.tokens.now) c.loop.counter c.loop.columns c.loop.rest.now c.in-Some.name.now c.in-Some.is_last c.in-Some.more.now (columns_from (length c.args.tokens.now) [] c.args.tokens.now)
    c.loop-test.true (rw c.in-Some.is at c.one_column.ensures) c.if-is_last.false c.loop.invariant)

pub returns : goal.returns
returns c = too_many (length c.args.tokens.now) c.loop.counter c.loop.columns c.loop.rest.now (columns_from (length c.args.tokens.now) [] c.args.tokens.now) (omega arith) c.loop.invariant
