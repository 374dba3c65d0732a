use Rattle.std.proofs.Common.{length, arith}
use Rattle.mesh_audit_files.specs.text.Statement.{properties}
use Rattle.mesh_audit_files.proofs.text.PropertySteps.{last_read, one_read, one_refused, too_many}
use Rattle.mesh_audit_files.proofs.text.statement.properties.Goals as goal

pub returns-then-is_last : goal.returns-then-is_last
returns-then-is_last c =
    last_read c.args.taken.now (length c.args.tokens.now) c.loop.counter c.loop.head c.loop.before c.loop.rest.now c.in-Ok.is_last
    (record { head = c.one_property.new.head; before = c.in-Ok.end; rest = c.in-Ok.left.now })
    (properties c.args.taken.now (length c.args.tokens.now) c.args.head.now c.args.before c.args.tokens.now) c.loop-test.true c.in-Ok.ensures c.if-is_last.true c.loop.invariant

pub returns-in-Err : goal.returns-in-Err
returns-in-Err c =
    one_refused c.in-Err.fault c.args.taken.now (length c.args.tokens.now) c.loop.counter c.loop.head c.loop.before c.loop.rest.now
    (properties c.args.taken.now (length c.args.tokens.now) c.args.head.now c.args.before c.args.tokens.now) c.loop-test.true c.in-Err.ensures c.loop.invariant

pub loop-preserved : goal.loop-preserved
loop-preserved c =
    one_read c.args.taken.now (length c.args.tokens.now) c.loop.counter c.loop.head c.loop.before c.loop.rest.now c.in-Ok.is_last
    (record { head = c.one_property.new.head; before = c.in-Ok.end; rest = c.in-Ok.left.now })
    (properties c.args.taken.now (length c.args.tokens.now) c.args.head.now c.args.before c.args.tokens.now) c.loop-test.true c.in-Ok.ensures c.if-is_last.false c.loop.invariant

pub returns : goal.returns
returns c =
    rw c.broken.ensures (too_many c.args.taken.now (length c.args.tokens.now) c.loop.counter c.loop.head c.loop.before c.loop.rest.now
    (properties c.args.taken.now (length c.args.tokens.now) c.args.head.now c.args.before c.args.tokens.now) (omega arith) c.loop.invariant)
