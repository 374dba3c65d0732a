use Rattle.std.proofs.Common.{length, arith}
use Rattle.mesh_model_statement.specs.Statement.{properties}
use Rattle.mesh_model_statement.proofs.PropertySteps.{last_read, one_read, one_refused, too_many}
use Rattle.mesh_model_statement.proofs.properties.properties.Goals as goal

pub returns-then-is_last : goal.returns-then-is_last
returns-then-is_last c =
    last_read c.args.file.now (length c.args.tokens.now) c.loop.counter c.loop.parts c.loop.before c.loop.rest.now c.in-Ok.is_last
    (record { parts = c.one_property.new.parts; before = c.in-Ok.end; rest = c.in-Ok.left.now })
    (properties c.args.file.now (length c.args.tokens.now) c.args.parts.now c.args.before c.args.tokens.now) c.loop-test.true c.in-Ok.ensures c.if-is_last.true c.loop.invariant

pub returns-in-Err : goal.returns-in-Err
returns-in-Err c =
    one_refused c.in-Err.fault c.args.file.now (length c.args.tokens.now) c.loop.counter c.loop.parts c.loop.before c.loop.rest.now
    (properties c.args.file.now (length c.args.tokens.now) c.args.parts.now c.args.before c.args.tokens.now) c.loop-test.true c.in-Err.ensures c.loop.invariant

pub loop-preserved : goal.loop-preserved
loop-preserved c =
    one_read c.args.file.now (length c.args.tokens.now) c.loop.counter c.loop.parts c.loop.before c.loop.rest.now c.in-Ok.is_last
    (record { parts = c.one_property.new.parts; before = c.in-Ok.end; rest = c.in-Ok.left.now })
    (properties c.args.file.now (length c.args.tokens.now) c.args.parts.now c.args.before c.args.tokens.now) c.loop-test.true c.in-Ok.ensures c.if-is_last.false c.loop.invariant

pub returns : goal.returns
returns c =
    rw c.broken.ensures (too_many c.args.file.now (length c.args.tokens.now) c.loop.counter c.loop.parts c.loop.before c.loop.rest.now
    (properties c.args.file.now (length c.args.tokens.now) c.args.parts.now c.args.before c.args.tokens.now) (omega arith) c.loop.invariant)
