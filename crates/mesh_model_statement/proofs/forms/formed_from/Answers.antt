use Rattle.std.proofs.Common.{◌-◌, length, sym, arith}
use Rattle.mesh_model_statement.specs.Faults.{bad}
use Rattle.mesh_model_statement.specs.Kinds.{names_from, complete, kind_word}
use Rattle.mesh_model_statement.proofs.EntrySteps.{is_no_length, some_length, refused_is}
use Rattle.mesh_model_statement.proofs.NameSteps.{all_read, name_read, name_refused, too_many}
use Rattle.mesh_model_statement.proofs.forms.formed_from.Goals as goal

pub returns-then-is_empty : goal.returns-then-is_empty
returns-then-is_empty c =
    rw (all_read (length c.args.tokens.now - c.loop.counter) (bad c.args.at kind_word) c.args.kind c.loop.found c.loop.rest.now (complete (bad c.args.at kind_word) c.args.kind (names_from (length c.args.tokens.now) (bad c.args.at kind_word) c.args.tokens.now))
    (is_no_length c.loop.rest.now (sym c.if-is_empty.ensures)) c.loop.invariant) at c.found_or_fault.ensures

pub returns-in-Err : goal.returns-in-Err
returns-in-Err c =
    name_refused c.in-Err.fault (length c.args.tokens.now) c.loop.counter (bad c.args.at kind_word) c.args.kind c.loop.found c.loop.rest.now (complete (bad c.args.at kind_word) c.args.kind (names_from (length c.args.tokens.now) (bad c.args.at kind_word) c.args.tokens.now))
    c.loop-test.true (some_length c.loop.rest.now (sym c.if-is_empty.ensures)) c.in-Err.ensures c.loop.invariant

pub loop-preserved : goal.loop-preserved
loop-preserved c =
    rw c.is_found-found.ensures (name_read (length c.args.tokens.now) c.loop.counter (bad c.args.at kind_word) c.args.kind c.loop.found c.in-Ok.name.now c.loop.rest.now c.in-Ok.left.now (complete (bad c.args.at kind_word) c.args.kind (names_from (length c.args.tokens.now) (bad c.args.at kind_word) c.args.tokens.now))
    c.loop-test.true (some_length c.loop.rest.now (sym c.if-is_empty.ensures)) c.in-Ok.ensures c.loop.invariant)

pub returns-then-is_empty-2 : goal.returns-then-is_empty-2
returns-then-is_empty-2 c =
    rw (all_read (length c.args.tokens.now - c.loop.counter) (bad c.args.at kind_word) c.args.kind c.loop.found c.loop.rest.now (complete (bad c.args.at kind_word) c.args.kind (names_from (length c.args.tokens.now) (bad c.args.at kind_word) c.args.tokens.now))
    (is_no_length c.loop.rest.now (sym c.if-is_empty-2.ensures)) c.loop.invariant) at c.found_or_fault-then-is_empty-2.ensures

pub returns-else-is_empty-2 : goal.returns-else-is_empty-2
returns-else-is_empty-2 c =
    refused_is c.bad.result (bad c.args.at kind_word) (complete (bad c.args.at kind_word) c.args.kind (names_from (length c.args.tokens.now) (bad c.args.at kind_word) c.args.tokens.now))
    (too_many (length c.args.tokens.now) c.loop.counter (bad c.args.at kind_word) c.args.kind c.loop.found c.loop.rest.now (complete (bad c.args.at kind_word) c.args.kind (names_from (length c.args.tokens.now) (bad c.args.at kind_word) c.args.tokens.now))
    (omega arith) (some_length c.loop.rest.now (sym c.if-is_empty-2.ensures)) c.loop.invariant)
    c.bad.ensures
