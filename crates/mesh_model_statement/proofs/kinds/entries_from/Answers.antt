use Rattle.std.proofs.Common.{length, ◌-◌, sym, arith}
use Rattle.mesh_model_statement.specs.Faults.{bad}
use Rattle.mesh_model_statement.specs.Kinds.{entries_from, no_entries, kind_word}
use Rattle.mesh_model_statement.proofs.EntrySteps.{all_read, entry_read, entry_refused, too_many, is_no_length, some_length, refused_is}
use Rattle.mesh_model_statement.proofs.kinds.entries_from.Goals as goal

pub returns-then-is_empty : goal.returns-then-is_empty
returns-then-is_empty c =
    all_read (length c.args.tokens.now - c.loop.counter) c.args.file.now (bad c.args.at kind_word) c.args.kind c.loop.entries c.loop.rest.now (entries_from c.args.file.now (length c.args.tokens.now) (bad c.args.at kind_word) c.args.kind no_entries c.args.tokens.now)
    (is_no_length c.loop.rest.now (sym c.if-is_empty.ensures)) c.loop.invariant

pub returns-in-Err : goal.returns-in-Err
returns-in-Err c =
    entry_refused c.in-Err.fault (length c.args.tokens.now) c.loop.counter c.args.file.now (bad c.args.at kind_word) c.args.kind c.loop.entries c.loop.rest.now (entries_from c.args.file.now (length c.args.tokens.now) (bad c.args.at kind_word) c.args.kind no_entries c.args.tokens.now)
    c.loop-test.true (some_length c.loop.rest.now (sym c.if-is_empty.ensures)) c.in-Err.ensures c.loop.invariant

pub loop-preserved : goal.loop-preserved
loop-preserved c =
    entry_read (length c.args.tokens.now) c.loop.counter c.args.file.now (bad c.args.at kind_word) c.args.kind c.loop.entries c.one_entry.new.entries c.loop.rest.now c.in-Ok.left.now (entries_from c.args.file.now (length c.args.tokens.now) (bad c.args.at kind_word) c.args.kind no_entries c.args.tokens.now)
    c.loop-test.true (some_length c.loop.rest.now (sym c.if-is_empty.ensures)) c.in-Ok.ensures c.loop.invariant

pub returns-then-is_empty-2 : goal.returns-then-is_empty-2
returns-then-is_empty-2 c =
    all_read (length c.args.tokens.now - c.loop.counter) c.args.file.now (bad c.args.at kind_word) c.args.kind c.loop.entries c.loop.rest.now (entries_from c.args.file.now (length c.args.tokens.now) (bad c.args.at kind_word) c.args.kind no_entries c.args.tokens.now)
    (is_no_length c.loop.rest.now (sym c.if-is_empty-2.ensures)) c.loop.invariant

pub returns-else-is_empty-2 : goal.returns-else-is_empty-2
returns-else-is_empty-2 c =
    refused_is c.bad.result (bad c.args.at kind_word) (entries_from c.args.file.now (length c.args.tokens.now) (bad c.args.at kind_word) c.args.kind no_entries c.args.tokens.now)
    (too_many (length c.args.tokens.now) c.loop.counter c.args.file.now (bad c.args.at kind_word) c.args.kind c.loop.entries c.loop.rest.now (entries_from c.args.file.now (length c.args.tokens.now) (bad c.args.at kind_word) c.args.kind no_entries c.args.tokens.now)
    (omega arith) (some_length c.loop.rest.now (sym c.if-is_empty-2.ensures)) c.loop.invariant)
    c.bad.ensures
