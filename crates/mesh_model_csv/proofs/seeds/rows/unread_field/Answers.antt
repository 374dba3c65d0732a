use Rattle.std.proofs.Common.{sym, ◌∙◌}
use Rattle.mesh_model_csv.specs.seeds.Seeds.{unread_field}
use Rattle.mesh_model_csv.proofs.seeds.RowSteps.{unread_goes, unread_stops, unread_short, unread_ends}
use Rattle.mesh_model_csv.proofs.seeds.rows.unread_field.Goals as goal

pub returns-in_default : goal.returns-in_default
returns-in_default c = sym (unread_short c.args.kinds.now c.args.fields.now c.loop-i.i (unread_field 1 c.args.kinds.now c.args.fields.now) (sym (rw c.in_default.is at c.get.ensures)) c.loop-i.invariant)

pub returns-then-not-branch : goal.returns-then-not-branch
returns-then-not-branch c =
    sym (unread_stops _ c.args.kinds.now c.args.fields.now c.loop-i.i c.in-Some.field.now (unread_field 1 c.args.kinds.now c.args.fields.now)
    c.loop-i-test.true (sym c.in-Some.ensures) (sym c.in_ok-is_read.ensures ∙ c.if-not-branch.true) c.loop-i.invariant)

pub loop-i-preserved : goal.loop-i-preserved
loop-i-preserved c =
    unread_goes _ c.args.kinds.now c.args.fields.now c.loop-i.i c.in-Some.field.now (unread_field 1 c.args.kinds.now c.args.fields.now)
    c.loop-i-test.true (sym c.in-Some.ensures) (sym c.in_ok-is_read.ensures ∙ c.if-not-branch.false) c.loop-i.invariant

pub returns : goal.returns
returns c = sym (unread_ends c.args.kinds.now c.args.fields.now c.loop-i.i (unread_field 1 c.args.kinds.now c.args.fields.now) c.loop-i-test.false c.loop-i.invariant)
