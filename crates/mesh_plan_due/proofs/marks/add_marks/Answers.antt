use Rattle.mesh_plan_due.proofs.Numbered.{done_all, done_more, done_to}
use Rattle.mesh_plan_due.proofs.marks.add_marks.Goals as goal

pub add_mark-requires : goal.add_mark-requires
add_mark-requires c = done_to c.args.spots.now c.args.row.now c.args.place c.args.word c.args.first c.requires.word c.loop-rest.rest c.loop-rest.made c.loop-rest.invariant c.take_bit-bit.result c.take_bit-bit.ensures.few c.take_bit-bit.ensures.lowest

pub loop-rest-preserved : goal.loop-rest-preserved
loop-rest-preserved c =
    done_more c.args.spots.now c.args.row.now c.args.place c.args.word c.args.first c.requires.word c.loop-rest.rest c.loop-rest.made c.loop-rest.invariant c.take_bit-bit.result c.take_bit-bit.ensures.few c.take_bit-bit.ensures.lowest
    c.take_bit-bit.new.word c.take_bit-bit.ensures.rest c.add_mark.new.made c.in_ok-add_mark.ensures

pub returns : goal.returns
returns c = done_all c.args.spots.now c.args.row.now c.args.place c.args.word c.args.first c.requires.word c.loop-rest.rest c.loop-rest.made c.loop-rest.invariant c.loop-rest-test.false
