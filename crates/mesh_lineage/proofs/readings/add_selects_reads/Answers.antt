use Rattle.mesh_law_query.specs.Reads.{select_readings}
use Rattle.mesh_lineage.proofs.Alike.{all_taken, one_more}
use Rattle.mesh_lineage.proofs.readings.add_selects_reads.Goals as goal

pub loop-s-preserved : goal.loop-s-preserved
loop-s-preserved c =
    one_more select_readings c.args.selects.now c.loop-s.s-index c.s-item.result c.args.made.now c.loop-s.made c.add_select_reads.new.made
    c.loop-s-test.true c.s-item.is c.loop-s.invariant c.in_ok-add_select_reads.ensures

pub returns : goal.returns
returns c = all_taken select_readings c.args.selects.now c.loop-s.s-index c.args.made.now c.loop-s.made c.loop-s-test.false c.loop-s.invariant
