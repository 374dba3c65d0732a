use Rattle.std.proofs.Common.{◌++◌, subst}
use Rattle.mesh_law_query.specs.Reads.{selects_readings}
use Rattle.mesh_lineage.specs.Alike.{IsAlike}
use Rattle.mesh_lineage.proofs.Alike.{all_taken, one_more}
use Rattle.mesh_lineage.proofs.readings.add_ctes_reads.Goals as goal

pub loop-c-preserved : goal.loop-c-preserved
loop-c-preserved c =
    one_more selects_readings c.args.ctes.now c.loop-c.c-index c.c-item.result c.args.made.now c.loop-c.made c.add_selects_reads.new.made
    c.loop-c-test.true c.c-item.is c.loop-c.invariant
    (subst (λ l. IsAlike c.add_selects_reads.new.made (c.loop-c.made ++ selects_readings l)) c.as_slice.ensures c.in_ok-add_selects_reads.ensures)

pub returns : goal.returns
returns c = all_taken selects_readings c.args.ctes.now c.loop-c.c-index c.args.made.now c.loop-c.made c.loop-c-test.false c.loop-c.invariant
