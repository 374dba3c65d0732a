use Rattle.std.proofs.Common.{◌++◌, subst}
use Rattle.std.specs.List.{flat_map}
use Rattle.mesh_law_query.specs.Reads.{selects_readings}
use Rattle.mesh_lineage.specs.Alike.{IsAlike}
use Rattle.mesh_lineage.proofs.Alike.{two_parts}
use Rattle.mesh_lineage.proofs.readings.query_reads.Goals as goal

pub returns : goal.returns
returns c =
    two_parts c.new-made.result c.add_ctes_reads.new.made c.add_selects_reads.new.made _ _ c.new-made.ensures
    (subst (λ l. IsAlike c.add_ctes_reads.new.made (c.new-made.result ++ flat_map selects_readings l)) c.as_slice.ensures c.in_ok-add_ctes_reads.ensures)
    (subst (λ l. IsAlike c.add_selects_reads.new.made (c.add_ctes_reads.new.made ++ selects_readings l)) c.as_slice-2.ensures c.in_ok-add_selects_reads.ensures)
