use Rattle.mesh_lineage.proofs.Gathered.{gathered}
use Rattle.mesh_lineage.proofs.readings.add_select_columns.Goals as goal

pub returns : goal.returns
returns c = gathered c.args.s.now c.as_slice.result.now c.as_slice-2.result.now c.as_slice-3.result.now c.args.places.now c.add_items_columns.new.places c.add_on_columns.new.places c.add_columns_in.new.places c.add_all_columns.new.places c.add_columns_in-2.new.places
    c.as_slice.ensures c.as_slice-2.ensures c.as_slice-3.ensures c.in_ok-add_items_columns.ensures c.in_ok-add_on_columns.ensures c.in_ok-add_columns_in.ensures c.in_ok-add_all_columns.ensures c.in_ok-add_columns_in-2.ensures
