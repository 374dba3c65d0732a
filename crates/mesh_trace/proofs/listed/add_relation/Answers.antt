use Rattle.std.specs.BTreeSet.{contains}
use Rattle.mesh_base_values.specs.Names.{name_cmp}
use Rattle.mesh_trace.proofs.Listing.{one_added}
use Rattle.mesh_trace.proofs.listed.add_relation.Goals as goal

pub returns-in_ok-insert-in-Some : goal.returns-in_ok-insert-in-Some
returns-in_ok-insert-in-Some c name =
    one_added c.args.t.now c.in_ok-relation-in-Some.relation name _ (contains name_cmp c.insert.new.self name) (contains name_cmp c.args.set.now name) c.in-Some.is c.in_ok-relation-in-Some.ensures
    (c.in_ok-insert-in-Some.ensures.updates.0 name)
