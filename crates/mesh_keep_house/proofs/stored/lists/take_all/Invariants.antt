use Rattle.std.proofs.Common.{◌≡◌, [], drop}
use Rattle.mesh_keep.specs.Said.{thing_in, things_in}
use Rattle.mesh_keep_house.proofs.stored.lists.take_all.Given as goal

abbrev pub invariant-loop-record : goal.invariant-loop-record
invariant-loop-record g l =
    things_in g.T.Keyed.order g.T.Keyed.key (thing_in g.T.Thing.said g.T.Thing.name g.T.Thing.may) l.things (drop l.record-index l.records)
    ≡ things_in g.T.Keyed.order g.T.Keyed.key (thing_in g.T.Thing.said g.T.Thing.name g.T.Thing.may) [] l.records
