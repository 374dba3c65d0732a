use Rattle.std.proofs.Common.{sym, ◌∙◌, arith}
use Rattle.mesh_resolve_selects.proofs.outputs.Room.{no_room}
use Rattle.mesh_resolve_selects.proofs.outputs.outputs.has_room.Goals as goal

pub returns-then-len-room : goal.returns-then-len-room
returns-then-len-room c =
    no_room c.args.at c.args.item.now c.args.from.now c.args.taken c.loop-d.room c.loop-d.d-index c.d-item.result c.loop-d-test.true c.d-item.is (sym c.answers_to.ensures ∙ c.if-answers_to.true) c.loop-d.invariant (omega arith)
