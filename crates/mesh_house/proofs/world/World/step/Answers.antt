use Rattle.std.proofs.Common.{◌∙◌, ap, sym}
use Rattle.std.proofs.lemmas.Result.{on_ok_weaker}
use Rattle.mesh_house.specs.Step.{with_book}
use Rattle.mesh_house.proofs.Booked.{step_booked}
use Rattle.mesh_house.proofs.world.World.step.Goals as goal

pub returns-in_default-clause-ok : goal.returns-in_default-clause-ok
returns-in_default-clause-ok c =
    let other = c.in_default in
    on_ok_weaker c.change_book.result
    (λ d. ap (with_book c.args.self.now) d
    ∙ sym (step_booked c.args.self.now c.args.change.now other.not-Load other.not-MakeTable other.not-MakeView other.not-ReplaceRows other.not-WriteRange other.not-PointView other.not-DropView other.not-DropObject))
    c.change_book.ensures.ok
