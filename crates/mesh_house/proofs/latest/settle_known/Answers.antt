use Rattle.std.proofs.Common.{◌≡◌, length, rules}
use Rattle.mesh_house.proofs.Thinned.{none_of}
use Rattle.mesh_house.proofs.Known.{known_settled}
use Rattle.mesh_house.proofs.latest.settle_known.Goals as goal

pub returns-clause-known : goal.returns-clause-known
returns-clause-known c =
    known_settled c.args.world.now c.settle.new.world c.args.gone.now c.is_empty.result c.args.latest.now c.keep.new.latest
    (λ h. let none : length c.args.gone.now.objects ≡ 0 = search rules in none_of c.args.gone.now.objects none)
    c.settle.ensures.world c.keep.ensures c.requires
