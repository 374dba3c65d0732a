use Rattle.std.proofs.Common.{◌≡◌, length, sym, rules}
use Rattle.mesh_house.proofs.Thinned.{outside_empty, none_of}
use Rattle.mesh_house.proofs.outside.thin.Goals as goal

pub returns-then-is_empty : goal.returns-then-is_empty
returns-then-is_empty g c =
    let none : length c.args.keys.now ≡ 0 = search rules in
    sym (outside_empty g.T.Keyed.order g.T.Keyed.key c.args.keys.now c.args.list.now (none_of c.args.keys.now none))
