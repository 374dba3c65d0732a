use Rattle.std.proofs.Common.{rules, ◌<◌, ◌^◌}
use Rattle.mesh_plan_due.proofs.LowestBit.{is_lowest, without_lowest}
use Rattle.mesh_plan_due.proofs.numbers.take_bit.Goals as goal

pub returns-clause-lowest : goal.returns-clause-lowest
returns-clause-lowest c =
    let fits : c.args.word.now < 2 ^ 64 = search rules in
    is_lowest c.args.word.now c.requires fits

pub returns-clause-rest : goal.returns-clause-rest
returns-clause-rest c =
    let fits : c.args.word.now < 2 ^ 64 = search rules in
    without_lowest c.args.word.now _ (is_lowest c.args.word.now c.requires fits)
