use Rattle.std.proofs.Common.{arith}
use Rattle.std.proofs.lemmas.Nat.{one_shl}
use Rattle.mesh_time.proofs.fields.bit.Goals as goal

pub returns : goal.returns
returns c = one_shl c.args.value 64 (omega arith)
