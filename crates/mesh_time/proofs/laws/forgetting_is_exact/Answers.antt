use Rattle.std.proofs.Common.{refl}
use Rattle.mesh_time.proofs.Forgotten.{is_apart-forgotten, has_forgotten}
use Rattle.mesh_time.proofs.laws.forgetting_is_exact.Goals as goal

pub returns-clause-apart : goal.returns-clause-apart
returns-clause-apart c = λ spans start last p q. is_apart-forgotten _ _ spans refl p q

pub returns-clause-seconds : goal.returns-clause-seconds
returns-clause-seconds c = λ spans start last t p. has_forgotten _ spans t p
