use Rattle.std.proofs.Common.{refl}
use Rattle.mesh_time.proofs.Added.{is_apart-added, has_added}
use Rattle.mesh_time.proofs.laws.adding_is_exact.Goals as goal

pub returns-clause-apart : goal.returns-clause-apart
returns-clause-apart c = λ spans start last p q. is_apart-added _ _ spans refl p q

pub returns-clause-seconds : goal.returns-clause-seconds
returns-clause-seconds c = λ spans start last t p. has_added _ spans t p
