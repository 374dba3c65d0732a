use Rattle.mesh_exec_wave.proofs.claims.Once.{once, at_most_once}
use Rattle.mesh_exec_wave.proofs.claims.laws.numbers_are_drawn_once.Goals as goal

pub returns-clause-once : goal.returns-clause-once
returns-clause-once c = once

pub returns-clause-at_most : goal.returns-clause-at_most
returns-clause-at_most c = at_most_once
