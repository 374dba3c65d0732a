use Rattle.mesh_canon.proofs.canon.definition_reading.read_own.Goals as goal

pub returns-clause-only : goal.returns-clause-only
returns-clause-only c = λ m fits is. c.read_by.ensures.only m fits tt is
