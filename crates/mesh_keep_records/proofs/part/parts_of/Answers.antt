use Rattle.std.proofs.Common.{◌<◌, ◌^◌, length, subst}
use Rattle.mesh_keep_records.proofs.Inside.{parts_fit}
use Rattle.mesh_keep_records.proofs.part.parts_of.Goals as goal

pub returns-clause-only : goal.returns-clause-only
returns-clause-only c = λ parts is.
    c.read_list.ensures.only parts (parts_fit parts (subst (λ t. length t < 2 ^ 64) is c.lies_in_memory.ensures)) is
