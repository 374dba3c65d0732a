use Rattle.std.proofs.Common.{sym, ap}
use Rattle.mesh_project.specs.nodes.Reads.{join_rel}
use Rattle.mesh_project.proofs.nodes.reads.join_rel.Goals as goal

pub returns-in-Comma : goal.returns-in-Comma
returns-in-Comma c = sym (ap join_rel c.in-Comma.is)

pub returns-in-Cross : goal.returns-in-Cross
returns-in-Cross c = sym (ap join_rel c.in-Cross.is)

pub returns-in-Inner : goal.returns-in-Inner
returns-in-Inner c = sym (ap join_rel c.in-Inner.is)

pub returns-in-Left : goal.returns-in-Left
returns-in-Left c = sym (ap join_rel c.in-Left.is)
