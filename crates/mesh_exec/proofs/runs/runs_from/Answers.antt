use Rattle.std.proofs.Common.{take, sym, ap, ◌∙◌}
use Rattle.std.proofs.lemmas.List.{take_all}
use Rattle.mesh_exec.proofs.runs.runs_from.Goals as goal

pub returns-then-rest-le-MOST_UNITS : goal.returns-then-rest-le-MOST_UNITS
returns-then-rest-le-MOST_UNITS c = sym (take_all 256 c.split_at.result.1.now c.if-rest-le-MOST_UNITS.true) ∙ ap (take 256) c.split_at.ensures.back
