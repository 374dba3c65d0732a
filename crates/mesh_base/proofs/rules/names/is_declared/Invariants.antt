use Rattle.std.proofs.Common.{◌≡◌, take}
use Rattle.mesh_base.specs.rules.Relations.{is_declared}
use Rattle.mesh_base.proofs.rules.names.is_declared.Given as goal

abbrev pub invariant-loop-source : goal.invariant-loop-source
invariant-loop-source l = l.found ≡ is_declared (take l.source-index l.sources) l.name
