use Rattle.std.proofs.Common.{◌≡◌, take, map}
use Rattle.mesh_audit.specs.Forms.{repeated}
use Rattle.mesh_audit.proofs.forms.unique_values.Given as goal

abbrev pub invariant-loop-name : goal.invariant-loop-name
invariant-loop-name l = l.selects ≡ map (repeated l.model) (take l.name-index l.columns)
