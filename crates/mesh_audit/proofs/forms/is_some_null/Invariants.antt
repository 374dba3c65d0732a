use Rattle.std.proofs.Common.{◌≡◌, take, map}
use Rattle.mesh_audit.specs.Forms.{when_null}
use Rattle.mesh_audit.proofs.forms.is_some_null.Given as goal

abbrev pub invariant-loop-name : goal.invariant-loop-name
invariant-loop-name l = l.whens ≡ map when_null (take l.name-index l.columns)
