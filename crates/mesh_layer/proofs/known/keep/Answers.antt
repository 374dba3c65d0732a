use Rattle.std.proofs.Common.{sym, subst}
use Rattle.mesh_base_values.specs.declared.values.Name.{Name}
use Rattle.mesh_layer.specs.declared.known.Found.{Found}
use Rattle.mesh_layer.specs.Read.{AreKnown, IsFound}
use Rattle.mesh_layer.proofs.Reading.{kept}
use Rattle.mesh_layer.proofs.known.keep.Goals as goal

pub returns : goal.returns
returns c = λ w are is.
    let same = subst (λ (q : Name × Found). IsFound w q.0 q.1) (sym c.in_ok-name.ensures) is in
    subst (AreKnown w) (sym c.in_ok-place.ensures.ok) (kept w c.args.known.now (record { name = c.in_ok-name.name; found = c.in_ok-name.found }) are same)
