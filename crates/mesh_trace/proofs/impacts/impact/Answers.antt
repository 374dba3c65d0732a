use Rattle.std.proofs.Common.{◌≡◌, subst}
use Rattle.std.specs.Prelude.{◌↔◌}
use Rattle.std.specs.List.{Contains}
use Rattle.mesh_base.specs.declared.definitions.Reading.{Reading}
use Rattle.mesh_spec_model.specs.Closures.{closures}
use Rattle.mesh_trace.specs.Impacts.{IsFedBy}
use Rattle.mesh_trace.proofs.Impacting.{still_exactly}
use Rattle.mesh_trace.proofs.impacts.impact.Goals as goal

pub returns-clause-exactly : goal.returns-clause-exactly
returns-clause-exactly c t =
    let source : Reading = record { relation = c.in_ok-relation.relation; column = c.in_ok-relation.column } in
    let asked : Reading = record { relation = c.args.name.now; column = c.args.column.now } in
    let same : source ≡ asked = (λ i. record { relation = (c.in_ok-relation.ensures i).0; column = (c.in_ok-relation.ensures i).1 }) in
    subst (λ r. Contains c.in_ok-made.made t ↔ IsFedBy (closures c.args.p.now.nodes) r t) same
    (subst (λ ns. Contains c.in_ok-made.made t ↔ IsFedBy (closures ns) source t) c.as_slice.ensures.nodes
    (still_exactly (closures c.as_slice.result.now) source c.in_ok-found.found c.in_ok-made.made c.in_ok-made.ensures.exactly c.in_ok-found.ensures t))
