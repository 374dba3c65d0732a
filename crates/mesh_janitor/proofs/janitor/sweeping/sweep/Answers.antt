use Rattle.std.proofs.Common.{◌≡◌, FitsSigned, w64, to_z, of_z, Err}
use Rattle.std.proofs.lemmas.Int.{to_z-of_z}
use Rattle.mesh_spec_changes.specs.Kept.{sweeps}
use Rattle.mesh_janitor.specs.declared.janitor.faults.SweepFault.TheVariants.{EnvUnknown, Moment}
use Rattle.mesh_janitor.proofs.janitor.Making.{no_moment, no_unknown, sweeps_behind, swept_err, swept_ok}
use Rattle.mesh_janitor.proofs.janitor.sweeping.sweep.Goals as goal

pub returns-then-t-b-clause-makes : goal.returns-then-t-b-clause-makes
returns-then-t-b-clause-makes g c = sweeps_behind (sweeps c.args.b.now c.args.t) _ _ _

pub returns-in-Ok-clause-makes : goal.returns-in-Ok-clause-makes
returns-in-Ok-clause-makes g c =
    let fits : FitsSigned w64 c.args.t = c.ranges.t in
    let same : to_z w64 (of_z w64 c.args.t) ≡ c.args.t = simp to_z-of_z in
    swept_ok (sweeps c.args.b.now) _ c.args.t _ _ c.in-Ok.swept c.in-Ok.swept same c.in-Ok.ensures.makes

pub returns-in-Err-clause-makes : goal.returns-in-Err-clause-makes
returns-in-Err-clause-makes g c =
    let fits : FitsSigned w64 c.args.t = c.ranges.t in
    let same : to_z w64 (of_z w64 c.args.t) ≡ c.args.t = simp to_z-of_z in
    swept_err (sweeps c.args.b.now) _ c.args.t _ _ c.in-Err.fail c.as_fault.result same c.as_fault.ensures c.in-Err.ensures.makes

pub returns-in-Err-clause-refuses : goal.returns-in-Err-clause-refuses
returns-in-Err-clause-refuses g c given kept is =
    let told = c.as_fault.ensures in
    let moment : Err c.as_fault.result ≡ Err (Moment given kept) = is in absurd (no_moment c.in-Err.fail given kept (cc))

pub returns-in-Err-clause-known : goal.returns-in-Err-clause-known
returns-in-Err-clause-known g c is =
    let told = c.as_fault.ensures in
    let unknown : Err c.as_fault.result ≡ Err EnvUnknown = is in no_unknown c.in-Err.fail (cc)
