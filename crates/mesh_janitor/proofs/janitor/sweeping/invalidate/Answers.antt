use Rattle.std.proofs.Common.{◌≡◌, [], ◌∷◌, Err, subst, sym}
use Rattle.mesh_house.specs.declared.world.Change.TheVariants.{Expire}
use Rattle.mesh_janitor.specs.declared.janitor.faults.SweepFault.{SweepFault}
use Rattle.mesh_janitor.specs.declared.janitor.faults.SweepFault.TheVariants.{Moment}
use Rattle.mesh_janitor.specs.janitor.Sweeping.{Sweeps}
use Rattle.mesh_janitor.proofs.janitor.Making.{no_moment, sweeps_err, sweeps_ok, sweeps_unknown}
use Rattle.mesh_janitor.proofs.janitor.sweeping.invalidate.Goals as goal

pub returns-then-is_none-clause-makes : goal.returns-then-is_none-clause-makes
returns-then-is_none-clause-makes g c = sweeps_unknown (Expire c.args.env.now ∷ []) _

pub returns-in-Ok-clause-makes : goal.returns-in-Ok-clause-makes
returns-in-Ok-clause-makes g c = sweeps_ok (Expire c.args.env.now ∷ []) _ _ _ _ c.in-Ok.ensures.makes

pub returns-in-Err-clause-makes : goal.returns-in-Err-clause-makes
returns-in-Err-clause-makes g c =
    subst (λ (f : SweepFault). Sweeps (Expire c.args.env.now ∷ []) (g.W.Warehouse.told c.args.house.now) (g.W.Warehouse.told c.expire.new.house) (Err f)) (sym c.as_fault.ensures)
    (sweeps_err (Expire c.args.env.now ∷ []) _ _ c.in-Err.fail c.in-Err.ensures.makes)

pub returns-in-Err-clause-timeless : goal.returns-in-Err-clause-timeless
returns-in-Err-clause-timeless g c given kept is =
    let told = c.as_fault.ensures in
    let moment : Err c.as_fault.result ≡ Err (Moment given kept) = is in no_moment c.in-Err.fail given kept (cc)
