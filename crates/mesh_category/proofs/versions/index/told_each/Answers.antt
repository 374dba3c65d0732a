use Rattle.std.proofs.Common.{◌-◌, sym, ap, arith}
use Rattle.mesh_base.specs.declared.snapshots.Snapshot.{Snapshot}
use Rattle.mesh_category.proofs.versions.Tells.{one_more_told}
use Rattle.mesh_category.proofs.versions.index.told_each.Goals as goal

pub loop-left-preserved : goal.loop-left-preserved
loop-left-preserved c = (
  omega arith,
  λ f. one_more_told c.args.all.now c.loop-left.left (c.loop-left.left - 1) c.index-all-left.result (omega (arith, c.loop-left-test.true)) (omega (arith, c.loop-left-test.true, c.loop-left.invariant.0)) c.index-all-left.is
      f _ (ap (λ (s : Snapshot). s.fingerprint) (sym c.index-all-left.is)) _ _ _ (c.loop-left.invariant.1 f) (c.in_ok-meet.ensures f),
)
