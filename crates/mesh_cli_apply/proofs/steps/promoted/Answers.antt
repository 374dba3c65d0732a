use Rattle.std.proofs.Common.{ℕ, ℤ, Err, inl, rules, subst, FitsSigned, w64, to_z, of_z, ◌≡◌}
use Rattle.std.proofs.lemmas.Int.{to_z-of_z}
use Rattle.mesh_house.specs.Runs.{Makes}
use Rattle.mesh_janitor.specs.promote.Promotion.{promotion}
use Rattle.mesh_cli_apply.proofs.steps.promoted.Goals as goal

pub returns-in-Err : goal.returns-in-Err
returns-in-Err g c =
    let b = c.args.b.now in
    let p = c.args.p.now in
    let lists = c.args.lists.now in
    let fits : FitsSigned w64 p.moment = search rules in
    let same : to_z w64 (of_z w64 p.moment) ≡ p.moment = simp to_z-of_z in
    inl (
      c.in-Err.fail,
      c.as_refusal.ensures,
      subst
          (λ (t : ℤ). Makes {T = ℕ} (λ w. promotion b p.env lists.list lists.objects t) (g.W.Warehouse.told c.args.house.now) (g.W.Warehouse.told c.promote.new.house) (Err c.in-Err.fail))
          same c.in-Err.ensures.makes,
    )
