use Rattle.std.proofs.Common.{rules, ◌≡◌, true, FitsSigned, w64, to_z, of_z, ℤ, subst}
use Rattle.std.proofs.lemmas.Int.{to_z-of_z}
use Rattle.mesh_base.specs.rules.Proper.{is_proper}
use Rattle.mesh_cli_print.specs.declared.printed.refusals.Refusal.TheVariants.{Memory}
use Rattle.mesh_cli_apply.specs.Planning.{IsRunPlanned}
use Rattle.mesh_cli_apply.proofs.Applied.{Runs, all_run, handed, no_run_text, not_run, run_may_be_made}
use Rattle.mesh_cli_apply.proofs.running.run.Goals as goal

-- a moment is the number that was given
whole : (t : ℤ) → FitsSigned w64 t → to_z w64 (of_z w64 t) ≡ t
whole t fits = simp to_z-of_z

pub executed-requires-clause-plan : goal.executed-requires-clause-plan
executed-requires-clause-plan g c κs within =
    let proper : is_proper c.in_ok-p.p.project.nodes ≡ true = search rules in
    let same : to_z w64 (of_z w64 c.args.t) ≡ c.args.t = whole c.args.t c.ranges.t in
    run_may_be_made c.in_ok-book.book c.args.env.now c.args.t c.in_ok-p.p c.requires.moment
    (subst (λ (t : ℤ). IsRunPlanned c.in_ok-book.book c.args.env.now t c.in_ok-p.p) same c.in_ok-p.ensures.ok) proper

pub returns-in_err-changes : goal.returns-in_err-changes
returns-in_err-changes g c =
    let a = g.W.Warehouse.told c.args.house.now in
    let m = g.W.Warehouse.told c.present_book.new.house in
    let z = g.W.Warehouse.told c.executed.new.house in
    let same : to_z w64 (of_z w64 c.args.t) ≡ c.args.t = whole c.args.t c.ranges.t in
    handed (Runs c.args.env.now c.args.t a z) c.from_residual-in_err-changes.result _ c.from_residual-in_err-changes.ensures.1
    (not_run c.args.env.now c.args.t a m c.in_ok-book.book c.in_ok-book.ensures c.requires.moment c.in_ok-p.p
    (subst (λ (t : ℤ). IsRunPlanned c.in_ok-book.book c.args.env.now t c.in_ok-p.p) same c.in_ok-p.ensures.ok) z _ c.in_err-changes.ensures)

pub returns-in_err-text : goal.returns-in_err-text
returns-in_err-text g c =
    let a = g.W.Warehouse.told c.args.house.now in
    let m = g.W.Warehouse.told c.present_book.new.house in
    let z = g.W.Warehouse.told c.executed.new.house in
    let same : to_z w64 (of_z w64 c.args.t) ≡ c.args.t = whole c.args.t c.ranges.t in
    handed (Runs c.args.env.now c.args.t a z) c.from_residual-in_err-text.result Memory c.from_residual-in_err-text.ensures.1
    (no_run_text c.args.env.now c.args.t a m c.in_ok-book.book c.in_ok-book.ensures c.requires.moment c.in_ok-p.p
    (subst (λ (t : ℤ). IsRunPlanned c.in_ok-book.book c.args.env.now t c.in_ok-p.p) same c.in_ok-p.ensures.ok) c.in_ok-changes.changes z c.in_ok-changes.ensures)

pub returns : goal.returns
returns g c =
    let a = g.W.Warehouse.told c.args.house.now in
    let m = g.W.Warehouse.told c.present_book.new.house in
    let z = g.W.Warehouse.told c.executed.new.house in
    let same : to_z w64 (of_z w64 c.args.t) ≡ c.args.t = whole c.args.t c.ranges.t in
    all_run c.args.env.now c.args.t a m c.in_ok-book.book c.in_ok-book.ensures c.requires.moment c.in_ok-p.p
    (subst (λ (t : ℤ). IsRunPlanned c.in_ok-book.book c.args.env.now t c.in_ok-p.p) same c.in_ok-p.ensures.ok) c.in_ok-changes.changes z c.in_ok-changes.ensures c.in_ok-text.text c.in_ok-text.ensures
