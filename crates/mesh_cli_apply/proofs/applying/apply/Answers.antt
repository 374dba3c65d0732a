use Rattle.std.proofs.Common.{◌≡◌, ◌⊎◌, FitsSigned, w64, to_z, of_z, ℤ, subst}
use Rattle.std.proofs.lemmas.Int.{to_z-of_z}
use Rattle.std.specs.Option.{option_copied}
use Rattle.mesh_cli_print.specs.declared.printed.refusals.Refusal.TheVariants.{Memory}
use Rattle.mesh_cli_apply.specs.Planning.{IsPlanned, PlanRefused}
use Rattle.mesh_cli_apply.proofs.Applied.{Says, all_done, handed, no_book, no_plan, no_project, no_text, not_executed, not_promoted, plan_may_be_made}
use Rattle.mesh_cli_apply.proofs.applying.apply.Goals as goal

-- a moment is the number that was given
whole : (t : ℤ) → FitsSigned w64 t → to_z w64 (of_z w64 t) ≡ t
whole t fits = simp to_z-of_z

pub returns-in_err-project-clause-answers : goal.returns-in_err-project-clause-answers
returns-in_err-project-clause-answers g c =
    let again = option_copied c.args.again in
    let a = g.W.Warehouse.told c.args.house.now in
    handed (Says c.args.dir.now c.args.env.now c.args.t again (g.F.Folder.told c.args.folder.now) (g.F.Folder.told c.loaded.new.folder) a a) c.from_residual.result _ c.from_residual.ensures.1
    (no_project c.args.dir.now c.args.env.now c.args.t again _ _ a _ c.in_err-project.ensures)

pub returns-in_err-book-clause-answers : goal.returns-in_err-book-clause-answers
returns-in_err-book-clause-answers g c =
    let again = option_copied c.args.again in
    let a = g.W.Warehouse.told c.args.house.now in
    let m = g.W.Warehouse.told c.present_book.new.house in
    handed (Says c.args.dir.now c.args.env.now c.args.t again (g.F.Folder.told c.args.folder.now) (g.F.Folder.told c.loaded.new.folder) a m) c.from_residual-in_err-book.result _ c.from_residual-in_err-book.ensures.1
    (no_book c.args.dir.now c.args.env.now c.args.t again _ _ a c.in_ok-project.project c.in_ok-project.ensures m _ c.in_err-book.ensures)

pub returns-in_err-p-clause-answers : goal.returns-in_err-p-clause-answers
returns-in_err-p-clause-answers g c =
    let again = option_copied c.args.again in
    let a = g.W.Warehouse.told c.args.house.now in
    let m = g.W.Warehouse.told c.present_book.new.house in
    let same : to_z w64 (of_z w64 c.args.t) ≡ c.args.t = whole c.args.t c.ranges.t in
    handed (Says c.args.dir.now c.args.env.now c.args.t again (g.F.Folder.told c.args.folder.now) (g.F.Folder.told c.loaded.new.folder) a m) c.from_residual-in_err-p.result _ c.from_residual-in_err-p.ensures.1
    (no_plan c.args.dir.now c.args.env.now c.args.t again _ _ a c.in_ok-project.project c.in_ok-project.ensures m c.in_ok-book.book c.in_ok-book.ensures _
    (subst (λ (t : ℤ). (c.in_err-p.field-0.0 ≡ Memory) ⊎ PlanRefused c.in_ok-book.book c.in_ok-project.project.nodes c.args.env.now t again c.in_err-p.field-0.0) same c.in_err-p.ensures.err))

pub executed-requires-clause-plan : goal.executed-requires-clause-plan
executed-requires-clause-plan g c κs within =
    let again = option_copied c.args.again in
    let same : to_z w64 (of_z w64 c.args.t) ≡ c.args.t = whole c.args.t c.ranges.t in
    plan_may_be_made c.in_ok-book.book c.in_ok-project.project.nodes c.args.env.now c.args.t again c.in_ok-p.p c.requires.moment
    (subst (λ (t : ℤ). IsPlanned c.in_ok-book.book c.in_ok-project.project.nodes c.args.env.now t again c.in_ok-p.p) same c.in_ok-p.ensures.ok)

pub returns-in_err-done-clause-answers : goal.returns-in_err-done-clause-answers
returns-in_err-done-clause-answers g c =
    let again = option_copied c.args.again in
    let a = g.W.Warehouse.told c.args.house.now in
    let m = g.W.Warehouse.told c.present_book.new.house in
    let z = g.W.Warehouse.told c.executed.new.house in
    let same : to_z w64 (of_z w64 c.args.t) ≡ c.args.t = whole c.args.t c.ranges.t in
    handed (Says c.args.dir.now c.args.env.now c.args.t again (g.F.Folder.told c.args.folder.now) (g.F.Folder.told c.loaded.new.folder) a z) c.from_residual-in_err-done.result _ c.from_residual-in_err-done.ensures.1
    (not_executed c.args.dir.now c.args.env.now c.args.t again _ _ a c.in_ok-project.project c.in_ok-project.ensures m c.in_ok-book.book c.in_ok-book.ensures c.requires.moment c.in_ok-p.p
    (subst (λ (t : ℤ). IsPlanned c.in_ok-book.book c.in_ok-project.project.nodes c.args.env.now t again c.in_ok-p.p) same c.in_ok-p.ensures.ok) z _ c.in_err-done.ensures)

pub returns-in_err-changes-clause-answers : goal.returns-in_err-changes-clause-answers
returns-in_err-changes-clause-answers g c =
    let again = option_copied c.args.again in
    let a = g.W.Warehouse.told c.args.house.now in
    let m = g.W.Warehouse.told c.present_book.new.house in
    let z = g.W.Warehouse.told c.executed.new.house in
    let end = g.W.Warehouse.told c.promoted.new.house in
    let same : to_z w64 (of_z w64 c.args.t) ≡ c.args.t = whole c.args.t c.ranges.t in
    handed (Says c.args.dir.now c.args.env.now c.args.t again (g.F.Folder.told c.args.folder.now) (g.F.Folder.told c.loaded.new.folder) a end) c.from_residual-in_err-changes.result _ c.from_residual-in_err-changes.ensures.1
    (not_promoted c.args.dir.now c.args.env.now c.args.t again _ _ a c.in_ok-project.project c.in_ok-project.ensures m c.in_ok-book.book c.in_ok-book.ensures c.requires.moment c.in_ok-p.p
    (subst (λ (t : ℤ). IsPlanned c.in_ok-book.book c.in_ok-project.project.nodes c.args.env.now t again c.in_ok-p.p) same c.in_ok-p.ensures.ok)
    c.in_ok-lists.lists.list c.in_ok-lists.lists.objects c.in_ok-lists.ensures.list c.in_ok-lists.ensures.objects c.in_ok-done.done z c.in_ok-done.ensures end _ c.in_err-changes.ensures)

pub returns-in_err-text-clause-answers : goal.returns-in_err-text-clause-answers
returns-in_err-text-clause-answers g c =
    let again = option_copied c.args.again in
    let a = g.W.Warehouse.told c.args.house.now in
    let m = g.W.Warehouse.told c.present_book.new.house in
    let z = g.W.Warehouse.told c.executed.new.house in
    let end = g.W.Warehouse.told c.promoted.new.house in
    let same : to_z w64 (of_z w64 c.args.t) ≡ c.args.t = whole c.args.t c.ranges.t in
    handed (Says c.args.dir.now c.args.env.now c.args.t again (g.F.Folder.told c.args.folder.now) (g.F.Folder.told c.loaded.new.folder) a end) c.from_residual-in_err-text.result Memory c.from_residual-in_err-text.ensures.1
    (no_text c.args.dir.now c.args.env.now c.args.t again _ _ a c.in_ok-project.project c.in_ok-project.ensures m c.in_ok-book.book c.in_ok-book.ensures c.requires.moment c.in_ok-p.p
    (subst (λ (t : ℤ). IsPlanned c.in_ok-book.book c.in_ok-project.project.nodes c.args.env.now t again c.in_ok-p.p) same c.in_ok-p.ensures.ok)
    c.in_ok-lists.lists.list c.in_ok-lists.lists.objects c.in_ok-lists.ensures.list c.in_ok-lists.ensures.objects c.in_ok-done.done z c.in_ok-done.ensures end c.in_ok-changes.changes c.in_ok-changes.ensures)

pub returns-clause-answers : goal.returns-clause-answers
returns-clause-answers g c =
    let again = option_copied c.args.again in
    let a = g.W.Warehouse.told c.args.house.now in
    let m = g.W.Warehouse.told c.present_book.new.house in
    let z = g.W.Warehouse.told c.executed.new.house in
    let end = g.W.Warehouse.told c.promoted.new.house in
    let same : to_z w64 (of_z w64 c.args.t) ≡ c.args.t = whole c.args.t c.ranges.t in
    all_done c.args.dir.now c.args.env.now c.args.t again _ _ a c.in_ok-project.project c.in_ok-project.ensures m c.in_ok-book.book c.in_ok-book.ensures c.requires.moment c.in_ok-p.p
    (subst (λ (t : ℤ). IsPlanned c.in_ok-book.book c.in_ok-project.project.nodes c.args.env.now t again c.in_ok-p.p) same c.in_ok-p.ensures.ok)
    c.in_ok-lists.lists.list c.in_ok-lists.lists.objects c.in_ok-lists.ensures.list c.in_ok-lists.ensures.objects c.in_ok-done.done z c.in_ok-done.ensures end c.in_ok-changes.changes c.in_ok-changes.ensures c.in_ok-text.text c.in_ok-text.ensures
