use Rattle.std.proofs.Common.{◌≡◌, ◌⊎◌, FitsSigned, w64, to_z, of_z, ℤ, subst}
use Rattle.std.proofs.lemmas.Int.{to_z-of_z}
use Rattle.std.specs.Option.{option_copied}
use Rattle.mesh_cli_print.specs.declared.printed.refusals.Refusal.TheVariants.{Memory}
use Rattle.mesh_cli_apply.specs.Planning.{PlanRefused}
use Rattle.mesh_cli_apply.proofs.Applied.{Prints, handed, no_book_printed, no_plan_printed, none_printed}
use Rattle.mesh_cli_apply.proofs.planned.plan.Goals as goal

pub returns-in_err-project-clause-answers : goal.returns-in_err-project-clause-answers
returns-in_err-project-clause-answers g c =
    let again = option_copied c.args.again in
    let a = g.W.Warehouse.told c.args.house.now in
    handed (Prints c.args.dir.now c.args.env.now c.args.t again (g.F.Folder.told c.args.folder.now) (g.F.Folder.told c.loaded.new.folder) a a) c.from_residual.result _ c.from_residual.ensures.1
    (none_printed c.args.dir.now c.args.env.now c.args.t again _ _ a _ c.in_err-project.ensures)

pub returns-in_err-book-clause-answers : goal.returns-in_err-book-clause-answers
returns-in_err-book-clause-answers g c =
    let again = option_copied c.args.again in
    let a = g.W.Warehouse.told c.args.house.now in
    let m = g.W.Warehouse.told c.present_book.new.house in
    handed (Prints c.args.dir.now c.args.env.now c.args.t again (g.F.Folder.told c.args.folder.now) (g.F.Folder.told c.loaded.new.folder) a m) c.from_residual-in_err-book.result _ c.from_residual-in_err-book.ensures.1
    (no_book_printed c.args.dir.now c.args.env.now c.args.t again _ _ a c.in_ok-project.project c.in_ok-project.ensures m _ c.in_err-book.ensures)

pub returns-in_err-p-clause-answers : goal.returns-in_err-p-clause-answers
returns-in_err-p-clause-answers g c =
    let again = option_copied c.args.again in
    let a = g.W.Warehouse.told c.args.house.now in
    let m = g.W.Warehouse.told c.present_book.new.house in
    let fits : FitsSigned w64 c.args.t = c.ranges.t in
    let same : to_z w64 (of_z w64 c.args.t) ≡ c.args.t = simp to_z-of_z in
    handed (Prints c.args.dir.now c.args.env.now c.args.t again (g.F.Folder.told c.args.folder.now) (g.F.Folder.told c.loaded.new.folder) a m) c.from_residual-in_err-p.result _ c.from_residual-in_err-p.ensures.1
    (no_plan_printed c.args.dir.now c.args.env.now c.args.t again _ _ a c.in_ok-project.project c.in_ok-project.ensures m c.in_ok-book.book c.in_ok-book.ensures _
    (subst (λ (t : ℤ). (c.in_err-p.field-0.0 ≡ Memory) ⊎ PlanRefused c.in_ok-book.book c.in_ok-project.project.nodes c.args.env.now t again c.in_err-p.field-0.0) same c.in_err-p.ensures.err))
