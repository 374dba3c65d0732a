use Rattle.std.proofs.Common.{rules, ◌≡◌, List, ℕ, subst, FitsSigned, w64, to_z, of_z}
use Rattle.std.proofs.lemmas.Int.{to_z-of_z}
use Rattle.mesh_cli_answer.specs.Answers.{Answers}
use Rattle.mesh_cli_look.specs.upkeep.Upkeep.{SweepGives, janitor_changes}
use Rattle.mesh_cli_look.proofs.upkeep.Sweeps.{by_the_book}
use Rattle.mesh_cli_look.proofs.upkeep.upkeep.janitor.Goals as goal

pub returns-in-Ok : goal.returns-in-Ok
returns-in-Ok g c =
    let fits : FitsSigned w64 c.args.t = search rules in
    let same : to_z w64 (of_z w64 c.args.t) ≡ c.args.t = simp to_z-of_z in
    by_the_book c.args.t _ _ _ c.in-Ok.b c.in-Ok.ensures c.janitor_by.result
    (subst (λ t. Answers {T = List ℕ} ⊥ (λ w list. list ≡ janitor_changes t c.in-Ok.b) (λ w. SweepGives t c.in-Ok.b) (g.W.Warehouse.told c.book.new.self) (g.W.Warehouse.told c.janitor_by.new.house) c.janitor_by.result) same c.janitor_by.ensures)
