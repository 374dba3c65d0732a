use Rattle.std.proofs.Common.{rules, ◌≡◌, Ok, subst, FitsSigned, w64, to_z, of_z}
use Rattle.std.proofs.lemmas.Int.{to_z-of_z}
use Rattle.mesh_janitor.specs.declared.janitor.faults.Swept.{Swept}
use Rattle.mesh_cli_answer.specs.Answers.{Answers}
use Rattle.mesh_cli_answer.proofs.Answering.{wanting_then}
use Rattle.mesh_cli_look.specs.upkeep.Upkeep.{NumbersGiven, SweepGives, janitor_changes}
use Rattle.mesh_cli_look.proofs.upkeep.upkeep.janitor_by.Goals as goal

pub returns-in-Err-line_of : goal.returns-in-Err-line_of
returns-in-Err-line_of g c =
    let fits : FitsSigned w64 c.args.t = search rules in
    let same : to_z w64 (of_z w64 c.args.t) ≡ c.args.t = simp to_z-of_z in
    wanting_then (λ w list. list ≡ janitor_changes c.args.t c.args.b.now) (λ w. SweepGives c.args.t c.args.b.now) (λ w. NumbersGiven c.args.t c.args.b.now) _ _ c.in-Ok-swept.swept
    (subst (λ t. Answers {T = Swept} ⊥ (λ w list. list ≡ janitor_changes t c.args.b.now) (λ w. NumbersGiven t c.args.b.now) (g.W.Warehouse.told c.args.house.now) (g.W.Warehouse.told c.swept.new.house) (Ok c.in-Ok-swept.swept)) same c.in-Ok-swept.ensures)
