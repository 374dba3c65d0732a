use Rattle.std.proofs.Common.{◌≡◌, ◌∷◌, [], Ok, Err, List, ℕ, sym, subst}
use Rattle.mesh_cli_print.specs.declared.printed.refusals.Refusal.{Refusal}
use Rattle.mesh_cli_answer.specs.Answers.{Answers}
use Rattle.mesh_cli_look.proofs.upkeep.Loading.{stopped}
use Rattle.mesh_cli_look.proofs.upkeep.ingesting.made.Goals as goal

pub returns-in-Err : goal.returns-in-Err
returns-in-Err g c =
    subst (λ (r : Refusal). Answers {T = List ℕ} ⊥ (λ w list. list ≡ c.args.change.now ∷ []) (λ w answer. answer ≡ Ok c.args.line) (g.W.Warehouse.told c.args.house.now) (g.W.Warehouse.told c.change.new.self) (Err r)) (sym c.as_refusal.ensures)
    (stopped c.args.change.now c.args.line _ _ c.in-Err.fail c.in-Err.ensures)
