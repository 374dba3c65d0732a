-- What one change leaves where its call stopped.
use Rattle.std.proofs.Common.{◌≡◌, inr, true, false, List, [], ◌∷◌, Ok, Err, refl, sym, ◌∙◌}
use Rattle.std.specs.Prelude.{ℕ}
use Rattle.mesh_house.specs.declared.house.WhFail.{WhFail}
use Rattle.mesh_house.specs.declared.house.WhFail.TheVariants as fails
use Rattle.mesh_house.specs.declared.world.Change.{Change}
use Rattle.mesh_house.specs.House.{Told, Changes}
use Rattle.mesh_house.proofs.Runs.{change_stopped}
use Rattle.mesh_cli_print.specs.declared.printed.refusals.Refusal.{Refusal}
use Rattle.mesh_cli_print.specs.declared.printed.refusals.Refusal.TheVariants.{Warehouse, Memory, Input}
use Rattle.mesh_cli_answer.proofs.Answering.{same_refusal}
use Rattle.mesh_cli_answer.specs.Answers.{Answers, as_refusal, is_fault}

no_fault : (r : Refusal) → is_fault r ≡ true → is_fault r ≡ false → ⊥
no_fault r is not_fault = let clash : true ≡ false = sym is ∙ not_fault in cc

-- one change
module _ (change : Change) (line : List ℕ) (a b : Told) where
  pub stopped : (e : WhFail) → Changes {T = Unit {0}} change a b (Err e) → Answers ⊥ (λ w list. list ≡ change ∷ []) (λ w answer. answer ≡ Ok line) a b (Err (as_refusal e))
  stopped fails.Failed h = record {
    faults = h.faults;
    failed = λ is. (h.failed refl).0;
    beyond = λ is. absurd (let clash : Warehouse ≡ Input = same_refusal {T = List ℕ} Warehouse Input is in cc);
    early = λ early. absurd (let clash : false ≡ true = early in cc);
    made = λ w told. inr (change ∷ [], refl, (change_stopped change a b fails.Failed h).told w told.world);
    given = λ w told not_fault. absurd (no_fault Warehouse refl not_fault);
  }
  stopped fails.Memory h = record {
    faults = h.faults;
    failed = λ is. absurd (let clash : Err Memory ≡ Err Warehouse = is in cc);
    beyond = λ is. absurd (let clash : Memory ≡ Input = same_refusal {T = List ℕ} Memory Input is in cc);
    early = λ early. absurd (let clash : false ≡ true = early in cc);
    made = λ w told. inr (change ∷ [], refl, (change_stopped change a b fails.Memory h).told w told.world);
    given = λ w told not_fault. absurd (no_fault Memory refl not_fault);
  }
