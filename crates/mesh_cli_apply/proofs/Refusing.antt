-- Why nothing is planned, and what is answered where nothing is changed.
use Rattle.std.proofs.Common.{◌≡◌, ◌⊎◌, inl, inr, ℕ, ℤ, true, false, List, Ok, Err, Result, Some, IfOk, IfErr, refl, sym, ◌∙◌, ap, subst}
use Rattle.std.specs.declared.option.Option.{Option}
use Rattle.mesh_base.specs.declared.forgets.Restate.{Restate}
use Rattle.mesh_base.specs.declared.snapshots.Node.{Node}
use Rattle.mesh_base.specs.declared.rules.plans.Plan.{Plan}
use Rattle.mesh_house_book.specs.declared.book.Book.{Book}
use Rattle.mesh_house.specs.House.{Told}
use Rattle.mesh_spec_changes.specs.Commands.{is_present}
use Rattle.mesh_spec_changes.specs.Environments.{env_at}
use Rattle.mesh_spec_changes.specs.Planning.{compared_list}
use Rattle.mesh_cli_print.specs.plans.PlanText.{plan_text}
use Rattle.mesh_plan.specs.Plans.{IsPlanOf, RefusesPlan}
use Rattle.mesh_plan.specs.Running.{RefusesRun}
use Rattle.mesh_category.specs.declared.versions.faults.PlanFault.{PlanFault}
use Rattle.mesh_category.specs.declared.versions.faults.PlanFault.TheVariants as fault
use Rattle.mesh_cli_print.specs.declared.printed.refusals.Refusal.{Refusal}
use Rattle.mesh_cli_print.specs.declared.printed.refusals.Refusal.TheVariants.{Memory}
use Rattle.mesh_cli_answer.specs.Answers.{Answers, is_fault, no_changes}
use Rattle.mesh_cli_answer.specs.Present.{ReadsPresent}
use Rattle.mesh_cli_answer.proofs.Answering.{is_beyond, not_outside, not_warehouse, present_beyond, refused_alone, told_alone}
use Rattle.mesh_cli_apply.specs.Applying.{PlanGives}
use Rattle.mesh_cli_apply.specs.Planning.{IsPlanned, IsStray, PlanRefused, RunRefused, has_named, no_model, of_plan}

-- no fault of a plan is the warehouse's, or one outside
plan_beyond : (env : List ℕ) (why : PlanFault) → is_beyond (of_plan env why) ≡ false
plan_beyond env (fault.Model name kind) = refl
plan_beyond env (fault.Moment given kept) = refl
plan_beyond env fault.EnvUnknown = refl
plan_beyond env fault.EnvPending = refl
plan_beyond env fault.Memory = refl

module _ (b : Book) (nodes : List Node) (env : List ℕ) (t : ℤ) (again : Option Restate) where
  -- why nothing is planned isn't that the warehouse failed, or something outside
  refused_beyond : (r : Refusal) → PlanRefused b nodes env t again r → is_beyond r ≡ false
  refused_beyond r (inl not_present) = present_beyond b r not_present
  refused_beyond r (inr (inl unplanned)) = ap is_beyond unplanned.told ∙ plan_beyond env unplanned.why
  refused_beyond r (inr (inr unnamed)) = ap is_beyond unnamed.stray.told

  pub unplanned_beyond : (r : Refusal) → (r ≡ Memory) ⊎ PlanRefused b nodes env t again r → is_beyond r ≡ false
  unplanned_beyond r (inl memory) = ap is_beyond memory
  unplanned_beyond r (inr refused) = refused_beyond r refused

  -- a fault of the plan is told
  pub fault_told : is_present b ≡ true → (why : PlanFault) → RefusesPlan b (compared_list b env) nodes t why → (r : Refusal) → (r ≡ Memory) ⊎ (r ≡ of_plan env why) → (r ≡ Memory) ⊎ PlanRefused b nodes env t again r
  fault_told present why stands r (inl memory) = inl memory
  fault_told present why stands r (inr told) = inr (inr (inl (record { present = present; why = why; stands = stands; told = told })))

  -- a model is named that the project hasn't
  pub stray_told : is_present b ≡ true → (p : Plan) → IsPlanOf b nodes env t again p → (r : Refusal) → (r ≡ Memory) ⊎ IsStray nodes again r → (r ≡ Memory) ⊎ PlanRefused b nodes env t again r
  stray_told present p is r (inl memory) = inl memory
  stray_told present p is r (inr stray) = inr (inr (inr (record { present = present; plan = p; planned = is; stray = stray })))

module _ (b : Book) (env : List ℕ) (t : ℤ) where
  pub run_beyond : (r : Refusal) → (r ≡ Memory) ⊎ RunRefused b env t r → is_beyond r ≡ false
  run_beyond r (inl memory) = ap is_beyond memory
  run_beyond r (inr (inl not_present)) = present_beyond b r not_present
  run_beyond r (inr (inr unplanned)) = ap is_beyond unplanned.told ∙ plan_beyond env unplanned.why

  -- a fault of a run's plan is told
  pub run_fault_told : is_present b ≡ true → (why : PlanFault) → RefusesRun b (env_at b env) t why → (r : Refusal) → (r ≡ Memory) ⊎ (r ≡ of_plan env why) → (r ≡ Memory) ⊎ RunRefused b env t r
  run_fault_told present why stands r (inl memory) = inl memory
  run_fault_told present why stands r (inr told) = inr (inr (record { present = present; why = why; stands = stands; told = told }))

-- what is told is no want of memory
pub no_wanting : {A : Type 0} (r : Refusal) → is_fault r ≡ false → (r ≡ Memory) ⊎ A → A
no_wanting r fine (inl memory) = absurd (let clash : true ≡ false = sym (ap is_fault memory) ∙ fine in cc)
no_wanting r fine (inr x) = x

-- the text of a plan is answered, or why there is none, of the book that was read
module _ (nodes : List Node) (env : List ℕ) (t : ℤ) (again : Option Restate) (a c : Told) (b : Book) (reads : ReadsPresent a c (Ok b)) where
  pub looked : (r : Result (List ℕ) Refusal) → IfOk r (λ text. (p : Plan) × IsPlanned b nodes env t again p × (text ≡ plan_text p)) → IfErr r (λ e. (e ≡ Memory) ⊎ PlanRefused b nodes env t again e)
      → Answers ⊥ no_changes (PlanGives nodes env t again) a c r
  looked (Ok text) ok err = told_alone no_changes (PlanGives nodes env t again) a c text reads.alone reads.faults (λ w told. refl)
      (λ w told. subst (λ (k : Book). (p : Plan) × IsPlanned k nodes env t again p × (text ≡ plan_text p)) (reads.book w told.world) ok)
  looked (Err r) ok err = refused_alone no_changes (PlanGives nodes env t again) a c r reads.alone reads.faults (λ e. absurd (not_warehouse r (unplanned_beyond b nodes env t again r err) e)) (λ e. absurd (not_outside r (unplanned_beyond b nodes env t again r err) e))
      (λ w told fine. subst (λ (k : Book). PlanRefused k nodes env t again r) (reads.book w told.world) (no_wanting r fine err))

-- a model is named that the project hasn't, and this is told
pub stray : (nodes : List Node) (again : Option Restate) (restate : Restate) → again ≡ Some restate → has_named nodes again ≡ false → (r : Refusal) → (r ≡ Memory) ⊎ (r ≡ no_model restate.name) → (r ≡ Memory) ⊎ IsStray nodes again r
stray nodes again restate asked unnamed r (inl memory) = inl memory
stray nodes again restate asked unnamed r (inr told) = inr (record { restate = restate; asked = asked; unnamed = unnamed; told = told })
