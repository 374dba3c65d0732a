-- Plans can be made.
use Rattle.std.proofs.Common.{◌≡◌, ℕ, ℤ, pos, true, List, length, Some, None, sym, ◌∙◌, ap}
use Rattle.std.specs.Int.Signed.{le_z}
use Rattle.std.specs.List.{list_all}
use Rattle.std.specs.declared.option.Option.{Option}
use Rattle.std.proofs.lemmas.Bool.{and_from as both_true}
use Rattle.mesh_list.specs.Keyed.{ascends}
use Rattle.mesh_base_values.proofs.Tests.{le_true}
use Rattle.mesh_time_days.specs.Moments.{IsMoment}
use Rattle.mesh_base.specs.declared.forgets.Restate.{Restate}
use Rattle.mesh_base.specs.declared.snapshots.Env.{Env}
use Rattle.mesh_base.specs.declared.snapshots.Node.{Node}
use Rattle.mesh_base.specs.rules.Proper.{is_proper}
use Rattle.mesh_base.specs.declared.rules.plans.Plan.{Plan}
use Rattle.mesh_house_book.specs.WellFormed.{is_moment}
use Rattle.mesh_house_book.specs.declared.book.Book.{Book}
use Rattle.mesh_law_query.proofs.Projects.{have_crons}
use Rattle.mesh_spec_model.specs.Closures.{closures}
use Rattle.mesh_spec_model.specs.Horizons.{Clock, Shows}
use Rattle.mesh_spec_model.proofs.Clocks.{shown}
use Rattle.mesh_spec_changes.specs.due.Dues.{dues}
use Rattle.mesh_spec_changes.specs.due.Plans.{planned}
use Rattle.mesh_plan_due.specs.Long.{first_too_long}
use Rattle.mesh_exec_works.specs.Executable.{IsExecutable, due_cmp, due_itself, is_due_in}
use Rattle.mesh_spec_changes.specs.Planning.{compared_list}
use Rattle.mesh_plan.specs.Entries.{IsRecorded}
use Rattle.mesh_plan.specs.Plans.{IsPlanOf}
use Rattle.mesh_plan.specs.Running.{IsRunIn}
use Rattle.mesh_plan.proofs.Models.{as_many}
use Rattle.mesh_plan.proofs.Runs.{zipped_long}
use Rattle.mesh_exec.proofs.plans.InOrder.{dues_fit}

pub moment_is : (t : ℤ) → IsMoment t → is_moment t ≡ true
moment_is t h = both_true (le_z (pos 0) t) (le_z t (pos 253_402_300_799)) (le_true (pos 0) t h.0) (le_true t (pos 253_402_300_799) h.1)

module _ (t : ℤ) (is : IsMoment t) (p : Plan) (moment : p.moment ≡ t) (proper : is_proper p.project.nodes ≡ true) (long : length p.entries ≡ length p.project.nodes)
    (short : (clock : Clock) → Shows clock t → first_too_long clock (closures p.project.nodes) ≡ None) (b : Book) (due : (clock : Clock) → Shows clock t → p.dues ≡ dues clock b p.forgets (planned p.project.nodes p.entries)) where
  pub executable : IsExecutable p
  executable =
      let (clock, shows) = shown t is in
      let fit = dues_fit t is clock shows p.project.nodes (have_crons p.project.nodes proper) (short clock shows) b p.forgets p.entries in
      let same = due clock shows in
      record {
        moment = ap is_moment moment ∙ moment_is t is;
        entries = long;
        order = ap (ascends due_cmp due_itself) same ∙ fit.0;
        fit = ap (list_all (is_due_in p.project.nodes)) same ∙ fit.1;
      }

pub plan_executable : (b : Book) (nodes : List Node) (env : List ℕ) (t : ℤ) (again : Option Restate) (p : Plan) → IsMoment t → is_proper p.project.nodes ≡ true → IsPlanOf b nodes env t again p → IsExecutable p
plan_executable b nodes env t again p is proper h =
    executable t is p h.moment_is proper
    (as_many b (compared_list b env) nodes p.entries h.entries_are ∙ sym (ap length h.project_is))
    (λ clock shows. ap (λ (ns : List Node). first_too_long clock (closures ns)) h.project_is ∙ h.short clock shows)
    b
    (λ clock shows. h.dues_are clock shows ∙ ap (λ (ns : List Node). dues clock b p.forgets (planned ns p.entries)) (sym h.project_is))

pub run_executable : (b : Book) (env : List ℕ) (e : Option Env) (t : ℤ) (p : Plan) → IsMoment t → is_proper p.project.nodes ≡ true → IsRunIn b env e t p → IsExecutable p
run_executable b env None t p is proper h = absurd h
run_executable b env (Some e) t p is proper h =
    executable t is p h.moment_is proper
    (zipped_long (IsRecorded b) _ p.entries h.entries_are ∙ sym (ap length h.project_is))
    (λ clock shows. ap (λ (ns : List Node). first_too_long clock (closures ns)) h.project_is ∙ h.short clock shows)
    b
    (λ clock shows. h.dues_are clock shows ∙ ap (λ (ns : List Node). dues clock b p.forgets (planned ns p.entries)) (sym h.project_is))
