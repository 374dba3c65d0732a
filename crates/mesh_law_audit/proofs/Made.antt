-- A plan of a project, and that of a run, is executed as the promise has it, and then audited from scratch.
use Rattle.std.proofs.Common.{◌≡◌, ℕ, ℤ, Bool, true, false, cond, List, [], ◌++◌, length, map, None, sym, ap, ◌∙◌, subst}
use Rattle.std.specs.declared.option.Option.{Option}
use Rattle.mesh_base.specs.declared.forgets.Restate.{Restate}
use Rattle.mesh_base.specs.declared.rules.plans.Plan.{Plan}
use Rattle.mesh_base.specs.declared.snapshots.Env.{Env}
use Rattle.mesh_base.specs.declared.snapshots.Node.{Node}
use Rattle.mesh_spec_model.specs.Horizons.{Clock, Shows}
use Rattle.mesh_house.specs.Step.{run}
use Rattle.mesh_house.specs.declared.world.Change.{Change}
use Rattle.mesh_house.specs.declared.world.World.{World}
use Rattle.mesh_spec_changes.specs.due.Parts.{Parts}
use Rattle.mesh_spec_changes.specs.listed.Listed.{listed}
use Rattle.mesh_spec_changes.specs.Changes.{executes, opens, run_opens, runs}
use Rattle.mesh_spec_changes.specs.Commands.{Apply, RunAll, allows}
use Rattle.mesh_spec_changes.specs.Planning.{compared_list}
use Rattle.mesh_spec_promise.specs.Histories.{IsMet}
use Rattle.mesh_spec_promise.specs.Sound.{Sound}
use Rattle.mesh_plan.specs.Entries.{IsRecorded}
use Rattle.mesh_plan.specs.Plans.{IsPlanOf, promised}
use Rattle.mesh_plan.specs.Running.{IsRunOf}
use Rattle.mesh_plan.proofs.Models.{as_many}
use Rattle.mesh_plan.proofs.Runs.{zipped_long}
use Rattle.mesh_layer.specs.Lost.{first_of}
use Rattle.mesh_audit.specs.declared.audits.Audit.{Audit}
use Rattle.mesh_audit.specs.Audited.{Placed, lost_by, lost_for}
use Rattle.mesh_exec.specs.Executed.{executed}
use Rattle.mesh_exec.specs.Planned.{IsOf}
use Rattle.mesh_exec.proofs.Books.{as_the_book_asks}
use Rattle.mesh_law_promise.proofs.Promise.{shows_raised}
use Rattle.mesh_law_audit.specs.Execution.{Begins, execution}
use Rattle.mesh_law_audit.specs.Scratch.{FindFromScratch}
use Rattle.mesh_law_audit.proofs.Audited.{found_as_left}
use Rattle.mesh_law_audit.proofs.Executing.{apply_executed, run_executed}
use Rattle.mesh_law_audit.proofs.Known.{plan_known, run_known}
use Rattle.mesh_law_audit.proofs.Missing.{apply_shown, none_missed_of, run_shown}
use Rattle.mesh_law_audit.proofs.Rows.{places}

-- a plan is executed by the changes of its command
module _ (clock : Clock) (w : World) (p : Plan) (is : IsOf clock w.book p) where
  by_kind : (r : Bool) → p.run ≡ r → executed p w
      ≡ cond r (run_opens (promised p)) (opens (promised p)) ++ executes clock w.book p.forgets (promised p).models [] (promised p).models (run w (cond r (run_opens (promised p)) (opens (promised p))))
  by_kind r kind =
      as_the_book_asks clock w.book p is w
      ∙ ap (λ (b : Bool). cond b (run_opens (promised p)) (opens (promised p))
      ++ executes clock w.book p.forgets (promised p).models [] (promised p).models (run w (cond b (run_opens (promised p)) (opens (promised p))))) kind

  pub executed_is : p.run ≡ false → executed p w ≡ execution clock (promised p) w
  executed_is no_run = by_kind false no_run

  pub run_executed_is : p.run ≡ true → executed p w ≡ runs clock (promised p) w
  run_executed_is a_run = by_kind true a_run

pub plan_audited : (before after : Clock) (x : Parts) (w : World) (p : Plan) → Begins before after x w (Apply (promised p)) → length p.entries ≡ length p.project.nodes
    → FindFromScratch p w.sources after (run w (execution after (promised p) w))
plan_audited before after x w p h entries = found_as_left after p w (run w (execution after (promised p) w)) (apply_executed before after x w (promised p) h) entries

pub run_audited : (before after : Clock) (x : Parts) (w : World) (p : Plan) → Begins before after x w (RunAll (promised p)) → length p.entries ≡ length p.project.nodes
    → FindFromScratch p w.sources after (run w (runs after (promised p) w))
run_audited before after x w p h entries = found_as_left after p w (run w (runs after (promised p) w)) (run_executed before after x w (promised p) h) entries

-- what executes the plan of a project, and of a run
module _ (before after : Clock) (w : World) (p : Plan) where
  of_plan : IsMet before after w (Apply (promised p)) → allows w (Apply (promised p)) ≡ true → (nodes : List Node) (env : List ℕ) (t : ℤ) (again : Option Restate) → IsPlanOf w.book nodes env t again p
      → executed p w ≡ execution after (promised p) w
  of_plan m allowed nodes env t again of =
      executed_is after w p (plan_known after w.book p t (subst (Shows after) of.moment_is (shows_raised before after w (Apply (promised p)) m allowed)) nodes env again of) of.runs

  of_run : IsMet before after w (RunAll (promised p)) → allows w (RunAll (promised p)) ≡ true → (env : List ℕ) (e : Env) (t : ℤ) → IsRunOf w.book env e t p → executed p w ≡ runs after (promised p) w
  of_run m allowed env e t of = run_executed_is after w p (run_known after w.book p t (subst (Shows after) of.moment_is (shows_raised before after w (RunAll (promised p)) m allowed)) env e of) of.runs

pub made_plan_audited : (before after : Clock) (x : Parts) (w : World) (p : Plan) → Begins before after x w (Apply (promised p)) → (nodes : List Node) (env : List ℕ) (t : ℤ) (again : Option Restate)
    → IsPlanOf w.book nodes env t again p → FindFromScratch p w.sources after (run w (executed p w))
made_plan_audited before after x w p h nodes env t again of =
    let entries : length p.entries ≡ length p.project.nodes = as_many w.book (compared_list w.book env) nodes p.entries of.entries_are ∙ ap length (sym of.project_is) in
    subst (λ (l : List Change). FindFromScratch p w.sources after (run w l)) (sym (of_plan before after w p h.asked_for h.allowed nodes env t again of)) (plan_audited before after x w p h entries)

pub made_run_audited : (before after : Clock) (x : Parts) (w : World) (p : Plan) → Begins before after x w (RunAll (promised p)) → (env : List ℕ) (e : Env) (t : ℤ)
    → IsRunOf w.book env e t p → FindFromScratch p w.sources after (run w (executed p w))
made_run_audited before after x w p h env e t of =
    let entries : length p.entries ≡ length p.project.nodes = zipped_long (IsRecorded w.book) (listed w.book.snapshots e.list) p.entries of.entries_are ∙ ap length (sym of.project_is) in
    subst (λ (l : List Change). FindFromScratch p w.sources after (run w l)) (sym (of_run before after w p h.asked_for h.allowed env e t of)) (run_audited before after x w p h entries)

-- audits miss no object, whether the command settles or not
pub plan_misses_none : (before after : Clock) (x : Parts) (w : World) (p : Plan) → IsMet before after w (Apply (promised p)) → allows w (Apply (promised p)) ≡ true → Sound x w → (audits : List Audit)
    → lost_for p audits (run w (execution after (promised p) w)) ≡ None
plan_misses_none before after x w p m allowed sound audits =
    let v = run w (execution after (promised p) w) in
    subst (λ (all : List Placed). first_of (map (lost_by v all) audits) ≡ None) (places p.project.nodes p.entries)
    (none_missed_of v (promised p).models (apply_shown before after x w (promised p) m allowed sound) audits)

pub run_misses_none : (before after : Clock) (x : Parts) (w : World) (p : Plan) → IsMet before after w (RunAll (promised p)) → allows w (RunAll (promised p)) ≡ true → Sound x w → (audits : List Audit)
    → lost_for p audits (run w (runs after (promised p) w)) ≡ None
run_misses_none before after x w p m allowed sound audits =
    let v = run w (runs after (promised p) w) in
    subst (λ (all : List Placed). first_of (map (lost_by v all) audits) ≡ None) (places p.project.nodes p.entries)
    (none_missed_of v (promised p).models (run_shown before after x w (promised p) m allowed sound) audits)

pub made_plan_misses_none : (before after : Clock) (x : Parts) (w : World) (p : Plan) → IsMet before after w (Apply (promised p)) → allows w (Apply (promised p)) ≡ true → Sound x w
    → (nodes : List Node) (env : List ℕ) (t : ℤ) (again : Option Restate) → IsPlanOf w.book nodes env t again p → (audits : List Audit) → lost_for p audits (run w (executed p w)) ≡ None
made_plan_misses_none before after x w p m allowed sound nodes env t again of audits =
    subst (λ (l : List Change). lost_for p audits (run w l) ≡ None) (sym (of_plan before after w p m allowed nodes env t again of)) (plan_misses_none before after x w p m allowed sound audits)

pub made_run_misses_none : (before after : Clock) (x : Parts) (w : World) (p : Plan) → IsMet before after w (RunAll (promised p)) → allows w (RunAll (promised p)) ≡ true → Sound x w
    → (env : List ℕ) (e : Env) (t : ℤ) → IsRunOf w.book env e t p → (audits : List Audit) → lost_for p audits (run w (executed p w)) ≡ None
made_run_misses_none before after x w p m allowed sound env e t of audits =
    subst (λ (l : List Change). lost_for p audits (run w l) ≡ None) (sym (of_run before after w p m allowed env e t of)) (run_misses_none before after x w p m allowed sound audits)
