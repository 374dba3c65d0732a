-- What is due and what is made, in the plan of a project and in that of a run, are what the book says.
use Rattle.std.proofs.Common.{◌≡◌, ℕ, ℤ, List, [], ◌∷◌, refl, sym, ap, ◌∙◌, subst}
use Rattle.std.specs.List.{AllByRecursion, AllZip}
use Rattle.std.specs.declared.option.Option.{Option}
use Rattle.mesh_base_values.specs.declared.values.Name.{Name}
use Rattle.mesh_base.specs.declared.forgets.Restate.{Restate}
use Rattle.mesh_base.specs.declared.plans.Category.{Category}
use Rattle.mesh_base.specs.declared.plans.Entry.{Entry}
use Rattle.mesh_base.specs.declared.rules.plans.Plan.{Plan}
use Rattle.mesh_base.specs.declared.snapshots.Env.{Env}
use Rattle.mesh_base.specs.declared.snapshots.Node.{Node}
use Rattle.mesh_house_book.specs.declared.book.Book.{Book}
use Rattle.mesh_spec_model.specs.Horizons.{Clock, Shows}
use Rattle.mesh_house.specs.World.{version_of}
use Rattle.mesh_spec_changes.specs.listed.Listed.{listed}
use Rattle.mesh_spec_changes.specs.due.Dues.{dues}
use Rattle.mesh_spec_changes.specs.due.Plans.{is_made, planned}
use Rattle.mesh_plan.specs.Entries.{IsRecorded, entries_of}
use Rattle.mesh_plan.specs.Plans.{IsPlanOf}
use Rattle.mesh_plan.specs.Running.{IsRunOf}
use Rattle.mesh_exec.specs.Planned.{IsOf}

-- entries know whether the book has their objects made
abbrev Know : Book → List Entry → Type 0
Know b es = AllByRecursion (λ (e : Entry). e.made ≡ is_made (version_of b e.object)) es

they_know : (b : Book) (ks : List Category) (os : List Name) → Know b (entries_of b ks os)
they_know b [] os = tt
they_know b (k ∷ ks) [] = tt
they_know b (k ∷ ks) (o ∷ os) = (refl, they_know b ks os)

recorded_know : (b : Book) (ns : List Node) (es : List Entry) → AllZip (IsRecorded b) ns es → Know b es
recorded_know b [] [] h = tt
recorded_know b [] (e ∷ es) h = absurd h
recorded_know b (n ∷ ns) [] h = absurd h
recorded_know b (n ∷ ns) (e ∷ es) h = (
  subst (λ (x : Entry). x.made ≡ is_made (version_of b x.object)) (sym h.0.is) refl,
  recorded_know b ns es h.1,
)

module _ (clock : Clock) (b : Book) (p : Plan) (t : ℤ) (shows : Shows clock t) where
  pub plan_known : (nodes : List Node) (env : List ℕ) (again : Option Restate) → IsPlanOf b nodes env t again p → IsOf clock b p
  plan_known nodes env again of = record {
    due = of.dues_are clock shows ∙ ap (λ (ns : List Node). dues clock b p.forgets (planned ns p.entries)) (sym of.project_is);
    made = subst (Know b) (sym of.entries_are.are) (they_know b of.entries_are.categories of.entries_are.objects);
  }

  pub run_known : (env : List ℕ) (e : Env) → IsRunOf b env e t p → IsOf clock b p
  run_known env e of = record {
    due = of.dues_are clock shows ∙ ap (λ (ns : List Node). dues clock b p.forgets (planned ns p.entries)) (sym of.project_is);
    made = recorded_know b (listed b.snapshots e.list) p.entries of.entries_are;
  }
