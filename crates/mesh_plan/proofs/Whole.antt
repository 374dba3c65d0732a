-- Plans, as wholes: their parts make them what a plan says.
use Rattle.std.proofs.Common.{◌≡◌, ℕ, ℤ, true, false, inl, inr, List, length, None, refl, arith, FitsSigned, w64, to_z, of_z}
use Rattle.std.specs.Int.Signed.{lt_z}
use Rattle.std.specs.declared.option.Option.{Option}
use Rattle.std.proofs.lemmas.Int.{ints}
use Rattle.mesh_base_values.specs.declared.values.Pair.{Pair}
use Rattle.mesh_base.specs.declared.forgets.Forget.{Forget}
use Rattle.mesh_base.specs.declared.forgets.Restate.{Restate}
use Rattle.mesh_base.specs.declared.plans.Due.{Due}
use Rattle.mesh_base.specs.declared.plans.Entry.{Entry}
use Rattle.mesh_base.specs.declared.snapshots.Node.{Node}
use Rattle.mesh_base.specs.declared.snapshots.Ref.{Ref}
use Rattle.mesh_base.specs.rules.Proper.{ProjectNodes}
use Rattle.mesh_base.specs.declared.rules.plans.Plan.{Plan}
use Rattle.mesh_house_book.specs.declared.book.Book.{Book}
use Rattle.mesh_house_book.specs.WellFormed.{is_well_formed_book}
use Rattle.mesh_spec_model.specs.Closures.{closures}
use Rattle.mesh_spec_model.specs.Horizons.{Clock, Shows}
use Rattle.mesh_lineage.specs.Unsteady.{unsteady}
use Rattle.mesh_spec_changes.specs.listed.Listed.{is_list_fit}
use Rattle.mesh_spec_changes.specs.due.Dues.{again, dues}
use Rattle.mesh_spec_changes.specs.due.Plans.{planned}
use Rattle.mesh_spec_changes.specs.Planning.{IsPlan, compared_list}
use Rattle.mesh_plan_due.specs.Long.{first_too_long}
use Rattle.mesh_category.specs.declared.versions.faults.PlanFault.{PlanFault}
use Rattle.mesh_category.specs.declared.versions.faults.PlanFault.TheVariants.{Model, Moment, EnvUnknown, EnvPending, Memory}
use Rattle.mesh_category.proofs.versions.Without.{none_clashes}
use Rattle.mesh_plan.specs.Intervals.{RefusesUnits}
use Rattle.mesh_plan.specs.Plans.{IsPlanOf, RefusesEntries, RefusesPlan, Unclashed, promised, removed}
use Rattle.mesh_plan.proofs.Models.{as_many, closures_are, nodes_are, objects_are}

-- a moment fits where it lies
pub second_whole : (t : ℤ) → FitsSigned w64 t → to_z w64 (of_z w64 t) ≡ t
second_whole t f = omega (arith, ints)

module _ (b : Book) (base : List Ref) (nodes : List Node) (t : ℤ) (ahead : lt_z t b.moment ≡ false) where
  pub entries_refuse : (fault : PlanFault) → RefusesEntries b base nodes fault → RefusesPlan b base nodes t fault
  entries_refuse (Model name kind) r = (ahead, inl r)
  entries_refuse (Moment given kept) r = absurd r
  entries_refuse EnvUnknown r = r
  entries_refuse EnvPending r = r
  entries_refuse Memory r = r

  pub units_refuse : (entries : List Entry) → Unclashed b base nodes entries → (fault : PlanFault) → RefusesUnits nodes t fault → RefusesPlan b base nodes t fault
  units_refuse entries un (Model name kind) r = (ahead, inr (record { entries = entries; unclashed = un; long = r }))
  units_refuse entries un (Moment given kept) r = absurd r
  units_refuse entries un EnvUnknown r = r
  units_refuse entries un EnvPending r = r
  units_refuse entries un Memory r = r

module _ (b : Book) (env : List ℕ) (t : ℤ) (project : ProjectNodes) (restate : Option Restate) (entries : List Entry) (gone unsteady_ones : List Pair) (due : List Due) (forgets : List Forget)
    (well : is_well_formed_book b ≡ true) (ahead : lt_z t b.moment ≡ false) (fit : is_list_fit b.snapshots (compared_list b env) ≡ true) (un : Unclashed b (compared_list b env) project.nodes entries) where
  abbrev the_plan : Plan
  the_plan = record { env = env; moment = t; run = false; project = project; entries = entries; removed = gone; unsteady = unsteady_ones; dues = due; forgets = forgets }

  long : length entries ≡ length project.nodes
  long = as_many b (compared_list b env) project.nodes entries un.are

  keeps : ((clock : Clock) → Shows clock t → forgets ≡ again clock b restate (planned project.nodes entries)) → (clock : Clock) → Shows clock t → IsPlan clock b project.nodes restate (promised the_plan)
  keeps is clock shows =
      let models = nodes_are project.nodes entries long in
      record {
        models = models;
        closed = closures_are project.nodes entries long;
        objects = objects_are b env well fit project.nodes entries un.are;
        clashes = none_clashes b (planned project.nodes entries) project.nodes models un.alone;
        forgets = is clock shows;
      }

  pub whole : gone ≡ removed b (compared_list b env) project.nodes → unsteady_ones ≡ unsteady (closures project.nodes) → ((clock : Clock) → Shows clock t → first_too_long clock (closures project.nodes) ≡ None)
      → ((clock : Clock) → Shows clock t → forgets ≡ again clock b restate (planned project.nodes entries)) → ((clock : Clock) → Shows clock t → due ≡ dues clock b forgets (planned project.nodes entries))
      → IsPlanOf b project.nodes env t restate the_plan
  whole away noted short is ds = record {
    ahead = ahead;
    env_is = refl;
    moment_is = refl;
    runs = refl;
    project_is = refl;
    entries_are = un.are;
    gone = away;
    unsteady_are = noted;
    short = short;
    dues_are = ds;
    keeps = keeps is;
  }
