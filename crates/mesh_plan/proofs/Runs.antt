-- Plans of runs, as wholes.
use Rattle.std.proofs.Common.{◌≡◌, ℕ, ℤ, suc, true, false, inl, inr, List, [], ◌∷◌, map, length, take, ◌++◌, Some, None, refl, sym, ◌∙◌, ap, subst}
use Rattle.std.specs.Prelude.{IsSome}
use Rattle.std.specs.List.{AllByRecursion, AllZip, Contains, slice_get}
use Rattle.std.specs.Int.Signed.{lt_z}
use Rattle.std.specs.Option.{is_some}
use Rattle.mesh_base.specs.declared.forgets.Forget.{Forget}
use Rattle.mesh_base.specs.declared.plans.Due.{Due}
use Rattle.mesh_base.specs.declared.plans.Entry.{Entry}
use Rattle.mesh_base.specs.declared.snapshots.Env.{Env}
use Rattle.mesh_base.specs.declared.snapshots.Node.{Node}
use Rattle.mesh_base.specs.declared.snapshots.Ref.{Ref}
use Rattle.mesh_base.specs.declared.snapshots.Snapshot.{Snapshot}
use Rattle.mesh_base.specs.rules.Proper.{ProjectNodes}
use Rattle.mesh_base.specs.declared.rules.plans.Plan.{Plan}
use Rattle.mesh_house_book.specs.declared.book.Book.{Book}
use Rattle.mesh_house_book.specs.WellFormed.{is_well_formed_book, snapshot_at}
use Rattle.mesh_spec_model.specs.Closures.{Closure, closures}
use Rattle.mesh_spec_model.specs.Horizons.{Clock, Shows}
use Rattle.mesh_law_query.proofs.Has.{Has, Has_from, Has_map_from}
use Rattle.mesh_law_query.proofs.Zips.{zip_append}
use Rattle.mesh_spec_changes.specs.listed.Closing.{closing}
use Rattle.mesh_spec_changes.specs.listed.Listed.{as_node, entries, is_list_fit, listed}
use Rattle.mesh_spec_changes.proofs.listed.Books.{fits}
use Rattle.mesh_spec_changes.proofs.listed.Entries.{is_entry}
use Rattle.mesh_spec_changes.proofs.listed.Projects as projects
use Rattle.mesh_spec_changes.specs.due.Dues.{again, dues}
use Rattle.mesh_spec_changes.specs.due.Plans.{Planned, planned, planned_by}
use Rattle.mesh_spec_changes.specs.due.Versions.{node_ref}
use Rattle.mesh_spec_changes.specs.Environments.{env_at}
use Rattle.mesh_spec_changes.specs.Planning.{IsKept}
use Rattle.mesh_plan_due.specs.Long.{first_too_long}
use Rattle.mesh_category.specs.declared.versions.faults.PlanFault.{PlanFault}
use Rattle.mesh_category.specs.declared.versions.faults.PlanFault.TheVariants.{Model, Moment, EnvUnknown, EnvPending, Memory}
use Rattle.mesh_category.proofs.versions.Steps.{take_got}
use Rattle.mesh_plan.specs.Entries.{IsRecorded}
use Rattle.mesh_plan.specs.Intervals.{RefusesUnits}
use Rattle.mesh_plan.specs.Running.{IsRunOf, RefusesRunOf}
use Rattle.mesh_plan.proofs.Beside.{list_fits}
use Rattle.mesh_plan.proofs.Models.{closures_are, nodes_are}

pub zipped_long : {A B : Type 0} (R : A → B → Type 0) (xs : List A) (ys : List B) → AllZip R xs ys → length ys ≡ length xs
zipped_long R [] [] h = refl
zipped_long R [] (y ∷ ys) h = absurd h
zipped_long R (x ∷ xs) [] h = absurd h
zipped_long R (x ∷ xs) (y ∷ ys) h = ap suc (zipped_long R xs ys h.1)

pub one_more_zip : {A B : Type 0} (R : A → B → Type 0) (xs : List A) (i next : ℕ) (x : A) (ys new : List B) (y : B) → next ≡ suc i → slice_get xs i ≡ Some x → AllZip R (take i xs) ys → R x y → new ≡ ys ++ y ∷ []
    → AllZip R (take next xs) new
one_more_zip {A} {B} R xs i next x ys new y e is was here more =
    subst (λ (l : List A). AllZip R l new) (sym (take_got xs i next x e is))
    (subst (AllZip R (take i xs ++ x ∷ [])) (sym more) (zip_append R (take i xs) ys (x ∷ []) (y ∷ []) was (here, tt)))

pub units_refuse_run : (b : Book) (e : Env) (t : ℤ) → lt_z t b.moment ≡ false → e.pending ≡ false → (fault : PlanFault) → RefusesUnits (listed b.snapshots e.list) t fault → RefusesRunOf b e t fault
units_refuse_run b e t ahead settled (Model name kind) r = (ahead, settled, r)
units_refuse_run b e t ahead settled (Moment given kept) r = absurd r
units_refuse_run b e t ahead settled EnvUnknown r = r
units_refuse_run b e t ahead settled EnvPending r = absurd r
units_refuse_run b e t ahead settled Memory r = r

module _ (b : Book) (list : List Ref) (well : is_well_formed_book b ≡ true) (fit : is_list_fit b.snapshots list ≡ true) where
  abbrev all : List Snapshot
  all = b.snapshots

  abbrev es : List Snapshot
  es = entries all list

  -- a model of the list is known, as the snapshot that it stands for
  known_is : (s : Snapshot) → Has s es → snapshot_at all (node_ref (as_node es s)) ≡ Some s
  known_is s h =
      let (i, own) = is_entry all list fit s h in
      let name : s.own.name ≡ s.name = (fits b s well own).name in
      ap (snapshot_at all) (λ j. record { name = name j; fingerprint = s.fingerprint }) ∙ own

  pub all_known : (n : Node) → Contains (listed all list) n → IsSome (snapshot_at all (node_ref n))
  all_known n h =
      let (s, k, e) = Has_map_from (as_node es) es n (Has_from (listed all list) n h) in
      subst (λ (m : Node). IsSome (snapshot_at all (node_ref m))) e (ap is_some (known_is s k))

  kept_by : (ss : List Snapshot) → ((s : Snapshot) → Has s ss → Has s es) → (xs : List Entry) → AllZip (IsRecorded b) (map (as_node es) ss) xs
      → AllByRecursion (IsKept b) (planned_by (map (as_node es) ss) (map (closing all) ss) xs)
  kept_by [] sub xs have = tt
  kept_by (s ∷ ss) sub [] have = tt
  kept_by (s ∷ ss) sub (x ∷ xs) have =
      let known = known_is s (sub s (inl refl)) in
      let both : Some have.0.snapshot ≡ Some s = sym have.0.known ∙ known in
      let same : have.0.snapshot ≡ s = cc in (
        record {
          snapshot = s;
          known = known;
          own = refl;
          rank = refl;
          object = sym (ap (λ (y : Entry). y.object) have.0.is ∙ ap (λ (y : Snapshot). y.object) same);
          closure = refl;
        },
        kept_by ss (λ u k. sub u (inr k)) xs have.1,
      )

  pub all_kept : (xs : List Entry) → AllZip (IsRecorded b) (listed all list) xs → AllByRecursion (IsKept b) (planned (listed all list) xs)
  all_kept xs have =
      subst (λ (cs : List Closure). AllByRecursion (IsKept b) (planned_by (listed all list) cs xs)) (sym (projects.closures_are b list well fit)) (kept_by es (λ s k. k) xs have)

module _ (b : Book) (env : List ℕ) (e : Env) (t : ℤ) (project : ProjectNodes) (entries_ : List Entry) (due : List Due) (forgets : List Forget)
    (well : is_well_formed_book b ≡ true) (ahead : lt_z t b.moment ≡ false) (known : env_at b env ≡ Some e) (settled : e.pending ≡ false) where
  abbrev the_run : Plan
  the_run = record { env = env; moment = t; run = true; project = project; entries = entries_; removed = []; unsteady = []; dues = due; forgets = forgets }

  abbrev nodes : List Node
  nodes = listed b.snapshots e.list

  pub whole_run : project.nodes ≡ nodes → AllZip (IsRecorded b) nodes entries_ → ((clock : Clock) → Shows clock t → first_too_long clock (closures nodes) ≡ None)
      → ((clock : Clock) → Shows clock t → forgets ≡ again clock b None (planned nodes entries_)) → ((clock : Clock) → Shows clock t → due ≡ dues clock b forgets (planned nodes entries_))
      → IsRunOf b env e t the_run
  whole_run are recorded short is ds =
      let long : length entries_ ≡ length nodes = zipped_long (IsRecorded b) nodes entries_ recorded in
      record {
        final = settled;
        ahead = ahead;
        env_is = refl;
        moment_is = refl;
        runs = refl;
        project_is = are;
        entries_are = recorded;
        gone = refl;
        steady = refl;
        short = short;
        dues_are = ds;
        keeps = λ clock shows.
            let seen : planned project.nodes entries_ ≡ planned nodes entries_ = ap (λ (ns : List Node). planned ns entries_) are in
            record {
              env = e;
              known = known;
              nodes = ap (map (λ (p : Planned). p.node)) seen ∙ nodes_are nodes entries_ long;
              closed = ap (map (λ (p : Planned). p.closure)) seen ∙ closures_are nodes entries_ long;
              models = subst (AllByRecursion (IsKept b)) (sym seen) (all_kept b e.list well (list_fits b env e well known) entries_ recorded);
              forgets = is clock shows ∙ ap (again clock b None) (sym seen);
            };
      }
