-- The plans that an apply or a run has in a world that is kept well are apart.
use Rattle.std.proofs.Common.{◌≡◌, ℕ, ◌⊎◌, inl, inr, true, List, [], map, Some, None, refl, sym, ◌∙◌, ap, subst}
use Rattle.std.specs.List.{AllByRecursion, slice_get}
use Rattle.std.specs.declared.option.Option.{Option}
use Rattle.std.proofs.lemmas.List.Elements.{All-contains}
use Rattle.mesh_base_values.specs.Names.{text_cmp}
use Rattle.mesh_base.specs.Keys.{env_name}
use Rattle.mesh_base.specs.declared.definitions.Own.{Own}
use Rattle.mesh_base.specs.declared.forgets.Restate.{Restate}
use Rattle.mesh_base.specs.declared.snapshots.Env.{Env}
use Rattle.mesh_base.specs.declared.snapshots.Node.{Node}
use Rattle.mesh_base.specs.declared.snapshots.Snapshot.{Snapshot}
use Rattle.mesh_base.specs.rules.Proper.{is_proper}
use Rattle.mesh_house_book.specs.WellFormed.{is_well_formed_book, snapshot_at}
use Rattle.mesh_spec_model.specs.Closures.{closures, own_of}
use Rattle.mesh_spec_model.specs.Horizons.{Clock}
use Rattle.mesh_spec_changes.specs.listed.Closing.{closing}
use Rattle.mesh_spec_changes.specs.listed.Listed.{is_list_fit, listed}
use Rattle.mesh_spec_changes.proofs.listed.Entries.{env_lists_fit}
use Rattle.mesh_spec_changes.proofs.listed.Projects.{project_is_proper}
use Rattle.mesh_house.specs.declared.objects.Body.{Body}
use Rattle.mesh_house.specs.declared.objects.Body.TheVariants.{Rows, Stored}
use Rattle.mesh_house.specs.declared.objects.Object.{Object}
use Rattle.mesh_house.specs.declared.world.World.{World}
use Rattle.mesh_house.specs.World.{body_of, object_at}
use Rattle.mesh_spec_changes.specs.shown.Shown.{targets_of}
use Rattle.mesh_spec_changes.specs.due.Parts.{Parts}
use Rattle.mesh_spec_changes.specs.due.Plans.{Planned}
use Rattle.mesh_spec_changes.specs.Apart.{IsApart, targets_behind}
use Rattle.mesh_spec_changes.specs.Changes.{Plan, planned_ref}
use Rattle.mesh_spec_changes.specs.Planning.{IsPlan, IsRunPlan}
use Rattle.mesh_law_reuse.proofs.Known.{place_there}
use Rattle.mesh_spec_promise.specs.Sound.{IsBodyOf, Sound}
use Rattle.mesh_spec_promise.proofs.Ends.{found_contained}
use Rattle.mesh_spec_promise.proofs.Tables.{closed_own}
use Rattle.mesh_law_changes.specs.along.Ready.{AreApart, IsPlaced}
use Rattle.mesh_law_steps.proofs.puts.Models.{its_closure}
use Rattle.mesh_law_steps.proofs.puts.Objects.{known_again, new_twin}
use Rattle.mesh_law_steps.proofs.puts.Tables.{twin_own}
use Rattle.mesh_law_steps.proofs.opens.Lists.{of_all}
use Rattle.mesh_law_steps.proofs.opens.Plans.{plan_apart_and_ranked}
use Rattle.mesh_law_steps.proofs.opens.Runs.{run_placed}
use Rattle.mesh_law_promise.proofs.shown.Looking.{IsKnown, IsNew, look_apart}
use Rattle.mesh_law_promise.proofs.shown.Targets.{viewed}

module _ (clock : Clock) (x : Parts) (w : World) (nodes : List Node) (restate : Option Restate) (plan : Plan) (sound : Sound x w)
    (proper : is_proper nodes ≡ true) (is : IsPlan clock w.book nodes restate plan) where
  abbrev all : List Snapshot
  all = w.book.snapshots

  abbrev models : List Planned
  models = plan.models

  well : is_well_formed_book w.book ≡ true
  well = sound.book.well_formed

  module _ (i : ℕ) (p : Planned) (e : slice_get models i ≡ Some p) where
    -- what the book has of the model's reference has its parents and its object
    of_known : (s : Snapshot) → snapshot_at all (planned_ref p) ≡ Some s → IsKnown w models p
    of_known s at =
        let again = known_again clock w.book nodes restate plan well proper is i p e s at in
        record { snapshot = s; known = at; parents = sym again.parents; object = sym again.object }

    -- where it has none, a snapshot with the model's object has the model's definition, and is no view
    no_view : snapshot_at all (planned_ref p) ≡ None → (o : Object) → object_at w p.object ≡ Some o → targets_of o.body ≡ []
    no_view none o at = by_body o.body refl
      where
        by_body : (b : Body) → o.body ≡ b → targets_of b ≡ []
        by_body (Rows rows) is_b = refl
        by_body (Stored own targets) is_b =
            let user = sound.objects.named p.object o at in
            let s : Snapshot = user.snapshot in
            let (name, twin, table) = new_twin clock w.book nodes restate plan well proper is i p e sound.book.shared none s user.kept user.uses in
            let (parents, same, closures_are) = its_closure nodes proper models is.models is.closed i p e in
            let its_own : s.own ≡ p.node.own = sym (ap own_of (closed_own all s.rank s).1) ∙ twin_own (closing all s) p.closure twin ∙ ap own_of (sym same) in
            let body : IsBodyOf all s s.own.kind o.body = sound.objects.bodies s user.kept o (ap (object_at w) user.uses ∙ at) in
            absurd (table (ap (λ (d : Own). d.kind) (sym its_own) ∙ (viewed all s s.own.kind own targets (subst (IsBodyOf all s s.own.kind) is_b body)).0))

    of_new : snapshot_at all (planned_ref p) ≡ None → IsNew w p
    of_new none = record { none = none; alone = go (object_at w p.object) refl }
      where
        go : (o : Option Object) → object_at w p.object ≡ o → targets_behind (body_of o) ≡ []
        go None at = refl
        go (Some o) at = no_view none o at

    seat : IsKnown w models p ⊎ IsNew w p
    seat = go (snapshot_at all (planned_ref p)) refl
      where
        go : (o : Option Snapshot) → snapshot_at all (planned_ref p) ≡ o → IsKnown w models p ⊎ IsNew w p
        go None at = inr (of_new at)
        go (Some s) at = inl (of_known s at)

  pub plan_apart : IsApart w plan.models
  plan_apart =
      look_apart x w sound nodes proper models is.models is.closed (λ p h. let (i, e) = place_there models p h in seat i p e)
      (plan_apart_and_ranked clock w.book nodes restate plan sound.book proper is).0

-- models that are placed in the book of a world that is kept well, as a plan's are once they are put
pub placed_apart : (x : Parts) (w : World) → Sound x w → (nodes : List Node) → is_proper nodes ≡ true → (models : List Planned) → map (λ (p : Planned). p.node) models ≡ nodes
    → map (λ (p : Planned). p.closure) models ≡ closures nodes
    → AreApart models → AllByRecursion (IsPlaced models w.book.snapshots) models → IsApart w models
placed_apart x w sound nodes proper models are closed apart placed =
    look_apart x w sound nodes proper models are closed (λ p h. inl (seat p (of_all (IsPlaced models w.book.snapshots) models placed p h))) apart
  where
    seat : (p : Planned) → IsPlaced models w.book.snapshots p → IsKnown w models p
    seat p its = record { snapshot = its.snapshot; known = its.known; parents = its.parents; object = its.object }

pub run_apart : (clock : Clock) (x : Parts) (w : World) (plan : Plan) → Sound x w → IsRunPlan clock w.book plan → IsApart w plan.models
run_apart clock x w plan sound is =
    let (apart, ranked, put) = run_placed clock x w plan sound is in
    placed_apart x w sound (listed w.book.snapshots is.env.list) proper plan.models is.nodes is.closed apart (put w refl refl refl).placed
  where
    fit : is_list_fit w.book.snapshots is.env.list ≡ true
    fit =
        All-contains (λ (e : Env). is_list_fit w.book.snapshots e.list ≡ true) w.book.environments is.env (env_lists_fit w.book sound.book.well_formed)
        (found_contained text_cmp env_name plan.env is.env w.book.environments is.known)

    proper : is_proper (listed w.book.snapshots is.env.list) ≡ true
    proper = project_is_proper w.book is.env.list sound.book.well_formed fit

pub plans_apart : (clock : Clock) (x : Parts) (w : World) → Sound x w
    → ((nodes : List Node) (restate : Option Restate) (plan : Plan) → is_proper nodes ≡ true → IsPlan clock w.book nodes restate plan → IsApart w plan.models)
    × ((plan : Plan) → IsRunPlan clock w.book plan → IsApart w plan.models)
plans_apart clock x w sound = (λ nodes restate plan proper is. plan_apart clock x w nodes restate plan sound proper is, λ plan is. run_apart clock x w plan sound is)
