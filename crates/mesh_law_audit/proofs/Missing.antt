-- After the execution of an apply, and after a run, the objects of its models show rows, whether it settles or not. So
-- audits miss none.
use Rattle.std.proofs.Common.{◌≡◌, ℕ, Bool, true, false, cond, inl, inr, List, [], ◌∷◌, ◌++◌, map, None, Some, IsSome, refl, sym, ap, ◌∙◌, subst}
use Rattle.std.specs.List.{Contains}
use Rattle.std.specs.Option.{option_and_then}
use Rattle.std.specs.declared.option.Option.{Option}
use Rattle.std.proofs.lemmas.Bool.{not-true as not_false}
use Rattle.std.proofs.lemmas.List.{append-nil, append_assoc, map-append}
use Rattle.mesh_list.proofs.Ascends.{and_right}
use Rattle.mesh_base_values.specs.declared.values.Cell.{Cell}
use Rattle.mesh_base_values.specs.declared.values.Name.{Name}
use Rattle.mesh_base_values.specs.declared.values.Pair.{Pair}
use Rattle.mesh_base.specs.declared.snapshots.Env.{Env}
use Rattle.mesh_base.specs.declared.snapshots.Ref.{Ref}
use Rattle.mesh_spec_model.specs.Horizons.{Clock}
use Rattle.mesh_law_query.proofs.Has.{Has, Has_filter_from, Has_map_from, Has_to}
use Rattle.mesh_house.specs.Step.{run, step}
use Rattle.mesh_house.specs.World.{view}
use Rattle.mesh_house.specs.declared.world.Change.{Change}
use Rattle.mesh_house.specs.declared.world.Change.TheVariants.{Finalize, PointView, SetPending}
use Rattle.mesh_house.specs.declared.world.World.{World}
use Rattle.mesh_house.proofs.After.{view-pointed}
use Rattle.mesh_house.proofs.Runs.{run-append}
use Rattle.mesh_spec_changes.specs.due.Parts.{Parts, either}
use Rattle.mesh_spec_changes.specs.due.Plans.{Planned}
use Rattle.mesh_spec_changes.specs.shown.Shown.{object_rows}
use Rattle.mesh_spec_changes.specs.Changes.{Plan, applies, drops, expiry, gone, objects_by_name, planned_ref, points, promotes, refs_by_name, runs, target_of}
use Rattle.mesh_spec_changes.specs.Commands.{Apply, RunAll, allows, changes, is_final, is_not_behind, is_present}
use Rattle.mesh_spec_changes.specs.Environments.{IsEnv, env_at, view_in}
use Rattle.mesh_spec_changes.specs.Planning.{IsKept, IsRunPlan}
use Rattle.mesh_spec_promise.specs.Histories.{IsMet, met, planned_parts}
use Rattle.mesh_spec_promise.specs.Sound.{Sound}
use Rattle.mesh_layer.specs.Lost.{first_of, lost_object}
use Rattle.mesh_layer.proofs.Heights.{rows_found}
use Rattle.mesh_audit.specs.declared.audits.Audit.{Audit}
use Rattle.mesh_audit.specs.Audited.{Placed, asked, is_asked, lost_by, lost_model}
use Rattle.mesh_law_changes.proofs.Recorded.{same_object}
use Rattle.mesh_law_steps.proofs.again.Promoting.{behind}
use Rattle.mesh_law_promise.proofs.InTurn.{each_of}
use Rattle.mesh_law_promise.proofs.Lists.{env_named, list_is, run_names}
use Rattle.mesh_law_promise.proofs.Names.{HaveNames, objects_to, proper_names, refs_to}
use Rattle.mesh_law_promise.proofs.formed.Commands.{applies_whole, stays_formed}
use Rattle.mesh_law_promise.proofs.isolation.Others.{others_stay}
use Rattle.mesh_law_promise.proofs.shown.Standing.{view_shows_rows}
use Rattle.mesh_law_audit.specs.Execution.{execution}
use Rattle.mesh_law_audit.proofs.Rows.{place}

-- an object that shows rows isn't lost
not_lost : (w : World) (object : Name) → IsSome (object_rows w object) → lost_object w object ≡ None
not_lost w object h = go (object_rows w object) refl h
  where
    go : (o : Option (List (List Cell))) → object_rows w object ≡ o → IsSome o → lost_object w object ≡ None
    go None e k = absurd (let clash : false ≡ true = k in cc)
    go (Some rows) e k = rows_found w 4096 object rows e

none_first : {A : Type 0} (f : A → Option Name) (xs : List A) → ((x : A) → Has x xs → f x ≡ None) → first_of (map f xs) ≡ None
none_first f [] h = refl
none_first f (x ∷ xs) h = ap (λ (o : Option Name). first_of (o ∷ map f xs)) (h x (inl refl)) ∙ none_first f xs (λ y k. h y (inr k))

-- so audits of models whose objects show rows miss none
pub none_missed_of : (w : World) (ps : List Planned) → ((p : Planned) → Has p ps → IsSome (object_rows w p.object)) → (audits : List Audit) → first_of (map (lost_by w (map place ps)) audits) ≡ None
none_missed_of w ps shown audits = none_first (lost_by w (map place ps)) audits (λ a k. none_first (lost_model w) (asked (map place ps) a.query) (λ m h. of_model a m h))
  where
    of_model : (a : Audit) (m : Placed) → Has m (asked (map place ps) a.query) → lost_object w m.object ≡ None
    of_model a m h =
        let (p, i, e) = Has_map_from place ps m (Has_filter_from (is_asked a.query) (map place ps) m h).0 in
        subst (λ (o : Placed). lost_object w o.object ≡ None) e (not_lost w p.object (shown p i))

-- what a view that stands shows
shown_through : (z : Parts) (w : World) → Sound z w → (name object : Name) → view w name ≡ Some object → IsSome (object_rows w object)
shown_through z w sound name object at = subst (λ (o : Option Name). IsSome (option_and_then (object_rows w) o)) at (view_shows_rows z w sound name object at)

-- rows hang on the sources and the objects alone
same_rows : (u v : World) → u.sources ≡ v.sources → u.objects ≡ v.objects → (name : Name) → object_rows u name ≡ object_rows v name
same_rows u v e f name = (λ i. object_rows (record { sources = e i; objects = f i; views = u.views; book = u.book }) name) ∙ behind v.sources v.objects u.views v.views u.book v.book 4096 name

pointing : (env : List ℕ) (os : List Pair) (w : World) → ((run w (map (points env) os)).sources ≡ w.sources) × ((run w (map (points env) os)).objects ≡ w.objects)
pointing env [] w = (refl, refl)
pointing env (o ∷ os) w = pointing env os (step w (points env o))

-- a list behind and in front of one of its items
parted : {A : Type 0} (xs : List A) (x : A) → Has x xs → (front : List A) × (back : List A) × (xs ≡ front ++ x ∷ back)
parted [] x h = absurd h
parted (y ∷ ys) x (inl e) = ([], ys, ap (λ z. z ∷ ys) e)
parted (y ∷ ys) x (inr h) = let (front, back, e) = parted ys x h in (y ∷ front, back, ap (λ l. y ∷ l) e)

module _ (before after : Clock) (x : Parts) (w : World) (plan : Plan) (m : IsMet before after w (Apply plan)) (allowed : allows w (Apply plan) ≡ true) (sound : Sound x w) where
  -- the changes of the environment come behind the execution
  pub execution_first : applies after plan w ≡ execution after plan w ++ promotes w.book plan
  execution_first =
      let (list, whole) = applies_whole x w plan before after m allowed sound in
      whole (promotes w.book plan) ∙ ap (λ (l : List Change). l ++ promotes w.book plan) (sym (whole [] ∙ append-nil list))

  abbrev z : Parts
  z = either (met before after (Apply plan) w x) (planned_parts (Apply plan))

  abbrev v : World
  v = run w (execution after plan w)

  sound_behind : (made rest : List Change) → promotes w.book plan ≡ made ++ rest → Sound z (run v made)
  sound_behind made rest is =
      subst (Sound z) (run-append w (execution after plan w) made)
      (stays_formed x w (Apply plan) before after m sound (execution after plan w ++ made) rest
      (ap (λ (b : Bool). cond b (applies after plan w) []) allowed
      ∙ execution_first
      ∙ ap (λ (l : List Change). execution after plan w ++ l) is
      ∙ sym (append_assoc (execution after plan w) made rest)))

  names : HaveNames plan.models
  names = proper_names m.asked.nodes plan.models m.asked.planned.models m.asked.proper

  -- once the view of a model points at its object, that shows rows, and it showed them before
  pub apply_shown : (p : Planned) → Has p plan.models → IsSome (object_rows v p.object)
  apply_shown p h =
      let (front, back, split) = parted (objects_by_name plan.models) (target_of p) (objects_to plan.models names p h) in
      let point = points plan.env in
      let first : Change = SetPending plan.env (refs_by_name plan.models) (expiry plan.env plan.moment) in
      let tail : List Change = map (drops plan.env) (gone w.book plan.env plan.models) ++ Finalize plan.env ∷ [] in
      let made : List Change = first ∷ map point front in
      let is : promotes w.book plan ≡ (made ++ point (target_of p) ∷ []) ++ (map point back ++ tail) =
      ap (λ (os : List Pair). first ∷ (map point os ++ tail)) split
      ∙ ap (λ (l : List Change). first ∷ (l ++ tail)) (map-append point front (target_of p ∷ back))
      ∙ ap (λ (l : List Change). first ∷ l) (append_assoc (map point front) (point (target_of p) ∷ map point back) tail ∙ sym (append_assoc (map point front) (point (target_of p) ∷ []) (map point back ++ tail))) in
      let name : Name = view_in plan.env p.node.own.name in
      let u = run v made in
      let its : Sound z (step u (PointView name p.object)) = subst (Sound z) (run-append v made (point (target_of p) ∷ [])) (sound_behind (made ++ point (target_of p) ∷ []) (map point back ++ tail) is) in
      let at : view (step u (PointView name p.object)) name ≡ Some p.object = view-pointed u name p.object name ∙ ap (λ (b : Bool). cond b (Some p.object) (view u name)) (same_object name) in
      let stays = pointing plan.env front (step v first) in
      subst IsSome (same_rows (step u (PointView name p.object)) v stays.0 stays.1 p.object) (shown_through z (step u (PointView name p.object)) its name p.object at)

module _ (before after : Clock) (x : Parts) (w : World) (plan : Plan) (m : IsMet before after w (RunAll plan)) (allowed : allows w (RunAll plan) ≡ true) (sound : Sound x w) where
  abbrev run_world : World
  run_world = run w (runs after plan w)

  abbrev its : IsRunPlan after w.book plan
  its = m.asked.1

  abbrev e : Env
  e = its.env

  known : IsEnv w.book e
  known = ap (env_at w.book) (env_named after w.book plan sound.book.well_formed its) ∙ its.known

  final : e.pending ≡ false
  final = go (env_at w.book plan.env) its.known (and_right (is_not_behind plan.moment w.book) _ (and_right (is_present w.book) _ allowed))
    where
      go : (o : Option Env) → o ≡ Some e → is_final o ≡ true → e.pending ≡ false
      go None at h = absurd (let clash : false ≡ true = h in cc)
      go (Some f) at h = let same : f ≡ e = cc in ap (λ (k : Env). k.pending) (sym same) ∙ not_false f.pending h

  all_made : changes after (RunAll plan) w ≡ runs after plan w ++ []
  all_made = ap (λ (b : Bool). cond b (runs after plan w) []) allowed ∙ sym (append-nil (runs after plan w))

  -- the views of its environment stand as before
  pub run_shown : (p : Planned) → Has p plan.models → IsSome (object_rows run_world p.object)
  run_shown p h =
      let r = planned_ref p in
      let well = sound.book.well_formed in
      let kept = each_of (IsKept w.book) plan.models its.models p h in
      let listed : Contains e.list r = subst (λ (l : List Ref). Contains l r) (sym (list_is after w.book plan well its)) (Has_to (refs_by_name plan.models) r (refs_to plan.models (run_names after w.book plan well its) p h)) in
      let stays = others_stay x w (RunAll plan) after sound m.asked (runs after plan w) [] all_made e known tt in
      let at : view run_world (view_in e.name r.name) ≡ Some p.object = stays.1 r (inl listed) ∙ sound.views.final e known final r listed kept.snapshot kept.known ∙ ap Some kept.object in
      shown_through (either (met before after (RunAll plan) w x) (planned_parts (RunAll plan))) run_world (stays_formed x w (RunAll plan) before after m sound (runs after plan w) [] all_made) (view_in e.name r.name) p.object at
