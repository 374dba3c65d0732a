-- A world stays well kept where environments go with their views.
use Rattle.std.proofs.Common.{◌≡◌, Bool, true, false, cond, ◌⊎◌, inl, inr, List, [], ◌∷◌, ◌++◌, map, Some, None, refl, sym, ap, ◌∙◌, arith}
use Rattle.std.specs.List.{flat_map}
use Rattle.std.specs.Ordering.{is_eq}
use Rattle.std.specs.declared.option.Option.{Option}
use Rattle.std.proofs.lemmas.Map.Lookups.{exact_bytes}
use Rattle.mesh_list.specs.Keyed.{found, placed}
use Rattle.mesh_list.proofs.Ascends.{and_left, and_right}
use Rattle.mesh_base_values.specs.Names.{name_cmp, text_cmp}
use Rattle.mesh_base_values.specs.NameOrder.{names_exact, names_total, texts_total}
use Rattle.mesh_base_values.specs.declared.values.Name.{Name}
use Rattle.mesh_base.specs.Keys.{env_name, ref_cmp, ref_itself, ref_name}
use Rattle.mesh_base.specs.declared.snapshots.Env.{Env}
use Rattle.mesh_base.specs.declared.snapshots.Ref.{Ref}
use Rattle.mesh_base.specs.declared.snapshots.Snapshot.{Snapshot}
use Rattle.mesh_base.specs.rules.Proper.{is_plain_schema}
use Rattle.mesh_house_book.specs.Changes.{joined, previous_of, put_for, with_refs}
use Rattle.mesh_house_book.specs.WellFormed.{are_kept, is_kept, snapshot_at}
use Rattle.mesh_law_query.proofs.Has.{Has, Has_cases, Has_from, Has_left, Has_map, Has_map_from, Has_right, Has_to}
use Rattle.mesh_spec_changes.proofs.listed.Books.{kept_at}
use Rattle.mesh_spec_changes.proofs.listed.Lists.{placed_from}
use Rattle.mesh_house.specs.Step.{run, step}
use Rattle.mesh_house.specs.World.{target_of, view, view_name}
use Rattle.mesh_house.specs.declared.world.Change.{Change}
use Rattle.mesh_house.specs.declared.world.Change.TheVariants.{DeleteEnv, DropView, SetPending}
use Rattle.mesh_house.specs.declared.world.World.{World}
use Rattle.mesh_spec_changes.specs.due.Parts.{Parts}
use Rattle.mesh_spec_changes.specs.Environments.{IsEnv, env_at, view_in}
use Rattle.mesh_spec_changes.specs.Kept.{both_lists, removes}
use Rattle.mesh_spec_promise.specs.Histories.{left}
use Rattle.mesh_spec_promise.specs.Sound.{IsEntry, Sound}
use Rattle.mesh_spec_promise.proofs.Fits.{plain_ref}
use Rattle.mesh_spec_promise.proofs.Found.{found-exchanged}
use Rattle.mesh_law_changes.proofs.EnvLaws.{env_deleted, listed_snapshot, own_of_old}
use Rattle.mesh_law_changes.proofs.Envs.{envs_rise, same_env}
use Rattle.mesh_law_changes.proofs.Pending.{env_pending}
use Rattle.mesh_law_changes.proofs.Rising.{found-without, item_passes}
use Rattle.mesh_law_changes.proofs.ViewGone.{view_dropped}
use Rattle.mesh_law_steps.proofs.again.Names.{from_order, in_order}
use Rattle.mesh_law_changes.specs.along.Along.{StaysAlong}
use Rattle.mesh_law_changes.proofs.along.Along.{along_append, along_end, along_kept}
use Rattle.mesh_law_steps.proofs.sweep.Lists.{AreApart, found_none}
use Rattle.mesh_law_steps.proofs.sweep.Walks.{env_removed, its_names, its_views, views_dropped}

-- what stands among references to which more are added stands among the former or among those added
with_from : (rs all : List Ref) (r : Ref) → Has r (with_refs all rs) → Has r all ⊎ Has r rs
with_from [] all r h = inl h
with_from (q ∷ qs) all r h = go (with_from qs (placed ref_cmp ref_itself q all) r h)
  where
    first : (q ≡ r) ⊎ Has r all → Has r all ⊎ Has r (q ∷ qs)
    first (inl e) = inr (inl e)
    first (inr k) = inl k

    go : Has r (placed ref_cmp ref_itself q all) ⊎ Has r qs → Has r all ⊎ Has r (q ∷ qs)
    go (inl k) = first (placed_from ref_cmp ref_itself q all r k)
    go (inr k) = inr (inr k)

-- what an environment leaves behind are entries of it
behind_entry : (e : Env) (r : Ref) → Has r (previous_of (Some e)) → Has r (both_lists e)
behind_entry e r h = go e.pending h
  where
    of_list : Has r [] ⊎ Has r e.list → Has r (e.list ++ e.previous)
    of_list (inl k) = absurd k
    of_list (inr k) = Has_left r e.list e.previous k

    of_both : Has r (with_refs [] e.list) ⊎ Has r e.previous → Has r (e.list ++ e.previous)
    of_both (inl k) = of_list (with_from e.list [] r k)
    of_both (inr k) = Has_right r e.list e.previous k

    go : (b : Bool) → Has r (cond b (joined e.list e.previous) e.list) → Has r (e.list ++ e.previous)
    go true k = of_both (with_from e.previous (with_refs [] e.list) r k)
    go false k = Has_left r e.list e.previous k

-- views of a pending environment go, one after another
views_along : (x : Parts) (w : World) → Sound x w → (e : Env) → IsEnv w.book e → e.pending ≡ true → (ns : List Name) → ((n : Name) → Has n ns → is_plain_schema n.schema ≡ true) → StaysAlong x w (map (λ n. DropView (view_in e.name n)) ns)
views_along x w sound e known pending [] plain = sound
views_along x w sound e known pending (n ∷ ns) plain =
    let next = along_kept x w (DropView (view_in e.name n)) sound (view_dropped x w sound e known pending n (plain n (inl refl))) (λ q. refl) in
    (sound, views_along (left (DropView (view_in e.name n) ∷ []) x) (step w (DropView (view_in e.name n))) next.1 e known pending ns (λ m h. plain m (inr h)))

module _ (x : Parts) (w : World) (sound : Sound x w) (e : Env) (known : IsEnv w.book e) where
  abbrev all : List Snapshot
  all = w.book.snapshots

  entry_snapshot : (r : Ref) → Has r (both_lists e) → (s : Snapshot) × (snapshot_at all r ≡ Some s)
  entry_snapshot r h = go (Has_cases r e.list e.previous h)
    where
      previous_kept : are_kept all e.previous ≡ true
      previous_kept = and_left (are_kept all e.previous) _ (and_right (are_kept all e.list) _ (own_of_old x w sound e known))

      go : Has r e.list ⊎ Has r e.previous → (s : Snapshot) × (snapshot_at all r ≡ Some s)
      go (inl k) = listed_snapshot x w sound e known r (Has_to e.list r k)
      go (inr k) = kept_at all r (item_passes (is_kept all) e.previous r previous_kept (Has_to e.previous r k))

  names_plain : (n : Name) → Has n (its_names e) → is_plain_schema n.schema ≡ true
  names_plain n h =
      let (r, i, is) = Has_map_from ref_name (both_lists e) n (from_order (map ref_name (both_lists e)) n h) in
      let (s, at) = entry_snapshot r i in
      ap (λ (m : Name). is_plain_schema m.schema) (sym is) ∙ plain_ref w.book r s sound.book.well_formed at

  -- the environment while it goes
  abbrev going : Env
  going = record { name = e.name; pending = true; list = []; previous = previous_of (Some e); expires = e.expires }

  abbrev pending : World
  pending = step w (SetPending e.name [] e.expires)

  abbrev first : Parts
  first = left (SetPending e.name [] e.expires ∷ []) x

  pending_along : StaysAlong x w (SetPending e.name [] e.expires ∷ [])
  pending_along = along_kept x w (SetPending e.name [] e.expires) sound (env_pending x w sound e.name [] e.expires refl (λ r k. absurd (omega (arith, k.1)))) (λ q. refl)

  pending_sound : Sound first pending
  pending_sound = pending_along.1

  going_known : IsEnv pending.book going
  going_known =
      ap (λ (o : Option Env). found text_cmp env_name e.name (put_for o text_cmp env_name (record { name = e.name; pending = true; list = []; previous = previous_of o; expires = e.expires }) w.book.environments)) known
      ∙ found-exchanged text_cmp exact_bytes env_name going e.name e w.book.environments known
      ∙ ap (λ (b : Bool). cond b (Some going) (env_at w.book e.name)) (same_env x w sound e.name)

  abbrev drops : List Change
  drops = map (λ n. DropView (view_in e.name n)) (its_names e)

  drops_along : StaysAlong first pending drops
  drops_along = views_along first pending pending_sound going going_known refl (its_names e) names_plain

  abbrev bare : World
  bare = run pending drops

  bare_sound : Sound (left drops first) bare
  bare_sound = along_end first pending drops drops_along

  bare_known : IsEnv bare.book going
  bare_known = ap (λ (v : World). env_at v.book e.name) (views_dropped e.name (its_names e) pending) ∙ going_known

  no_view : (r : Ref) → IsEntry going r → view bare (view_in e.name r.name) ≡ None
  no_view r (inl k) = absurd (omega (arith, k.1))
  no_view r (inr k) =
      let entry : Has r (both_lists e) = behind_entry e r (Has_from (previous_of (Some e)) r k) in
      let its_name : Has r.name (its_names e) = in_order (map ref_name (both_lists e)) r.name (Has_map ref_name (both_lists e) r r.name entry refl) in
      let its_view : Has (view_in e.name r.name) (its_views e) = Has_map (view_in e.name) (its_names e) r.name (view_in e.name r.name) its_name refl in
      ap (λ (v : World). view v (view_in e.name r.name)) (views_dropped e.name (its_names e) pending)
      ∙ ap target_of (found_none name_cmp names_total names_exact view_name (its_views e) pending.views (view_in e.name r.name) pending_sound.typed.views its_view)

  pub env_along : StaysAlong x w (removes e)
  env_along = (
    sound,
    along_append first pending drops (DeleteEnv e.name ∷ []) drops_along
        (along_kept (left drops first) bare (DeleteEnv e.name) bare_sound (env_deleted (left drops first) bare bare_sound going bare_known no_view) (λ q. refl)),
  )

  -- another one stays
  pub other_stays : (f : Env) → IsEnv w.book f → is_eq (text_cmp e.name f.name) ≡ false → IsEnv (run w (removes e)).book f
  other_stays f at other =
      ap (λ (v : World). env_at v.book f.name) (env_removed e w)
      ∙ found-without text_cmp texts_total exact_bytes env_name e.name f.name w.book.environments (envs_rise x w sound)
      ∙ ap (λ (b : Bool). cond b None (env_at w.book f.name)) other ∙ at

-- environments go, one after another
pub envs_along : (x : Parts) (w : World) → Sound x w → (es : List Env) → ((e : Env) → Has e es → IsEnv w.book e) → AreApart text_cmp env_name es → StaysAlong x w (flat_map removes es)
envs_along x w sound [] known apart = sound
envs_along x w sound (e ∷ es) known apart =
    let its = known e (inl refl) in
    let first = env_along x w sound e its in
    along_append x w (removes e) (flat_map removes es) first
    (envs_along (left (removes e) x) (run w (removes e)) (along_end x w (removes e) first) es (λ f h. other_stays x w sound e its f (known f (inr h)) (apart.0 f h)) apart.1)
