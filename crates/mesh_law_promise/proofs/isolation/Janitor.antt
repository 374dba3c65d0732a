-- The janitor leaves the records of the environments that aren't over, and adds none.
use Rattle.std.proofs.Common.{◌≡◌, ℕ, ℤ, true, false, List, [], ◌∷◌, ◌++◌, map, Some, inl, inr, refl, sym, ◌∙◌, ap, subst}
use Rattle.std.proofs.lemmas.Map.Lookups.{exact_bytes}
use Rattle.std.specs.List.{flat_map}
use Rattle.mesh_list.proofs.Each.{each_found}
use Rattle.mesh_base_values.specs.NameOrder.{texts_total}
use Rattle.mesh_base_values.specs.Names.{text_cmp}
use Rattle.mesh_base_values.specs.declared.values.Name.{Name}
use Rattle.mesh_base.specs.Keys.{env_name, ref_name}
use Rattle.mesh_base.specs.declared.snapshots.Env.{Env}
use Rattle.mesh_base.specs.declared.snapshots.Snapshot.{Snapshot}
use Rattle.mesh_law_query.proofs.Has.{Has, Has_filter_from, Has_to}
use Rattle.mesh_law_query.proofs.Lists.{Each, Each_left}
use Rattle.mesh_house.specs.Step.{run, step}
use Rattle.mesh_house.specs.declared.world.Change.{Change}
use Rattle.mesh_house.specs.declared.world.Change.TheVariants.{DeleteEnv, DeleteSnapshot, DropObject, DropView, ForgetVersion, Moment, SetPending}
use Rattle.mesh_house.specs.declared.world.World.{World}
use Rattle.mesh_spec_changes.specs.due.Parts.{Parts}
use Rattle.mesh_spec_changes.proofs.due.Later.{Each_both}
use Rattle.mesh_spec_changes.specs.Changes.{names_by_order}
use Rattle.mesh_spec_changes.specs.Environments.{IsEnv, env_at, is_over, view_in}
use Rattle.mesh_spec_changes.specs.Kept.{both_lists, gone_snapshots, gone_tables, leaving, removes, sweeps}
use Rattle.mesh_spec_promise.specs.Sound.{Sound}
use Rattle.mesh_law_changes.proofs.Envs.{envs_rise}
use Rattle.mesh_law_changes.proofs.SnapshotGone.{by_recursion}
use Rattle.mesh_law_promise.proofs.isolation.Elsewhere.{found_without, pending_other}

-- a change of the janitor that isn't about the environment of a name
module _ (name : List ℕ) where
  abbrev pub IsElse : Change → Type 0
  IsElse (SetPending env list expires) = env ≡ name → ⊥
  IsElse (DeleteEnv env) = env ≡ name → ⊥
  IsElse (Moment t) = Unit {0}
  IsElse (DropView view) = Unit {0}
  IsElse (ForgetVersion object) = Unit {0}
  IsElse (DropObject object) = Unit {0}
  IsElse (DeleteSnapshot n fingerprint) = Unit {0}
  IsElse other = ⊥

  step_else : (w : World) (c : Change) → IsElse c → env_at (step w c).book name ≡ env_at w.book name
  step_else w (SetPending env list expires) h = pending_other w.book env name h list expires w refl
  step_else w (DeleteEnv env) h = found_without text_cmp exact_bytes env_name name env w.book.environments h
  step_else w (Moment t) h = refl
  step_else w (DropView view) h = refl
  step_else w (ForgetVersion object) h = refl
  step_else w (DropObject object) h = refl
  step_else w (DeleteSnapshot n fingerprint) h = refl
  step_else w other h = absurd h

  run_else : (w : World) (cs : List Change) → Each IsElse cs → env_at (run w cs).book name ≡ env_at w.book name
  run_else w [] h = refl
  run_else w (c ∷ cs) h = run_else (step w c) cs h.1 ∙ step_else w c h.0

  drops_else : (env : List ℕ) (ns : List Name) → Each IsElse (map (λ n. DropView (view_in env n)) ns)
  drops_else env [] = tt
  drops_else env (n ∷ ns) = (tt, drops_else env ns)

  forgets_else : (ns : List Name) → Each IsElse (map (λ n. ForgetVersion n) ns)
  forgets_else [] = tt
  forgets_else (n ∷ ns) = (tt, forgets_else ns)

  objects_else : (ns : List Name) → Each IsElse (map (λ n. DropObject n) ns)
  objects_else [] = tt
  objects_else (n ∷ ns) = (tt, objects_else ns)

  snapshots_else : (all : List Snapshot) → Each IsElse (map (λ (s : Snapshot). DeleteSnapshot s.name s.fingerprint) all)
  snapshots_else [] = tt
  snapshots_else (s ∷ ss) = (tt, snapshots_else ss)

  removes_else : (f : Env) → (f.name ≡ name → ⊥) → Each IsElse (removes f)
  removes_else f other = (other, Each_both IsElse (map (λ n. DropView (view_in f.name n)) (names_by_order (map ref_name (both_lists f)))) (DeleteEnv f.name ∷ []) (drops_else f.name (names_by_order (map ref_name (both_lists f)))) (other, tt))

  all_else : (fs : List Env) → ((f : Env) → Has f fs → f.name ≡ name → ⊥) → Each IsElse (flat_map removes fs)
  all_else [] h = tt
  all_else (f ∷ fs) h = Each_both IsElse (removes f) (flat_map removes fs) (removes_else f (h f (inl refl))) (all_else fs (λ g k. h g (inr k)))

-- of a name whose environment, where there is one, isn't over
pub janitor_records : (x : Parts) (w : World) (t : ℤ) → Sound x w → (made rest : List Change) → sweeps w.book t ≡ made ++ rest
    → (name : List ℕ) → ((e : Env) → env_at w.book name ≡ Some e → is_over t e.expires ≡ false) → env_at (run w made).book name ≡ env_at w.book name
janitor_records x w t sound made rest parts name free =
    run_else name w made (Each_left (IsElse name) made rest (subst (Each (IsElse name)) parts (
      tt,
      Each_both (IsElse name) (flat_map removes gone) _ (all_else name gone other)
          (Each_both (IsElse name) (map (λ n. ForgetVersion n) (gone_tables w.book t)) _ (forgets_else name (gone_tables w.book t))
          (Each_both (IsElse name) (map (λ n. DropObject n) (gone_tables w.book t)) _ (objects_else name (gone_tables w.book t)) (snapshots_else name (gone_snapshots w.book t)))),
    )))
  where
    gone : List Env
    gone = leaving t w.book.environments

    -- an environment that goes is over
    other : (f : Env) → Has f gone → f.name ≡ name → ⊥
    other f h same =
        let (there, over) = Has_filter_from (λ (g : Env). is_over t g.expires) w.book.environments f h in
        let known : IsEnv w.book f = by_recursion (λ (g : Env). IsEnv w.book g) w.book.environments f (each_found text_cmp texts_total env_name w.book.environments (envs_rise x w sound)) (Has_to w.book.environments f there) in
        let clash : true ≡ false = sym over ∙ free f (ap (env_at w.book) (sym same) ∙ known) in cc
