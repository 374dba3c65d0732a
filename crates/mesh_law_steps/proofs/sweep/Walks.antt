-- What the changes of a sweep do to a world, and how one part of a list follows another.
use Rattle.std.proofs.Common.{◌≡◌, ℕ, true, List, [], ◌∷◌, ◌++◌, map, refl, sym, ap, ◌∙◌, subst}
use Rattle.std.specs.List.{flat_map}
use Rattle.mesh_list.specs.Keyed.{without}
use Rattle.mesh_base_values.specs.NameOrder.{texts_total}
use Rattle.mesh_base_values.specs.Names.{name_cmp, text_cmp}
use Rattle.mesh_base_values.specs.declared.values.Name.{Name}
use Rattle.mesh_base.specs.Keys.{env_name, ref_name}
use Rattle.mesh_base.specs.declared.snapshots.Env.{Env}
use Rattle.mesh_house_book.specs.Changes.{previous_of, version_object}
use Rattle.mesh_house.specs.Objects.{object_name}
use Rattle.mesh_house.specs.Step.{run, step, with_book}
use Rattle.mesh_house.specs.World.{view_name}
use Rattle.mesh_house.specs.declared.world.Change.{Change}
use Rattle.mesh_house.specs.declared.world.Change.TheVariants.{DeleteEnv, DropObject, DropView, ForgetVersion, SetPending}
use Rattle.mesh_house.specs.declared.world.ViewOf.{ViewOf}
use Rattle.mesh_house.specs.declared.world.World.{World}
use Rattle.mesh_house.proofs.Runs.{run-append}
use Rattle.mesh_spec_changes.specs.due.Parts.{Parts}
use Rattle.mesh_spec_changes.specs.Changes.{names_by_order}
use Rattle.mesh_spec_changes.specs.Environments.{env_at, view_in}
use Rattle.mesh_spec_changes.specs.Kept.{both_lists, removes}
use Rattle.mesh_spec_promise.specs.Histories.{left}
use Rattle.mesh_spec_promise.specs.Sound.{Sound}
use Rattle.mesh_law_steps.proofs.again.Lists.{all_without, put_gone, without_more}
use Rattle.mesh_law_changes.specs.along.Along.{StaysAlong}
use Rattle.mesh_law_changes.proofs.along.Along.{along_append, along_end}

-- along a list that leaves a world, and then along another one in that world
pub along_turn : (x : Parts) (w z : World) (list more : List Change) → StaysAlong x w list → run w list ≡ z → (Sound (left list x) z → StaysAlong (left list x) z more) → StaysAlong x w (list ++ more)
along_turn x w z list more h is next =
    along_append x w list more h (subst (λ (u : World). StaysAlong (left list x) u more) (sym is) (next (subst (λ (u : World). Sound (left list x) u) is (along_end x w list h))))

pub versions_forgotten : (ns : List Name) (w : World) → run w (map (λ n. ForgetVersion n) ns) ≡ with_book w (record w.book { versions = all_without name_cmp version_object ns w.book.versions })
versions_forgotten [] w = refl
versions_forgotten (n ∷ ns) w = versions_forgotten ns (step w (ForgetVersion n))

pub objects_dropped : (ns : List Name) (w : World) → run w (map (λ n. DropObject n) ns) ≡ record w { objects = all_without name_cmp object_name ns w.objects }
objects_dropped [] w = refl
objects_dropped (n ∷ ns) w = objects_dropped ns (step w (DropObject n))

-- the models that an environment names, those of its previous list among them
abbrev pub its_names : Env → List Name
its_names e = names_by_order (map ref_name (both_lists e))

-- and their views
abbrev pub its_views : Env → List Name
its_views e = map (view_in e.name) (its_names e)

pub views_dropped : (env : List ℕ) (ns : List Name) (w : World) → run w (map (λ n. DropView (view_in env n)) ns) ≡ record w { views = all_without name_cmp view_name (map (view_in env) ns) w.views }
views_dropped env [] w = refl
views_dropped env (n ∷ ns) w = views_dropped env ns (step w (DropView (view_in env n)))

-- the world without an environment and its views
abbrev pub without_env : Env → World → World
without_env e w = record w {
  views = all_without name_cmp view_name (its_views e) w.views;
  book = record w.book { environments = without text_cmp env_name e.name w.book.environments };
}

pub env_removed : (e : Env) (w : World) → run w (removes e) ≡ without_env e w
env_removed e w =
    run-append (step w (SetPending e.name [] e.expires)) (map (λ n. DropView (view_in e.name n)) (its_names e)) (DeleteEnv e.name ∷ [])
    ∙ ap (λ (v : World). step v (DeleteEnv e.name)) (views_dropped e.name (its_names e) (step w (SetPending e.name [] e.expires)))
    ∙ ap (λ (l : List Env). record w { views = all_without name_cmp view_name (its_views e) w.views; book = record w.book { environments = l } })
    (put_gone text_cmp texts_total env_name (record { name = e.name; pending = true; list = []; previous = previous_of (env_at w.book e.name); expires = e.expires }) w.book.environments)

-- without several
abbrev pub without_envs : List Env → World → World
without_envs es w = record w {
  views = all_without name_cmp view_name (flat_map its_views es) w.views;
  book = record w.book { environments = all_without text_cmp env_name (map env_name es) w.book.environments };
}

pub envs_removed : (es : List Env) (w : World) → run w (flat_map removes es) ≡ without_envs es w
envs_removed [] w = refl
envs_removed (e ∷ es) w =
    run-append w (removes e) (flat_map removes es)
    ∙ ap (λ (v : World). run v (flat_map removes es)) (env_removed e w)
    ∙ envs_removed es (without_env e w)
    ∙ ap (λ (l : List ViewOf). record w { views = l; book = record w.book { environments = all_without text_cmp env_name (map env_name (e ∷ es)) w.book.environments } })
    (without_more name_cmp view_name (its_views e) (flat_map its_views es) w.views)
