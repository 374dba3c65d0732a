-- The environments that a command doesn't switch stay, with their views.
use Rattle.std.proofs.Common.{◌≡◌, ℕ, ℤ, Bool, true, false, cond, ◌⊎◌, inl, inr, List, [], ◌∷◌, ◌++◌, map, Some, None, nat_eq, refl, sym, ◌∙◌, ap, subst}
use Rattle.std.specs.declared.option.Option.{Option}
use Rattle.std.proofs.lemmas.Map.Lookups.{exact_bytes}
use Rattle.mesh_list.proofs.Ascends.{and_left, and_right}
use Rattle.mesh_list.specs.Keyed.{found, placed}
use Rattle.mesh_base_values.specs.Names.{name_cmp, text_cmp}
use Rattle.mesh_base_values.specs.declared.values.Name.{Name}
use Rattle.mesh_base_values.specs.declared.values.Pair.{Pair}
use Rattle.mesh_base.specs.Keys.{env_name, ref_cmp, ref_itself}
use Rattle.mesh_base.specs.declared.forgets.Forget.{Forget}
use Rattle.mesh_base.specs.declared.snapshots.Env.{Env}
use Rattle.mesh_base.specs.declared.snapshots.Node.{Node}
use Rattle.mesh_base.specs.declared.snapshots.Ref.{Ref}
use Rattle.mesh_base.specs.rules.Proper.{is_plain_schema, is_proper}
use Rattle.mesh_base.specs.rules.Relations.{rank_over}
use Rattle.mesh_house_book.specs.Changes.{joined, previous_of, with_refs}
use Rattle.mesh_house_book.proofs.Exchanged.{found_key}
use Rattle.mesh_spec_model.specs.Closures.{closures}
use Rattle.mesh_spec_model.specs.Horizons.{Clock}
use Rattle.mesh_law_query.proofs.Has.{Has, Has_left, Has_map_from, Has_right}
use Rattle.mesh_law_query.proofs.Lists.{Each, Each_left}
use Rattle.mesh_spec_changes.proofs.listed.Lists.{placed_from}
use Rattle.mesh_house.specs.Step.{run, step}
use Rattle.mesh_house.specs.World.{target_of, view, view_name}
use Rattle.mesh_house.specs.declared.world.Change.{Change}
use Rattle.mesh_house.specs.declared.world.Change.TheVariants.{DropView, Expire, Finalize, MakeTable, MakeView, PointView, PutSnapshot, RecordMarks, RecordRange, ReplaceRows, SetPending, WriteRange}
use Rattle.mesh_house.specs.declared.world.ViewOf.{ViewOf}
use Rattle.mesh_house.specs.declared.world.World.{World}
use Rattle.mesh_spec_changes.specs.due.Parts.{Parts}
use Rattle.mesh_spec_changes.specs.due.Plans.{Planned}
use Rattle.mesh_spec_changes.proofs.due.Later.{Each_both}
use Rattle.mesh_spec_changes.specs.Changes.{Plan, drops, executes, forgetting, gone, objects_by_name, opens, parents_in, points, promotes, puts, run_opens, snapshot_of}
use Rattle.mesh_spec_changes.specs.Commands.{Apply, Command, Ingest, Invalidate, Janitor, MigrateAll, Nothing, RunAll, allows, asked, changes}
use Rattle.mesh_spec_changes.specs.Environments.{IsEnv, env_at, view_in}
use Rattle.mesh_spec_promise.specs.Histories.{IsAsked}
use Rattle.mesh_spec_promise.specs.Sound.{IsEntry, Sound}
use Rattle.mesh_spec_promise.proofs.ViewNames.{view_names}
use Rattle.mesh_law_reuse.proofs.Known.{place_there}
use Rattle.mesh_law_steps.proofs.puts.Models.{it_stands, planned_parent}
use Rattle.mesh_law_promise.proofs.shown.Leaving.{entry_among, entry_plain}
use Rattle.mesh_law_promise.proofs.Names.{gone_from, objects_from}
use Rattle.mesh_law_promise.specs.isolation.Isolation.{LeavesOut}
use Rattle.mesh_law_promise.proofs.isolation.Elsewhere.{IsOfTables, dropped_other, expired_other, finalized_other, pending_other, pointed_other, tables_alone}
use Rattle.mesh_law_promise.proofs.isolation.Fills.{IsOfObject, each_has, executes_each}

-- an environment with its views
module _ (e : Env) where
  -- a view is none of its views
  abbrev IsNone : Name → Type 0
  IsNone name = (r : Ref) → IsEntry e r → name ≡ view_in e.name r.name → ⊥

  -- a change touches neither
  abbrev pub IsHarmless : Change → Type 0
  IsHarmless (SetPending env list expires) = env ≡ e.name → ⊥
  IsHarmless (Finalize env) = env ≡ e.name → ⊥
  IsHarmless (Expire env) = env ≡ e.name → ⊥
  IsHarmless (PointView name target) = IsNone name
  IsHarmless (DropView name) = IsNone name
  IsHarmless other = IsOfTables other

  -- a world has what another one has of them
  record IsSpared (w v : World) : Type 0 where
    env : env_at v.book e.name ≡ env_at w.book e.name
    views : (r : Ref) → IsEntry e r → view v (view_in e.name r.name) ≡ view w (view_in e.name r.name)

  spared_then : (u v w : World) → IsSpared u v → IsSpared v w → IsSpared u w
  spared_then u v w h k = record { env = k.env ∙ h.env; views = λ r i. k.views r i ∙ h.views r i }

  of_tables : (w : World) (c : Change) → IsOfTables c → IsSpared w (step w c)
  of_tables w c h =
      let (envs, views) = tables_alone w c h in
      record {
        env = ap (λ (es : List Env). found text_cmp env_name e.name es) envs;
        views = λ r i. ap (λ (vs : List ViewOf). target_of (found name_cmp view_name (view_in e.name r.name) vs)) views;
      }

  step_spared : (w : World) (c : Change) → IsHarmless c → IsSpared w (step w c)
  step_spared w (SetPending env list expires) h = record { env = pending_other w.book env e.name h list expires w refl; views = λ r i. refl }
  step_spared w (Finalize env) h = record { env = finalized_other w.book env e.name h; views = λ r i. refl }
  step_spared w (Expire env) h = record { env = expired_other w.book env e.name h; views = λ r i. refl }
  step_spared w (PointView name target) h = record { env = refl; views = λ r i. pointed_other w name (view_in e.name r.name) (h r i) target }
  step_spared w (DropView name) h = record { env = refl; views = λ r i. dropped_other w name (view_in e.name r.name) (h r i) }
  step_spared w other h = of_tables w other h

  run_spared : (w : World) (cs : List Change) → Each IsHarmless cs → IsSpared w (run w cs)
  run_spared w [] h = record { env = refl; views = λ r i. refl }
  run_spared w (c ∷ cs) h = spared_then w (step w c) (run w (c ∷ cs)) (step_spared w c h.0) (run_spared (step w c) cs h.1)

  -- what makes and fills models is harmless
  fill_harmless : (name : Name) (c : Change) → IsOfObject name c → IsHarmless c
  fill_harmless name (MakeTable object columns) h = tt
  fill_harmless name (MakeView object columns own targets) h = tt
  fill_harmless name (ReplaceRows object rows) h = tt
  fill_harmless name (WriteRange object time start end rows) h = tt
  fill_harmless name (RecordRange object start end) h = tt
  fill_harmless name (RecordMarks object marks) h = tt
  fill_harmless name other h = absurd h

  puts_harmless : (t : ℤ) (all ps : List Planned) → Each IsHarmless (map (λ p. PutSnapshot (snapshot_of t all p)) ps)
  puts_harmless t all [] = tt
  puts_harmless t all (p ∷ ps) = (tt, puts_harmless t all ps)

  forgetting_harmless : (list : List Forget) → Each IsHarmless (forgetting list)
  forgetting_harmless [] = tt
  forgetting_harmless (q ∷ qs) = (tt, tt)

-- the names of a project's models, and of the entries of a list
models_plain : (nodes : List Node) → is_proper nodes ≡ true → (models : List Planned) → map (λ (p : Planned). p.node) models ≡ nodes
    → map (λ (p : Planned). p.closure) models ≡ closures nodes → (p : Planned) → Has p models → is_plain_schema p.node.own.name.schema ≡ true
models_plain nodes proper models are closed p h =
    let (i, at) = place_there models p h in
    and_left (is_plain_schema p.node.own.name.schema) _ (and_right (nat_eq p.node.rank (rank_over 0 (map planned_parent (parents_in models p)))) _ (it_stands nodes proper models are closed i p at))

from_refs : (rs all : List Ref) (r : Ref) → Has r (with_refs all rs) → Has r all ⊎ Has r rs
from_refs [] all r h = inl h
from_refs (q ∷ qs) all r h = go (from_refs qs (placed ref_cmp ref_itself q all) r h)
  where
    first : (q ≡ r) ⊎ Has r all → Has r all ⊎ Has r (q ∷ qs)
    first (inl e) = inr (inl e)
    first (inr k) = inl k

    go : Has r (placed ref_cmp ref_itself q all) ⊎ Has r qs → Has r all ⊎ Has r (q ∷ qs)
    go (inl k) = first (placed_from ref_cmp ref_itself q all r k)
    go (inr k) = inr (inr k)

from_joined : (a b : List Ref) (r : Ref) → Has r (joined a b) → Has r (a ++ b)
from_joined a b r h = go (from_refs b (with_refs [] a) r h)
  where
    first : Has r [] ⊎ Has r a → Has r (a ++ b)
    first (inl k) = absurd k
    first (inr k) = Has_left r a b k

    go : Has r (with_refs [] a) ⊎ Has r b → Has r (a ++ b)
    go (inl k) = first (from_refs a [] r k)
    go (inr k) = Has_right r a b k

module _ (x : Parts) (w : World) (sound : Sound x w) where
  -- what an environment leaves behind are entries of it
  previous_plain : (name : List ℕ) (r : Ref) → Has r (previous_of (env_at w.book name)) → is_plain_schema r.name.schema ≡ true
  previous_plain name r h = go (env_at w.book name) refl h
    where
      go : (o : Option Env) → env_at w.book name ≡ o → Has r (previous_of o) → is_plain_schema r.name.schema ≡ true
      go None e k = absurd k
      go (Some f) e k = entry_plain x w sound f its r (by_pending f.pending k)
        where
          its : IsEnv w.book f
          its = ap (env_at w.book) (found_key text_cmp env_name exact_bytes name f w.book.environments e) ∙ e

          by_pending : (b : Bool) → Has r (cond b (joined f.list f.previous) f.list) → Has r (f.list ++ f.previous)
          by_pending true i = from_joined f.list f.previous r i
          by_pending false i = Has_left r f.list f.previous i

  -- of an environment whose entries' schemas are plain, as those of the book are
  module _ (e : Env) (entries : (r : Ref) → IsEntry e r → is_plain_schema r.name.schema ≡ true) where
    -- a view of another environment is none of its views
    other_view : (env : List ℕ) (n : Name) → is_plain_schema n.schema ≡ true → (env ≡ e.name → ⊥) → IsNone e (view_in env n)
    other_view env n plain other r i same = other (view_names env e.name n r.name plain (entries r i) same).0

    module _ (plan : Plan) (other : plan.env ≡ e.name → ⊥) (plain : (p : Planned) → Has p plan.models → is_plain_schema p.node.own.name.schema ≡ true) where
      points_harmless : Each (IsHarmless e) (map (points plan.env) (objects_by_name plan.models))
      points_harmless = each_has (IsHarmless e) (map (points plan.env) (objects_by_name plan.models)) (λ c h. at c (Has_map_from (points plan.env) (objects_by_name plan.models) c h))
        where
          at : (c : Change) → (o : Pair) × Has o (objects_by_name plan.models) × (points plan.env o ≡ c) → IsHarmless e c
          at c (o, h, is) =
              let (p, i, named) = objects_from plan.models o h in
              subst (IsHarmless e) is (other_view plan.env o.first (ap (λ (q : Pair). is_plain_schema q.first.schema) (sym named) ∙ plain p i) other)

      drops_harmless : Each (IsHarmless e) (map (drops plan.env) (gone w.book plan.env plan.models))
      drops_harmless = each_has (IsHarmless e) (map (drops plan.env) (gone w.book plan.env plan.models)) (λ c h. at c (Has_map_from (drops plan.env) (gone w.book plan.env plan.models) c h))
        where
          at : (c : Change) → (n : Name) × Has n (gone w.book plan.env plan.models) × (drops plan.env n ≡ c) → IsHarmless e c
          at c (n, h, is) =
              let (r, i, named, unlisted) = gone_from w.book plan.env plan.models n h in
              subst (IsHarmless e) is (other_view plan.env n (ap (λ (m : Name). is_plain_schema m.schema) (sym named) ∙ previous_plain plan.env r i) other)

      promotes_harmless : Each (IsHarmless e) (promotes w.book plan)
      promotes_harmless = (
        other,
        Each_both (IsHarmless e) (map (points plan.env) (objects_by_name plan.models)) _ points_harmless
            (Each_both (IsHarmless e) (map (drops plan.env) (gone w.book plan.env plan.models)) (Finalize plan.env ∷ []) drops_harmless (other, tt)),
      )

    executes_harmless : (clock : Clock) (plan : Plan) (last : List Change) → Each (IsHarmless e) last → (v : World)
        → Each (IsHarmless e) (executes clock w.book plan.forgets plan.models last plan.models v)
    executes_harmless clock plan last ends v = executes_each (IsHarmless e) clock w.book plan.forgets plan.models last ends plan.models (λ p h c its. fill_harmless e p.object c its) v

    asked_harmless : (clock : Clock) (c : Command) → IsAsked clock w c → LeavesOut c e.name → Each (IsHarmless e) (asked clock c w)
    asked_harmless clock (Apply plan) is other =
        let differs : plan.env ≡ e.name → ⊥ = λ same. other (sym same) in
        Each_both (IsHarmless e) (opens plan) _
        (tt, Each_both (IsHarmless e) (puts plan.moment plan.models) (forgetting plan.forgets) (puts_harmless e plan.moment plan.models plan.models) (forgetting_harmless e plan.forgets))
        (executes_harmless clock plan (promotes w.book plan) (promotes_harmless plan differs (models_plain is.nodes is.proper plan.models is.planned.models is.planned.closed)) (run w (opens plan)))
    asked_harmless clock (RunAll plan) is other = Each_both (IsHarmless e) (run_opens plan) _ (tt, forgetting_harmless e plan.forgets) (executes_harmless clock plan [] tt (run w (run_opens plan)))
    asked_harmless clock (Janitor t) is other = absurd other
    asked_harmless clock (Ingest name columns rows keep) is other = (tt, tt)
    asked_harmless clock (Invalidate env) is other = ((λ same. other (sym same)), tt)
    asked_harmless clock (MigrateAll renames) is other = absurd other
    asked_harmless clock Nothing is other = tt

    changes_harmless : (clock : Clock) (c : Command) → IsAsked clock w c → LeavesOut c e.name → Each (IsHarmless e) (changes clock c w)
    changes_harmless clock c is other = go (allows w c)
      where
        go : (b : Bool) → Each (IsHarmless e) (cond b (asked clock c w) [])
        go true = asked_harmless clock c is other
        go false = tt

pub others_stay : (x : Parts) (w : World) (c : Command) (clock : Clock) → Sound x w → IsAsked clock w c → (made rest : List Change) → changes clock c w ≡ made ++ rest → (e : Env)
    → IsEnv w.book e → LeavesOut c e.name
    → IsEnv (run w made).book e × ((r : Ref) → IsEntry e r → view (run w made) (view_in e.name r.name) ≡ view w (view_in e.name r.name))
others_stay x w c clock sound is made rest same e known other =
    let spared = run_spared e w made (Each_left (IsHarmless e) made rest (subst (Each (IsHarmless e)) same (changes_harmless x w sound e (λ r i. entry_plain x w sound e known r (entry_among x w sound e r i)) clock c is other))) in
    (spared.env ∙ known, spared.views)

-- of any other name, the book has the environment that it had, or still none
pub records_stay : (x : Parts) (w : World) (c : Command) (clock : Clock) → Sound x w → IsAsked clock w c → (made rest : List Change) → changes clock c w ≡ made ++ rest → (name : List ℕ)
    → LeavesOut c name → env_at (run w made).book name ≡ env_at w.book name
records_stay x w c clock sound is made rest same name other =
    let e : Env = record { name = name; pending = false; list = []; previous = []; expires = None } in
    (run_spared e w made (Each_left (IsHarmless e) made rest (subst (Each (IsHarmless e)) same (changes_harmless x w sound e (λ r i. absurd (entry_among x w sound e r i)) clock c is other)))).env
