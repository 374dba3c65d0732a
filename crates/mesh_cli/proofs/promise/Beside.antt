-- A command leaves the environments that it isn't for, and what is recorded and isn't computed again; the janitor
-- leaves views.
use Rattle.std.proofs.Common.{◌≡◌, ℕ, ℤ, Bool, true, false, cond, List, [], ◌∷◌, ◌++◌, Some, Result, refl, sym, ◌∙◌, subst}
use Rattle.std.specs.declared.option.Option.{Option}
use Rattle.mesh_base.specs.declared.forgets.Restate.{Restate}
use Rattle.mesh_base.specs.declared.snapshots.Env.{Env}
use Rattle.mesh_base.specs.declared.snapshots.Ref.{Ref}
use Rattle.mesh_base.specs.declared.snapshots.Snapshot.{Snapshot}
use Rattle.mesh_house_book.specs.declared.versions.Version.{Version}
use Rattle.mesh_house.specs.Step.{run}
use Rattle.mesh_house.specs.World.{version_of, view}
use Rattle.mesh_house.specs.declared.world.Change.{Change}
use Rattle.mesh_house.specs.declared.world.World.{World}
use Rattle.mesh_spec_changes.specs.shown.Shown.{view_rows}
use Rattle.mesh_spec_changes.specs.listed.Closing.{IsSnapshot}
use Rattle.mesh_spec_changes.specs.due.Parts.{Parts}
use Rattle.mesh_spec_changes.specs.Commands as promise
use Rattle.mesh_spec_changes.specs.Commands.{allows, changes}
use Rattle.mesh_spec_changes.specs.Environments.{IsEnv, env_at, is_over, view_in}
use Rattle.mesh_spec_changes.specs.Kept.{sweeps}
use Rattle.mesh_layer.specs.Shows.{Tells}
use Rattle.mesh_cli_print.specs.declared.printed.refusals.Refusal.{Refusal}
use Rattle.mesh_spec_promise.specs.Histories.{IsMet}
use Rattle.mesh_spec_promise.specs.Sound.{IsEntry, Sound}
use Rattle.mesh_law_promise.specs.isolation.Isolation.{DropsNone, LeavesOut}
use Rattle.mesh_law_promise.proofs.isolation.Janitor.{janitor_records}
use Rattle.mesh_law_promise.proofs.isolation.Others.{others_stay, records_stay}
use Rattle.mesh_law_promise.proofs.isolation.Spared.{not_again_kept}
use Rattle.mesh_law_promise.proofs.shown.Sweeping.{sweep_leaves}
use Rattle.mesh_cli_words.specs.declared.line.Command.{Command}
use Rattle.mesh_cli_words.specs.declared.line.Command.TheVariants.{Plan, Apply, Run, Evaluate, Fetchdf, Ingest, Janitor, Invalidate, Migrate, Trace, Impact, Batch, Demo}
use Rattle.mesh_cli.specs.cli.Ends.{Commanded}
use Rattle.mesh_cli.specs.cli.Sides.{Sides}
use Rattle.mesh_cli.specs.promise.Kept.{Widens, unchanged, widened}
use Rattle.mesh_cli.specs.promise.Others.{HasStayed, IsForOthers, KeepsTables, StillHas, same_rows, same_world}
use Rattle.mesh_cli.specs.promise.Promised.{AsksApply, AsksFor}
use Rattle.mesh_cli.proofs.promise.Asked.{asked_is_met}
use Rattle.mesh_cli.proofs.promise.Forming.{command_formed}

module _ (dir : List ℕ) (s : Sides) (w : World) (name : List ℕ) where
  apply_out : (env : List ℕ) (moment : Option ℤ) (again : Option Restate) (k : promise.Command) → AsksApply dir s env moment again w k → ¬ (name ≡ env) → LeavesOut k name
  apply_out env moment again k (t, at, real, project) other =
      let (p, planned, is) = project.has in subst (λ (c : promise.Command). LeavesOut c name) (sym is) (λ same. other (same ∙ planned.plan.env_is))

  -- what a line asks for that isn't for an environment leaves it out
  left_out : (c : Command) (k : promise.Command) → AsksFor dir s c w k → IsForOthers c name → LeavesOut k name
  left_out (Plan env true workers moment again) k h other = apply_out env moment again k h other
  left_out (Plan env false workers moment again) k h other = subst (λ (c : promise.Command). LeavesOut c name) (sym h) tt
  left_out (Apply env workers moment again) k h other = apply_out env moment again k h other
  left_out (Run env workers moment) k (t, at, real, (p, planned, is)) other = subst (λ (c : promise.Command). LeavesOut c name) (sym is) tt
  left_out (Evaluate model env first last) k h other = subst (λ (c : promise.Command). LeavesOut c name) (sym h) tt
  left_out (Fetchdf query env) k h other = subst (λ (c : promise.Command). LeavesOut c name) (sym h) tt
  left_out (Ingest source file append) k h other = subst (λ (c : promise.Command). LeavesOut c name) (sym h.has) tt
  left_out (Janitor moment) k h other = absurd other
  left_out (Invalidate env) k h other = subst (λ (c : promise.Command). LeavesOut c name) (sym h) other
  left_out Migrate k h other = absurd other
  left_out (Trace model column) k h other = subst (λ (c : promise.Command). LeavesOut c name) (sym h) tt
  left_out (Impact source column) k h other = subst (λ (c : promise.Command). LeavesOut c name) (sym h) tt
  left_out Batch k h other = subst (λ (c : promise.Command). LeavesOut c name) (sym h) tt
  left_out (Demo n workers) k h other = subst (λ (c : promise.Command). LeavesOut c name) (sym h) tt

module _ (dir : List ℕ) (s : Sides) (w : World) where
  apply_drops : (env : List ℕ) (moment : Option ℤ) (again : Option Restate) (k : promise.Command) → AsksApply dir s env moment again w k → DropsNone k
  apply_drops env moment again k (t, at, real, project) = let (p, planned, is) = project.has in subst DropsNone (sym is) tt

  -- what a line asks for that drops no tables drops none
  drops_none : (c : Command) (k : promise.Command) → AsksFor dir s c w k → KeepsTables c → DropsNone k
  drops_none (Plan env true workers moment again) k h keeps = apply_drops env moment again k h
  drops_none (Plan env false workers moment again) k h keeps = subst DropsNone (sym h) tt
  drops_none (Apply env workers moment again) k h keeps = apply_drops env moment again k h
  drops_none (Run env workers moment) k (t, at, real, (p, planned, is)) keeps = subst DropsNone (sym is) tt
  drops_none (Evaluate model env first last) k h keeps = subst DropsNone (sym h) tt
  drops_none (Fetchdf query env) k h keeps = subst DropsNone (sym h) tt
  drops_none (Ingest source file append) k h keeps = subst DropsNone (sym h.has) tt
  drops_none (Janitor moment) k h keeps = absurd keeps
  drops_none (Invalidate env) k h keeps = subst DropsNone (sym h) tt
  drops_none Migrate k (renames, moved, is) keeps = subst DropsNone (sym is) tt
  drops_none (Trace model column) k h keeps = subst DropsNone (sym h) tt
  drops_none (Impact source column) k h keeps = subst DropsNone (sym h) tt
  drops_none Batch k h keeps = subst DropsNone (sym h) tt
  drops_none (Demo n workers) k h keeps = subst DropsNone (sym h) tt

module _ (dir : List ℕ) (c : Command) (old new : Sides) (answer : Result (List ℕ) Refusal) (commanded : Commanded dir c old new answer) (x : Parts) (w : World) (told : Tells old.house w) (sound : Sound x w) where
  pub others_left : (e : Env) → IsEnv w.book e → IsForOthers c e.name → (v : World) × (new.house.world ≡ Some v) × HasStayed e w v
  others_left e known other = let so = command_formed dir c old new answer commanded x w told sound in go so.doubts so.world so.told_is so.left_so
    where
      go : (y : Parts) (v : World) → new.house.world ≡ Some v → Widens dir old c x w y v → (u : World) × (new.house.world ≡ Some u) × HasStayed e w u
      go y v at unchanged = (w, at, record { known = known; views = λ r there. refl })
      go y v at (widened k asks before after was is made rest front) =
          let (record_is, views) = others_stay x w k after sound (asked_is_met dir old c w k asks after is) made rest front e known (left_out dir old w e.name c k asks other) in
          (run w made, at, record { known = record_is; views = views })

  pub records_left : (name : List ℕ) → IsForOthers c name → (v : World) × (new.house.world ≡ Some v) × (env_at v.book name ≡ env_at w.book name)
  records_left name other = let so = command_formed dir c old new answer commanded x w told sound in go so.doubts so.world so.told_is so.left_so
    where
      go : (y : Parts) (v : World) → new.house.world ≡ Some v → Widens dir old c x w y v → (u : World) × (new.house.world ≡ Some u) × (env_at u.book name ≡ env_at w.book name)
      go y v at unchanged = (w, at, refl)
      go y v at (widened k asks before after was is made rest front) =
          (run w made, at, records_stay x w k after sound (asked_is_met dir old c w k asks after is) made rest front name (left_out dir old w name c k asks other))

  pub rows_left : KeepsTables c → (s : Snapshot) → IsSnapshot w.book.snapshots s → (version : Version) → version_of w.book s.object ≡ Some version → (v : World) × (new.house.world ≡ Some v) × StillHas dir old c w s version v
  rows_left keeps s known version there = let so = command_formed dir c old new answer commanded x w told sound in go so.doubts so.world so.told_is so.left_so
    where
      go : (y : Parts) (v : World) → new.house.world ≡ Some v → Widens dir old c x w y v → (u : World) × (new.house.world ≡ Some u) × StillHas dir old c w s version u
      go y v at unchanged = (w, at, same_world)
      go y v at (widened k asks before after was is made rest front) =
          let m : IsMet before after w k = record { was = was; is = is; asked = asked_is_met dir old c w k asks after is } in (
            run w made,
            at,
            same_rows (run w made) k asks before after was is (not_again_kept x w k before after m sound (drops_none dir old w c k asks keeps) made rest front s known version there),
          )

-- a view as it was: it points where it pointed, and shows the rows that it showed
abbrev IsAsBefore : World → Env → World → Type 0
IsAsBefore w e v = (r : Ref) → IsEntry e r → (view v (view_in e.name r.name) ≡ view w (view_in e.name r.name)) × (view_rows v (view_in e.name r.name) ≡ view_rows w (view_in e.name r.name))

module _ (x : Parts) (w : World) (sound : Sound x w) (e : Env) (known : IsEnv w.book e) where
  -- at each exit of the janitor
  front_left : (t : ℤ) → is_over t e.expires ≡ false → (made rest : List Change) → cond (allows w (promise.Janitor t)) (sweeps w.book t) [] ≡ made ++ rest → IsAsBefore w e (run w made)
  front_left t free made rest front = go (allows w (promise.Janitor t)) made front
    where
      go : (b : Bool) (list : List Change) → cond b (sweeps w.book t) [] ≡ list ++ rest → IsAsBefore w e (run w list)
      go true list is = λ r there. sweep_leaves x w t sound list rest is e known free r there
      go false [] is = λ r there. (refl, refl)
      go false (c ∷ cs) is = absurd (let clash : [] ≡ c ∷ (cs ++ rest) = is in cc)

  pub janitor_left : (dir : List ℕ) (moment : Option ℤ) (old new : Sides) (answer : Result (List ℕ) Refusal) → Commanded dir (Janitor moment) old new answer → Tells old.house w
      → ((t : ℤ) → AsksFor dir old (Janitor moment) w (promise.Janitor t) → is_over t e.expires ≡ false) → (v : World) × (new.house.world ≡ Some v) × IsAsBefore w e v
  janitor_left dir moment old new answer commanded told free = let so = command_formed dir (Janitor moment) old new answer commanded x w told sound in go so.doubts so.world so.told_is so.left_so
    where
      go : (y : Parts) (v : World) → new.house.world ≡ Some v → Widens dir old (Janitor moment) x w y v → (u : World) × (new.house.world ≡ Some u) × IsAsBefore w e u
      go y v at unchanged = (w, at, λ r there. (refl, refl))
      go y v at (widened k (t, place, real, is) before after was now made rest front) =
          (run w made, at, front_left t (free t (t, place, real, refl)) made rest (subst (λ (c : promise.Command). changes after c w ≡ made ++ rest) is front))

-- and of a name whose environment isn't over at its moment, the book has the record that it had
module _ (x : Parts) (w : World) (sound : Sound x w) (name : List ℕ) where
  front_recorded : (t : ℤ) → ((e : Env) → env_at w.book name ≡ Some e → is_over t e.expires ≡ false) → (made rest : List Change)
      → cond (allows w (promise.Janitor t)) (sweeps w.book t) [] ≡ made ++ rest → env_at (run w made).book name ≡ env_at w.book name
  front_recorded t free made rest front = go (allows w (promise.Janitor t)) made front
    where
      go : (b : Bool) (list : List Change) → cond b (sweeps w.book t) [] ≡ list ++ rest → env_at (run w list).book name ≡ env_at w.book name
      go true list is = janitor_records x w t sound list rest is name free
      go false [] is = refl
      go false (c ∷ cs) is = absurd (let clash : [] ≡ c ∷ (cs ++ rest) = is in cc)

  pub janitor_recorded : (dir : List ℕ) (moment : Option ℤ) (old new : Sides) (answer : Result (List ℕ) Refusal) → Commanded dir (Janitor moment) old new answer → Tells old.house w
      → ((t : ℤ) → AsksFor dir old (Janitor moment) w (promise.Janitor t) → (e : Env) → env_at w.book name ≡ Some e → is_over t e.expires ≡ false)
      → (v : World) × (new.house.world ≡ Some v) × (env_at v.book name ≡ env_at w.book name)
  janitor_recorded dir moment old new answer commanded told free = let so = command_formed dir (Janitor moment) old new answer commanded x w told sound in go so.doubts so.world so.told_is so.left_so
    where
      go : (y : Parts) (v : World) → new.house.world ≡ Some v → Widens dir old (Janitor moment) x w y v → (u : World) × (new.house.world ≡ Some u) × (env_at u.book name ≡ env_at w.book name)
      go y v at unchanged = (w, at, refl)
      go y v at (widened k (t, place, real, is) before after was now made rest front) =
          (run w made, at, front_recorded t (free t (t, place, real, refl)) made rest (subst (λ (c : promise.Command). changes after c w ≡ made ++ rest) is front))
