-- The promise: a world stays sound at each exit of a command that settles, and an apply or a run that is made whole
-- leaves its environment final; so after any history.
use Rattle.std.proofs.Common.{◌≡◌, Bool, true, false, cond, List, [], ◌∷◌, ◌++◌, refl, sym, ap, ◌∙◌, subst}
use Rattle.std.specs.declared.option.Option.{Option}
use Rattle.std.specs.declared.option.Option.TheVariants.{None, Some}
use Rattle.std.proofs.lemmas.Bool.{not-true as not_false}
use Rattle.mesh_list.proofs.Ascends.{and_left, and_right}
use Rattle.mesh_base.specs.declared.snapshots.Env.{Env}
use Rattle.mesh_spec_model.specs.Horizons.{Clock, Shows}
use Rattle.mesh_house.specs.Step.{run}
use Rattle.mesh_house.specs.World.{empty_world}
use Rattle.mesh_house.specs.declared.world.Change.{Change}
use Rattle.mesh_house.specs.declared.world.Change.TheVariants.{Expire, Migrate}
use Rattle.mesh_house.specs.declared.world.World.{World}
use Rattle.mesh_spec_changes.specs.due.Parts.{Parts, either, no_parts}
use Rattle.mesh_spec_changes.specs.Commands.{Apply, Command, Ingest, Invalidate, Janitor, MigrateAll, Nothing, RunAll, allows, asked, is_final, is_not_behind, is_present}
use Rattle.mesh_spec_changes.specs.Environments.{env_at}
use Rattle.mesh_spec_promise.specs.Final.{Final}
use Rattle.mesh_spec_promise.specs.Histories.{History, IsMet, LeavesFinal, RunLeavesFinal, RunsShowRowsFromScratch, Settles, ShowsRowsFromScratch, StaysSound, begun, event, left, met, raised_to, sources_after}
use Rattle.mesh_spec_promise.specs.Moved.{moved}
use Rattle.mesh_spec_promise.specs.Sound.{Sound}
use Rattle.mesh_spec_promise.proofs.Doubts.{doubted}
use Rattle.mesh_law_changes.proofs.EnvLaws.{env_expired}
use Rattle.mesh_law_changes.proofs.Migrating.{book_moved}
use Rattle.mesh_law_changes.specs.along.Along.{StaysAlong}
use Rattle.mesh_law_changes.proofs.along.Along.{along_front, along_kept, left_none}
use Rattle.mesh_law_steps.proofs.sweep.Loading.{load_along}
use Rattle.mesh_law_steps.proofs.sweep.Sweeping.{sweep_along}
use Rattle.mesh_law_promise.proofs.Applying.{apply_along, apply_final, first_of, run_along, run_final}
use Rattle.mesh_law_promise.proofs.Lists.{env_named, list_is, run_names}

-- a list that is empty has an empty front
pub front_of_none : (made rest : List Change) → [] ≡ made ++ rest → made ≡ []
front_of_none [] rest e = refl
front_of_none (c ∷ cs) rest e = absurd (let clash : [] ≡ c ∷ (cs ++ rest) = e in cc)

-- an environment that is final is there and isn't pending
not_pending : (o : Option Env) (e : Env) → o ≡ Some e → is_final o ≡ true → e.pending ≡ false
not_pending None e at h = absurd (let clash : false ≡ true = h in cc)
not_pending (Some f) e at h = let same : f ≡ e = cc in ap (λ (k : Env). k.pending) (sym same) ∙ not_false f.pending h

-- the second clock shows the moment that a command raises the book's to
pub shows_raised : (before after : Clock) (w : World) (c : Command) → IsMet before after w c → allows w c ≡ true → Shows after (raised_to w c)
shows_raised before after w c m allowed = subst (Shows after) (ap (λ (b : Bool). cond b (raised_to w c) w.book.moment) allowed) m.is

-- along all changes of a command that is allowed
stays_along : (x : Parts) (w : World) (c : Command) (before after : Clock) → IsMet before after w c → allows w c ≡ true → Sound x w → Settles after c w (met before after c w x) → StaysAlong (met before after c w x) w (asked after c w)
stays_along x w (Apply plan) before after m allowed sound settled =
    apply_along x w plan before after sound (and_right (is_present w.book) _ allowed) m.asked.moment m.was (shows_raised before after w (Apply plan) m allowed) settled
    (and_left (is_present w.book) _ allowed) m.asked
stays_along x w (RunAll plan) before after m allowed sound settled =
    run_along x w plan before after sound (and_left (is_not_behind plan.moment w.book) _ (and_right (is_present w.book) _ allowed)) m.asked.0 m.was (shows_raised before after w (RunAll plan) m allowed) settled
    m.asked.1
stays_along x w (Janitor t) before after m allowed sound settled = sweep_along x w t before after sound (and_right (is_present w.book) _ allowed) m.asked m.was (shows_raised before after w (Janitor t) m allowed)
stays_along x w (Ingest name columns rows keep) before after m allowed sound settled = load_along x w before after sound m.was (shows_raised before after w (Ingest name columns rows keep) m allowed) name columns rows keep
stays_along x w (Invalidate env) before after m allowed sound settled =
    let y = either x (moved w before after w.sources) in
    let so = doubted x y w (first_of x (moved w before after w.sources)) sound in
    along_kept y w (Expire env) so (env_expired y w so env) (λ q. refl)
stays_along x w (MigrateAll renames) before after m allowed sound settled =
    let y = either x (moved w before after w.sources) in
    let so = doubted x y w (first_of x (moved w before after w.sources)) sound in
    along_kept y w (Migrate renames) so (book_moved y w so renames) (λ q. refl)
stays_along x w Nothing before after m allowed sound settled = doubted x (either x (moved w before after w.sources)) w (first_of x (moved w before after w.sources)) sound

pub stays_sound : StaysSound
stays_sound x w c before after m sound settled made rest is = go (allows w c) refl is
  where
    go : (b : Bool) → allows w c ≡ b → cond b (asked after c w) [] ≡ made ++ rest → Sound (left made (met before after c w x)) (run w made)
    go true e f =
        along_front (met before after c w x) w made rest (subst (StaysAlong (met before after c w x) w) f (stays_along x w c before after m e sound settled))
    go false e f =
        subst (λ (l : List Change). Sound (left l (met before after c w x)) (run w l)) (sym (front_of_none made rest f))
        (doubted x (left [] (met before after c w x)) w (λ q free. first_of x (moved w before after (sources_after w c)) q (left_none (met before after c w x) q free)) sound)

pub leaves_final : LeavesFinal
leaves_final x w plan before after m allowed sound settled =
    subst (λ (l : List Change). Final (run w l) after plan.env plan.models) (sym (ap (λ (b : Bool). cond b (asked after (Apply plan) w) []) allowed))
    (apply_final x w plan before after sound (and_right (is_present w.book) _ allowed) m.asked.moment m.was (shows_raised before after w (Apply plan) m allowed) settled
    (and_left (is_present w.book) _ allowed) m.asked)

pub run_leaves_final : RunLeavesFinal
run_leaves_final x w plan before after m allowed sound settled =
    let is = m.asked.1 in
    let later = and_right (is_present w.book) _ allowed in
    subst (λ (l : List Change). Final (run w l) after plan.env plan.models) (sym (ap (λ (b : Bool). cond b (asked after (RunAll plan) w) []) allowed))
    (run_final x w plan before after sound (and_left (is_not_behind plan.moment w.book) _ later) m.asked.0 m.was (shows_raised before after w (RunAll plan) m allowed) settled
    is (list_is after w.book plan sound.book.well_formed is) (env_named after w.book plan sound.book.well_formed is)
    (not_pending (env_at w.book plan.env) is.env is.known (and_right (is_not_behind plan.moment w.book) _ later)) (run_names after w.book plan sound.book.well_formed is))

-- every world of a history is sound, but for what is in doubt there
pub history_sound : Sound no_parts empty_world → {w : World} → {x : Parts} → History w x → Sound x w
history_sound empty begun = empty
history_sound empty (event w x h c before after m settled made rest is) = stays_sound x w c before after m (history_sound empty h) settled made rest is

pub shows_from_scratch : Sound no_parts empty_world → ShowsRowsFromScratch
shows_from_scratch empty w x h plan before after m allowed settled = leaves_final x w plan before after m allowed (history_sound empty h) settled

pub runs_show_from_scratch : Sound no_parts empty_world → RunsShowRowsFromScratch
runs_show_from_scratch empty w x h plan before after m allowed settled = run_leaves_final x w plan before after m allowed (history_sound empty h) settled
