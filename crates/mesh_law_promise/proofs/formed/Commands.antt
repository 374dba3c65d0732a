-- Commands keep worlds sound but for what is in doubt, what moves, and all parts of the objects that they plan,
-- whether they settle or not.
use Rattle.std.proofs.Common.{◌≡◌, Bool, true, false, cond, List, [], ◌++◌, refl, sym, subst}
use Rattle.mesh_list.proofs.Ascends.{and_left, and_right}
use Rattle.mesh_spec_model.specs.Horizons.{Clock}
use Rattle.mesh_house.specs.Step.{run}
use Rattle.mesh_house.specs.declared.world.Change.{Change}
use Rattle.mesh_house.specs.declared.world.World.{World}
use Rattle.mesh_spec_changes.specs.due.Parts.{Parts, either}
use Rattle.mesh_spec_changes.specs.Changes.{Plan, executes, opens, run_opens}
use Rattle.mesh_spec_changes.specs.Commands.{Apply, Command, Ingest, Invalidate, Janitor, MigrateAll, Nothing, RunAll, allows, asked, changes, is_not_behind, is_present}
use Rattle.mesh_spec_promise.specs.Histories.{IsMet, Settles, StaysFormed, left, met, planned_parts, sources_after}
use Rattle.mesh_spec_promise.specs.Moved.{moved}
use Rattle.mesh_spec_promise.specs.Sound.{Sound}
use Rattle.mesh_spec_promise.proofs.Doubts.{doubted}
use Rattle.mesh_law_changes.proofs.along.Along.{left_fewer}
use Rattle.mesh_law_promise.proofs.Applying.{first_of}
use Rattle.mesh_law_promise.proofs.Promise.{front_of_none, shows_raised, stays_sound}
use Rattle.mesh_law_promise.proofs.formed.Applying.{AreExecuted, apply_formed, apply_state, apply_whole, run_formed, run_whole}
use Rattle.mesh_law_promise.proofs.formed.Formed.{FormedAlong, formed_front}

module _ (x : Parts) (w : World) (before after : Clock) (sound : Sound x w) (made rest : List Change) where
  -- the parts in doubt at an exit of a command
  abbrev open_then : Command → Parts
  open_then c = either (met before after c w x) (planned_parts c)

  -- a command that settles whatever is in doubt
  settled : (c : Command) → IsMet before after w c → Settles after c w (met before after c w x) → changes after c w ≡ made ++ rest → Sound (open_then c) (run w made)
  settled c m settles is =
      doubted (left made (met before after c w x)) (open_then c) (run w made) (λ q free. left_fewer made (met before after c w x) q (first_of (met before after c w x) (planned_parts c) q free))
      (stays_sound x w c before after m sound settles made rest is)

  -- a command that is refused makes no change
  refused : (c : Command) → [] ≡ made ++ rest → Sound (open_then c) (run w made)
  refused c is =
      subst (λ (l : List Change). Sound (open_then c) (run w l)) (sym (front_of_none made rest is))
      (doubted x (open_then c) w (λ q free. first_of x (moved w before after (sources_after w c)) q (first_of (met before after c w x) (planned_parts c) q free)) sound)

  -- one that is allowed, along all of its changes
  apply_along : (plan : Plan) → IsMet before after w (Apply plan) → allows w (Apply plan) ≡ true → FormedAlong (open_then (Apply plan)) w (asked after (Apply plan) w)
  apply_along plan m allowed =
      apply_formed x w plan before after sound (and_right (is_present w.book) _ allowed) m.asked.moment m.was (shows_raised before after w (Apply plan) m allowed) (and_left (is_present w.book) _ allowed) m.asked

  run_along : (plan : Plan) → IsMet before after w (RunAll plan) → allows w (RunAll plan) ≡ true → FormedAlong (open_then (RunAll plan)) w (asked after (RunAll plan) w)
  run_along plan m allowed =
      run_formed x w plan before after sound (and_left (is_not_behind plan.moment w.book) _ (and_right (is_present w.book) _ allowed)) m.asked.0 m.was (shows_raised before after w (RunAll plan) m allowed) m.asked.1

  by_along : (c : Command) → (allows w c ≡ true → FormedAlong (open_then c) w (asked after c w)) → changes after c w ≡ made ++ rest → Sound (open_then c) (run w made)
  by_along c along is = go (allows w c) refl is
    where
      go : (b : Bool) → allows w c ≡ b → cond b (asked after c w) [] ≡ made ++ rest → Sound (open_then c) (run w made)
      go true e f = formed_front (open_then c) w made rest (subst (FormedAlong (open_then c) w) f (along e))
      go false e f = refused c f

  by_command : (c : Command) → IsMet before after w c → changes after c w ≡ made ++ rest → Sound (open_then c) (run w made)
  by_command (Apply plan) m is = by_along (Apply plan) (apply_along plan m) is
  by_command (RunAll plan) m is = by_along (RunAll plan) (run_along plan m) is
  by_command (Janitor t) m is = settled (Janitor t) m tt is
  by_command (Ingest name columns rows keep) m is = settled (Ingest name columns rows keep) m tt is
  by_command (Invalidate env) m is = settled (Invalidate env) m tt is
  by_command (MigrateAll renames) m is = settled (MigrateAll renames) m tt is
  by_command Nothing m is = settled Nothing m tt is

pub stays_formed : StaysFormed
stays_formed x w c before after m sound made rest is = by_command x w before after sound made rest c m is

-- plans are made whole
pub applies_whole : (x : Parts) (w : World) (plan : Plan) (before after : Clock) → IsMet before after w (Apply plan) → allows w (Apply plan) ≡ true → Sound x w
    → (made : List Change) × ((last : List Change) → opens plan ++ executes after w.book plan.forgets plan.models last plan.models (run w (opens plan)) ≡ made ++ last)
applies_whole x w plan before after m allowed sound =
    apply_whole x w plan before after sound (and_right (is_present w.book) _ allowed) m.asked.moment m.was (shows_raised before after w (Apply plan) m allowed) (and_left (is_present w.book) _ allowed) m.asked

-- an apply that isn't refused, before what comes last
pub applies_state : (x : Parts) (w : World) (plan : Plan) (before after : Clock) → IsMet before after w (Apply plan) → allows w (Apply plan) ≡ true → Sound x w
    → AreExecuted w.book plan.models (either (met before after (Apply plan) w x) (planned_parts (Apply plan))) (run w (opens plan ++ executes after w.book plan.forgets plan.models [] plan.models (run w (opens plan))))
applies_state x w plan before after m allowed sound =
    apply_state x w plan before after sound (and_right (is_present w.book) _ allowed) m.asked.moment m.was (shows_raised before after w (Apply plan) m allowed) (and_left (is_present w.book) _ allowed) m.asked

pub runs_whole : (x : Parts) (w : World) (plan : Plan) (before after : Clock) → IsMet before after w (RunAll plan) → allows w (RunAll plan) ≡ true → Sound x w
    → (made : List Change) × ((last : List Change) → run_opens plan ++ executes after w.book plan.forgets plan.models last plan.models (run w (run_opens plan)) ≡ made ++ last)
runs_whole x w plan before after m allowed sound =
    run_whole x w plan before after sound (and_left (is_not_behind plan.moment w.book) _ (and_right (is_present w.book) _ allowed)) m.asked.0 m.was (shows_raised before after w (RunAll plan) m allowed) m.asked.1
