-- A command keeps a world sound at each exit, where what it asks for settles, and leaves an environment final.
use Rattle.std.proofs.Common.{◌≡◌, inl, inr, ℕ, List, [], ◌++◌, Some, Ok, Err, Result, sym, ap, ◌∙◌, subst}
use Rattle.std.proofs.lemmas.List.{append-nil}
use Rattle.mesh_house.specs.Step.{run}
use Rattle.mesh_house.specs.declared.world.Change.{Change}
use Rattle.mesh_house.specs.declared.world.World.{World}
use Rattle.mesh_spec_changes.specs.Commands as promise
use Rattle.mesh_spec_changes.specs.Commands.{changes}
use Rattle.mesh_spec_changes.specs.due.Parts.{Parts}
use Rattle.mesh_layer.specs.Shows.{Tells}
use Rattle.mesh_cli_answer.specs.Answers.{IsMade}
use Rattle.mesh_cli_print.specs.declared.printed.refusals.Refusal.{Refusal}
use Rattle.mesh_cli_print.specs.printed.Printing.{Sinks}
use Rattle.mesh_spec_promise.specs.Histories.{IsMet, left, met}
use Rattle.mesh_spec_promise.specs.Sound.{Sound}
use Rattle.mesh_law_promise.proofs.Promise.{leaves_final, run_leaves_final, stays_sound}
use Rattle.mesh_cli_words.specs.declared.line.Command.{Command}
use Rattle.mesh_cli.specs.cli.Asked.{Makes}
use Rattle.mesh_cli.specs.cli.Ends.{Commanded, Ended}
use Rattle.mesh_cli.specs.cli.Sides.{Sides}
use Rattle.mesh_cli.proofs.cli.Ending.{done_made}
use Rattle.mesh_cli.specs.promise.Kept.{IsAllMade, IsSettled, Leaves, LineSettles, TellsLeft, changed, untouched}
use Rattle.mesh_cli.specs.promise.Promised.{AsksFor, LeavesIt}
use Rattle.mesh_cli.proofs.promise.Asked.{MayLeave, asked_is_met, made_is_asked, may_leave}

module _ (dir : List ℕ) (c : Command) (old : Sides) (x : Parts) (w : World) (sound : Sound x w) where
  module _ (k : promise.Command) (asks : AsksFor dir old c w k) (its : IsSettled x w k) where
    is_met : IsMet its.before its.after w k
    is_met = record { was = its.was; is = its.is; asked = asked_is_met dir old c w k asks its.after its.is }

    -- at each exit
    kept_front : (made rest : List Change) → changes its.after k w ≡ made ++ rest → Sound (left made (met its.before its.after k w x)) (run w made)
    kept_front made rest is = stays_sound x w k its.before its.after is_met sound its.settles made rest is

  -- and where all is made
  leaves : (k : promise.Command) (asks : AsksFor dir old c w k) (its : IsSettled x w k) → MayLeave w k → LeavesIt its.after k w (run w (changes its.after k w))
  leaves (promise.Apply plan) asks its may = (may, leaves_final x w plan its.before its.after (is_met (promise.Apply plan) asks its) may sound its.settles)
  leaves (promise.RunAll plan) asks its may = (may, run_leaves_final x w plan its.before its.after (is_met (promise.RunAll plan) asks its) may sound its.settles)
  leaves (promise.Janitor t) asks its may = tt
  leaves (promise.Ingest name columns rows keep) asks its may = tt
  leaves (promise.Invalidate env) asks its may = tt
  leaves (promise.MigrateAll renames) asks its may = tt
  leaves promise.Nothing asks its may = tt

module _ (dir : List ℕ) (c : Command) (old : Sides) (x : Parts) (w : World) (sound : Sound x w) (settled : LineSettles dir old c x w) where
  front_sound : (k : promise.Command) (asks : AsksFor dir old c w k) (made rest : List Change) → changes (settled k asks).after k w ≡ made ++ rest → Sound (left made (met (settled k asks).before (settled k asks).after k w x)) (run w made)
  front_sound k asks made rest is = kept_front dir c old x w sound k asks (settled k asks) made rest is

  -- so in whatever the command leaves
  pub left_sound : (y : Parts) (v : World) → Leaves dir old c x w settled y v → Sound y v
  left_sound y v untouched = sound
  left_sound y v (changed k asks made rest is) = front_sound k asks made rest is

  -- a front of what the command makes
  made_left : (new : Sides) (list : List Change) → Makes dir old c w list → (made rest : List Change) → list ≡ made ++ rest → new.house.world ≡ Some (run w made) → TellsLeft dir old c x w settled new.house
  made_left new list makes made rest is told =
      let (k, asks, are) = made_is_asked dir old c w list makes in
      let front : changes (settled k asks).after k w ≡ made ++ rest = sym (are (settled k asks).after (settled k asks).is) ∙ is in
      record {
        doubts = left made (met (settled k asks).before (settled k asks).after k w x);
        world = run w made;
        told_is = told;
        sound = front_sound k asks made rest front;
        left_so = changed k asks made rest front;
      }

  answered_left : (new : Sides) (answer : Result (List ℕ) Refusal) → Tells old.house w → IsMade (Makes dir old c w) w old.house new.house answer → TellsLeft dir old c x w settled new.house
  answered_left new (Ok text) told (list, makes, is) = made_left new list makes list [] (sym (append-nil list)) is.world
  answered_left new (Err r) told (inl as_before) = record { doubts = x; world = w; told_is = as_before.world ∙ told.world; sound = sound; left_so = untouched }
  answered_left new (Err r) told (inr (list, makes, is)) = made_left new list makes is.made is.rest is.parts is.world

pub command_kept : (dir : List ℕ) (c : Command) (old new : Sides) (answer : Result (List ℕ) Refusal) → Commanded dir c old new answer → (x : Parts) (w : World) → Tells old.house w → Sound x w → (settled : LineSettles dir old c x w) → TellsLeft dir old c x w settled new.house
command_kept dir c old new answer commanded x w told sound settled = answered_left dir c old x w sound settled new answer told (commanded.house.made w told)

-- what is left at status 0: all changes were made
abbrev pub Left : (dir : List ℕ) (c : Command) (old new : Sides) (x : Parts) (w : World) → LineSettles dir old c x w → Type 0
Left dir c old new x w settled = (v : World) × (new.house.world ≡ Some v) × (k : promise.Command) × (asks : AsksFor dir old c w k) × IsAllMade x w k (settled k asks) v × LeavesIt (settled k asks).after k w v

-- so wherever what it asks for settles
abbrev pub LeftIfSettled : List ℕ → Command → Sides → Sides → Parts → World → Type 0
LeftIfSettled dir c old new x w = (v : World) × (new.house.world ≡ Some v) × (k : promise.Command) × AsksFor dir old c w k × ((settled : IsSettled x w k) → IsAllMade x w k settled v × LeavesIt settled.after k w v)

pub command_done : (dir : List ℕ) (c : Command) (old new : Sides) (sinks printed : Sinks) → Ended dir c old new sinks printed 0 → (x : Parts) (w : World) → Tells old.house w → Sound x w → LeftIfSettled dir c old new x w
command_done dir c old new sinks printed ends x w told sound =
    let (list, makes, is) = done_made dir c old new sinks printed w ends told in
    let (k, asks, are) = made_is_asked dir old c w list makes in
    (run w list, is.world, k, asks, λ its. all_made list k asks its (sym (are its.after its.is)))
  where
    all_made : (list : List Change) (k : promise.Command) → AsksFor dir old c w k → (its : IsSettled x w k) → changes its.after k w ≡ list → IsAllMade x w k its (run w list) × LeavesIt its.after k w (run w list)
    all_made list k asks its list_is =
        let whole : List Change = changes its.after k w in (
          record { made = ap (run w) (sym list_is); sound = subst (λ (l : List Change). Sound (left whole (met its.before its.after k w x)) (run w l)) list_is (kept_front dir c old x w sound k asks its whole [] (sym (append-nil whole))) },
          subst (λ (l : List Change). LeavesIt its.after k w (run w l)) list_is (leaves dir c old x w sound k asks its (may_leave dir old c w k asks)),
        )

pub command_leaves : (dir : List ℕ) (c : Command) (old new : Sides) (sinks printed : Sinks) → Ended dir c old new sinks printed 0 → (x : Parts) (w : World) → Tells old.house w → Sound x w → (settled : LineSettles dir old c x w) → Left dir c old new x w settled
command_leaves dir c old new sinks printed ends x w told sound settled =
    let (v, at, k, asks, is) = command_done dir c old new sinks printed ends x w told sound in
    let left = is (settled k asks) in
    (v, at, k, asks, left.0, left.1)
