-- Every command, and so every call, leaves a world formed that was.
use Rattle.std.proofs.Common.{◌≡◌, inl, inr, ℕ, ℤ, pos, Bool, true, false, cond, List, [], ◌++◌, Some, Ok, Err, Result, sym, ◌∙◌, subst}
use Rattle.std.specs.Prelude.{◌&&◌}
use Rattle.std.specs.Int.Signed.{le_z}
use Rattle.std.proofs.lemmas.List.{append-nil}
use Rattle.mesh_list.proofs.Ascends.{and_left, and_right}
use Rattle.mesh_base_values.proofs.Tests.{le_says}
use Rattle.mesh_time_days.specs.Moments.{IsMoment}
use Rattle.mesh_house_book.specs.WellFormed.{is_moment, is_version}
use Rattle.mesh_spec_model.proofs.Clocks.{shown}
use Rattle.mesh_house.specs.House.{Told}
use Rattle.mesh_house.specs.Step.{run}
use Rattle.mesh_house.specs.declared.world.Change.{Change}
use Rattle.mesh_house.specs.declared.world.World.{World}
use Rattle.mesh_spec_changes.specs.Commands as promise
use Rattle.mesh_spec_changes.specs.Commands.{allows, changes}
use Rattle.mesh_spec_changes.specs.due.Parts.{Parts, all_parts, either}
use Rattle.mesh_io.specs.Told.{SourceTold}
use Rattle.mesh_layer.specs.Shows.{Tells}
use Rattle.mesh_cli_values.specs.scripts.Scripts.{is_skipped}
use Rattle.mesh_cli_answer.specs.Answers.{IsMade}
use Rattle.mesh_cli_print.specs.declared.printed.refusals.Refusal.{Refusal}
use Rattle.mesh_cli_print.specs.printed.Printing.{Sinks}
use Rattle.mesh_spec_promise.specs.Histories.{judged_at, met, planned_parts}
use Rattle.mesh_spec_promise.specs.Sound.{Sound}
use Rattle.mesh_spec_promise.proofs.Doubts.{doubted}
use Rattle.mesh_law_promise.proofs.formed.Commands.{stays_formed}
use Rattle.mesh_cli_words.specs.Lines.{IsLine}
use Rattle.mesh_cli_words.specs.declared.line.Command.{Command}
use Rattle.mesh_cli_words.specs.declared.line.Command.TheVariants.{Plan, Apply, Run, Evaluate, Fetchdf, Ingest, Janitor, Invalidate, Migrate, Trace, Impact, Batch, Demo}
use Rattle.mesh_cli_words.specs.declared.line.Line.{Line}
use Rattle.mesh_cli.specs.cli.Asked.{Makes}
use Rattle.mesh_cli.specs.cli.Ends.{Commanded}
use Rattle.mesh_cli.specs.cli.Scripts.{BatchEnds, ScriptEnds, TextsEnd, WordsEnd, asked, batch, ended, lines_run, stopped, unread, went}
use Rattle.mesh_cli.specs.cli.Sides.{Sides, here, place_or}
use Rattle.mesh_cli.specs.promise.Kept.{TellsFormed, TellsSound, unchanged, widened}
use Rattle.mesh_cli.specs.promise.Promised.{AsksFor}
use Rattle.mesh_cli.proofs.promise.Asked.{apply_judged, asked_is_met, made_is_asked, run_judged}
use Rattle.mesh_cli.proofs.promise.Calls.{answers_kept, as_before, step_kept, telling}

pub moment_says : (t : ℤ) → is_moment t ≡ true → IsMoment t
moment_says t h = (le_says (pos 0) t (and_left (le_z (pos 0) t) _ h), le_says t (pos 253_402_300_799) (and_right (le_z (pos 0) t) _ h))

one_or_other : (w : World) (k : promise.Command) (raised : ℤ) → IsMoment w.book.moment → IsMoment raised → IsMoment (cond (allows w k) raised w.book.moment)
one_or_other w k raised was is = go (allows w k)
  where
    go : (b : Bool) → IsMoment (cond b raised w.book.moment)
    go true = is
    go false = was

-- what a line asks for is judged at a moment of the calendar
judged_moment : (dir : List ℕ) (s : Sides) (c : Command) (w : World) (k : promise.Command) → IsMoment w.book.moment → AsksFor dir s c w k → IsMoment (judged_at w k)
judged_moment dir s (Plan env true workers moment again) w k was h = subst IsMoment (sym (apply_judged dir s env moment again w k h).1) (apply_judged dir s env moment again w k h).2
judged_moment dir s (Plan env false workers moment again) w k was h = subst (λ (c : promise.Command). IsMoment (judged_at w c)) (sym h) (one_or_other w promise.Nothing w.book.moment was was)
judged_moment dir s (Apply env workers moment again) w k was h = subst IsMoment (sym (apply_judged dir s env moment again w k h).1) (apply_judged dir s env moment again w k h).2
judged_moment dir s (Run env workers moment) w k was (t, at, real, (p, planned, is)) = subst (λ (c : promise.Command). IsMoment (judged_at w c)) (sym is) (subst IsMoment (sym (run_judged w env t p planned)) real)
judged_moment dir s (Evaluate model env first last) w k was h = subst (λ (c : promise.Command). IsMoment (judged_at w c)) (sym h) (one_or_other w promise.Nothing w.book.moment was was)
judged_moment dir s (Fetchdf query env) w k was h = subst (λ (c : promise.Command). IsMoment (judged_at w c)) (sym h) (one_or_other w promise.Nothing w.book.moment was was)
judged_moment dir s (Ingest name file append) w k was h =
    subst (λ (c : promise.Command). IsMoment (judged_at w c)) (sym h.has) (one_or_other w (promise.Ingest name h.source.columns h.source.rows append) w.book.moment was was)
judged_moment dir s (Janitor moment) w k was (t, at, real, is) = subst (λ (c : promise.Command). IsMoment (judged_at w c)) (sym is) (one_or_other w (promise.Janitor t) t was real)
judged_moment dir s (Invalidate env) w k was h = subst (λ (c : promise.Command). IsMoment (judged_at w c)) (sym h) (one_or_other w (promise.Invalidate env) w.book.moment was was)
judged_moment dir s Migrate w k was (renames, moved, is) = subst (λ (c : promise.Command). IsMoment (judged_at w c)) (sym is) (one_or_other w (promise.MigrateAll renames) w.book.moment was was)
judged_moment dir s (Trace model column) w k was h = subst (λ (c : promise.Command). IsMoment (judged_at w c)) (sym h) (one_or_other w promise.Nothing w.book.moment was was)
judged_moment dir s (Impact source column) w k was h = subst (λ (c : promise.Command). IsMoment (judged_at w c)) (sym h) (one_or_other w promise.Nothing w.book.moment was was)
judged_moment dir s Batch w k was h = subst (λ (c : promise.Command). IsMoment (judged_at w c)) (sym h) (one_or_other w promise.Nothing w.book.moment was was)
judged_moment dir s (Demo n workers) w k was h = subst (λ (c : promise.Command). IsMoment (judged_at w c)) (sym h) (one_or_other w promise.Nothing w.book.moment was was)

module _ (dir : List ℕ) (c : Command) (old : Sides) (x : Parts) (w : World) (formed : Sound x w) where
  its_moment : IsMoment w.book.moment
  its_moment = moment_says w.book.moment (and_left (is_moment w.book.moment) (is_version w.book.version) (and_left (is_moment w.book.moment && is_version w.book.version) _ formed.book.well_formed))

  made_formed : (told : Told) (list : List Change) → Makes dir old c w list → (made rest : List Change) → list ≡ made ++ rest → told.world ≡ Some (run w made) → TellsFormed dir old c x w told
  made_formed told list makes made rest is at =
      let (k, asks, are) = made_is_asked dir old c w list makes in
      let (before, was) = shown w.book.moment its_moment in
      let (after, now) = shown (judged_at w k) (judged_moment dir old c w k its_moment asks) in
      record {
        doubts = either (met before after k w x) (planned_parts k);
        world = run w made;
        told_is = at;
        sound = stays_formed x w k before after (record { was = was; is = now; asked = asked_is_met dir old c w k asks after now }) formed made rest (sym (are after now) ∙ is);
        left_so = widened k asks before after was now made rest (sym (are after now) ∙ is);
      }

  answered_formed : (new : Sides) (answer : Result (List ℕ) Refusal) → Tells old.house w → IsMade (Makes dir old c w) w old.house new.house answer → TellsFormed dir old c x w new.house
  answered_formed new (Ok text) told (list, makes, is) = made_formed new.house list makes list [] (sym (append-nil list)) is.world
  answered_formed new (Err r) told (inl untouched) = record { doubts = x; world = w; told_is = untouched.world ∙ told.world; sound = formed; left_so = unchanged }
  answered_formed new (Err r) told (inr (list, makes, is)) = made_formed new.house list makes is.made is.rest is.parts is.world

pub command_formed : (dir : List ℕ) (c : Command) (old new : Sides) (answer : Result (List ℕ) Refusal) → Commanded dir c old new answer → (x : Parts) (w : World) → Tells old.house w → Sound x w → TellsFormed dir old c x w new.house
command_formed dir c old new answer commanded x w told formed = answered_formed dir c old x w formed new answer told (commanded.house.made w told)

abbrev Any : List ℕ → Line → Sides → Type 0
Any dir line old = Unit {0}

formed_keeps : (dir : List ℕ) (line : Line) (old new : Sides) (answer : Result (List ℕ) Refusal) → Commanded (place_or line.paths dir) line.command old new answer → Any dir line old → TellsSound all_parts old.house → TellsSound all_parts new.house
formed_keeps dir line old new answer commanded any is =
    let so = command_formed (place_or line.paths dir) line.command old new answer commanded all_parts is.world (telling all_parts old.house is) is.sound in
    record { world = so.world; told_is = so.told_is; sound = doubted so.doubts all_parts so.world (λ q e. absurd (let clash : true ≡ false = e in cc)) so.sound }

texts_formed : (dir : List ℕ) {texts : List (List ℕ)} {old new : Sides} {sinks printed : Sinks} {s : ℕ} → TextsEnd dir texts old new sinks printed s → TellsSound all_parts old.house → TellsSound all_parts new.house
texts_formed dir (ended old sinks) is = is
texts_formed dir (went text texts old mid new sinks between printed s step more) is = texts_formed dir more (step_kept (TellsSound all_parts) Any formed_keeps dir text old mid sinks between 0 (is_skipped text) (λ line read. tt) is step)
texts_formed dir (stopped text texts old new sinks printed s short step) is = step_kept (TellsSound all_parts) Any formed_keeps dir text old new sinks printed s (is_skipped text) (λ line read. tt) is step

pub script_formed : (dir script : List ℕ) {old new : Sides} {sinks printed : Sinks} {s : ℕ} → ScriptEnds dir script old new sinks printed s → TellsSound all_parts old.house → TellsSound all_parts new.house
script_formed dir script (inl texts) is = texts_formed dir texts is
script_formed dir script {old = old} {new = new} (inr said) is = as_before (TellsSound all_parts) old new said.0 is

batch_formed : (dir : List ℕ) {input rest : SourceTold} {old new : Sides} {sinks printed : Sinks} {s : ℕ} → BatchEnds dir input rest old new sinks printed s → TellsSound all_parts old.house → TellsSound all_parts new.house
batch_formed dir {old = old} {new = new} (unread r read said) is = as_before (TellsSound all_parts) old new said.0 is
batch_formed dir (lines_run script read ends) is = script_formed dir script ends is

pub call_formed : {words : List (List ℕ)} {input rest : SourceTold} {old new : Sides} {sinks printed : Sinks} {s : ℕ} → WordsEnd words input rest old new sinks printed s → TellsSound all_parts old.house → TellsSound all_parts new.house
call_formed {words = words} {old = old} {new = new} (asked same ends) is = answers_kept (TellsSound all_parts) Any formed_keeps (IsLine words) here old new ends.answer (λ line read. tt) is ends.answered
call_formed (batch line read is_one ends) is = batch_formed (place_or line.paths here) ends is
