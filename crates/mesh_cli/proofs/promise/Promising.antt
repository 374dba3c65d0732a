-- What the public call promises follows from how it ends.
use Rattle.std.proofs.Common.{◌≡◌, inl, inr, ℕ, Bool, true, false, List, subst}
use Rattle.mesh_house.specs.House.{Told}
use Rattle.mesh_house.specs.World.{empty_world}
use Rattle.mesh_house.specs.declared.world.World.{World}
use Rattle.mesh_spec_changes.specs.due.Parts.{Parts, no_parts}
use Rattle.mesh_io.specs.Told.{SourceTold}
use Rattle.mesh_cli_values.specs.scripts.Scripts.{is_skipped}
use Rattle.mesh_cli_print.specs.printed.Printing.{Sinks}
use Rattle.mesh_spec_promise.specs.Sound.{Sound}
use Rattle.mesh_cli_words.specs.Lines.{IsLine}
use Rattle.mesh_cli_words.specs.declared.line.Line.{Line}
use Rattle.mesh_cli.specs.cli.Scripts.{AskedEnds, BatchEnds, IsTextLine, ScriptEnds, StepBy, TextsEnd, WordsEnd, asked, batch, ended, lines_run, stopped, unread, went}
use Rattle.mesh_cli.specs.cli.Sides.{Sides, here, place_or}
use Rattle.mesh_cli.specs.promise.Kept.{Passed}
use Rattle.mesh_cli.specs.promise.Promise.{AskedFinal, BatchFinal, CallPromise, FinalAtZero, IsReached, ScriptFinal, ScriptPromise, TextsFinal}
use Rattle.mesh_cli.proofs.promise.Calls.{line_final}
use Rattle.mesh_cli.proofs.promise.Forming.{call_formed, script_formed}
use Rattle.mesh_cli.proofs.promise.Reached.{Went, call_goes, events_sound, joined, script_goes, telling}

module _ (empty : Sound no_parts empty_world) where
  reached_sound : (told : Told) (w : World) (x : Parts) → IsReached told w x → Sound x w
  reached_sound told w x is = events_sound empty_world no_parts empty w x is.events

  asked_final : (asks : Line → Type 0) (dir : List ℕ) (old new : Sides) (sinks printed : Sinks) → AskedEnds asks dir old new sinks printed 0 → AskedFinal asks dir old new
  asked_final asks dir old new sinks printed ends =
      let (line, as_asked, done) = line_final asks dir old new sinks printed ends in
      (line, as_asked, λ w x is. let sound = reached_sound old.house w x is in done x w (telling x w old.house is.told_is sound) sound)

  step_final : (dir text : List ℕ) (old new : Sides) (sinks printed : Sinks) (b : Bool) → StepBy b dir text old new sinks printed 0 → Passed b (Unit {0}) (AskedFinal (IsTextLine text) dir old new)
  step_final dir text old new sinks printed true passed = tt
  step_final dir text old new sinks printed false ends = asked_final (IsTextLine text) dir old new sinks printed ends

  texts_final : (dir : List ℕ) {texts : List (List ℕ)} {old new : Sides} {sinks printed : Sinks} {s : ℕ} (ends : TextsEnd dir texts old new sinks printed s) → TextsFinal dir ends
  texts_final dir (ended old sinks) = tt
  texts_final dir (went text texts old mid new sinks between printed s step more) = (step_final dir text old mid sinks between (is_skipped text) step, texts_final dir more)
  texts_final dir (stopped text texts old new sinks printed s short step) = tt

  script_final : (dir script : List ℕ) {old new : Sides} {sinks printed : Sinks} {s : ℕ} (ends : ScriptEnds dir script old new sinks printed s) → ScriptFinal dir script ends
  script_final dir script (inl texts) = texts_final dir texts
  script_final dir script (inr said) = tt

  batch_final : (dir : List ℕ) {input rest : SourceTold} {old new : Sides} {sinks printed : Sinks} {s : ℕ} (ends : BatchEnds dir input rest old new sinks printed s) → BatchFinal dir ends
  batch_final dir (unread r read said) = tt
  batch_final dir (lines_run script read ends) = script_final dir script ends

  call_final : {words : List (List ℕ)} {input rest : SourceTold} {old new : Sides} {sinks printed : Sinks} {s : ℕ} (ends : WordsEnd words input rest old new sinks printed s) → FinalAtZero ends
  call_final {words = words} {old = old} {new = new} {sinks = sinks} {printed = printed} {s = s} (asked same ends) =
      λ zero. asked_final (IsLine words) here old new sinks printed (subst (λ (n : ℕ). AskedEnds (IsLine words) here old new sinks printed n) zero ends)
  call_final (batch line read is ends) = batch_final (place_or line.paths here) ends

  reached_on : (old new : Told) (w : World) (x : Parts) → IsReached old w x → Went x w new → (v : World) × (y : Parts) × IsReached new v y × Sound y v
  reached_on old new w x is on = (on.world, on.doubts, record { told_is = on.told_is; events = joined empty_world w no_parts x is.events on.world on.doubts on.events }, on.sound)

  pub call_promised : (words : List (List ℕ)) (input rest : SourceTold) (old new : Sides) (sinks printed : Sinks) (s : ℕ) → WordsEnd words input rest old new sinks printed s → CallPromise words input rest old new sinks printed s
  call_promised words input rest old new sinks printed s ends = record {
    ends = ends;
    sound_at_every_exit = λ w x is settles. reached_on old.house new.house w x is (call_goes ends x w is.told_is (reached_sound old.house w x is) settles);
    formed_at_every_exit = call_formed ends;
    final_at_zero = call_final ends;
  }

  pub script_promised : (dir script : List ℕ) (old new : Sides) (sinks printed : Sinks) (s : ℕ) → ScriptEnds dir script old new sinks printed s → ScriptPromise dir script old new sinks printed s
  script_promised dir script old new sinks printed s ends = record {
    ends = ends;
    sound_at_every_exit = λ w x is settles. reached_on old.house new.house w x is (script_goes dir script ends x w is.told_is (reached_sound old.house w x is) settles);
    formed_at_every_exit = script_formed dir script ends;
    final_at_zero = script_final dir script ends;
  }
