-- Events keep worlds sound, calls are events, and what is done after any from the empty world leaves what it promises.
use Rattle.std.proofs.Common.{◌≡◌, inl, inr, ℕ, Bool, true, false, List, [], Some, Result, sym, ap, ◌∙◌, subst}
use Rattle.std.proofs.lemmas.List.{append-nil}
use Rattle.mesh_house.specs.House.{Told}
use Rattle.mesh_house.specs.Step.{run}
use Rattle.mesh_house.specs.declared.world.Change.{Change}
use Rattle.mesh_house.specs.World.{empty_world}
use Rattle.mesh_house.specs.declared.world.World.{World}
use Rattle.mesh_spec_changes.specs.Commands.{changes}
use Rattle.mesh_spec_changes.specs.due.Parts.{Parts, no_parts}
use Rattle.mesh_io.specs.Told.{SourceTold}
use Rattle.mesh_layer.specs.Shows.{Tells}
use Rattle.mesh_cli_values.specs.scripts.Scripts.{is_skipped}
use Rattle.mesh_cli_print.specs.declared.printed.refusals.Refusal.{Refusal}
use Rattle.mesh_cli_print.specs.printed.Printing.{Sinks}
use Rattle.mesh_spec_promise.specs.Histories.{left, met}
use Rattle.mesh_spec_promise.specs.Sound.{Sound}
use Rattle.mesh_cli_words.specs.Lines.{IsLine}
use Rattle.mesh_cli_words.specs.declared.line.Line.{Line}
use Rattle.mesh_cli.specs.cli.Scripts.{AskedAnswers, AskedEnds, BatchEnds, IsTextLine, ScriptEnds, StepBy, TextsEnd, WordsEnd, asked, batch, command, ended, lines_run, stopped, unread, usage, wanting, went}
use Rattle.mesh_cli.specs.cli.Sides.{Sides, here, place_or}
use Rattle.mesh_cli.specs.promise.Histories.{Events, event, no_event}
use Rattle.mesh_cli.specs.promise.Kept.{AllSettle, AskedLeaves, BatchSettles, CallSettles, Passed, ScriptSettles, TextsSettle, changed, of_line}
use Rattle.mesh_cli.proofs.promise.Calls.{line_leaves}
use Rattle.mesh_cli.proofs.promise.Keeping.{Left, command_kept, left_sound}

-- events go on from one another
pub joined : (w u : World) (x y : Parts) → Events w x u y → (v : World) (z : Parts) → Events u y v z → Events w x v z
joined w u x y first v z no_event = first
joined w u x y first o q (event t v p z more dir c s settled leaves) = event t v p z (joined w u x y first t p more) dir c s settled leaves

pub events_sound : (w : World) (x : Parts) → Sound x w → (v : World) (y : Parts) → Events w x v y → Sound y v
events_sound w x sound v y no_event = sound
events_sound w x sound o q (event u v y z more dir c s settled leaves) = left_sound dir c s y u (events_sound w x sound u y more) settled z v leaves

-- the events of a call, where it leaves what may be left
pub record Goes (x : Parts) (w : World) (told : Told) (May : Parts → World → Type 0) : Type 0 where
  pub doubts : Parts
  pub world : World
  pub told_is : told.world ≡ Some world
  pub sound : Sound doubts world
  pub may : May doubts world
  pub events : Events w x world doubts

pub telling : (x : Parts) (w : World) (told : Told) → told.world ≡ Some w → Sound x w → Tells told w
telling x w told at sound = record { world = at; plain = sound.typed.plain }

stays : (x : Parts) (w : World) (old new : Sides) (May : Parts → World → Type 0) → May x w → old.house.world ≡ Some w → Sound x w → new ≡ old → Goes x w new.house May
stays x w old new May may at sound same =
    record { doubts = x; world = w; told_is = subst (λ (s : Sides). s.house.world ≡ Some w) (sym same) at; sound = sound; may = may; events = no_event }

-- the events of a call, whatever it leaves
abbrev pub Went : Parts → World → Told → Type 0
Went x w told = Goes x w told (λ y v. Unit {0})

module _ (asks : Line → Type 0) (dir : List ℕ) (old new : Sides) (x : Parts) (w : World) (at : old.house.world ≡ Some w) (sound : Sound x w) (settled : AllSettle asks dir old x w) where
  answer_goes : (answer : Result (List ℕ) Refusal) → AskedAnswers asks dir old new answer → Went x w new.house
  answer_goes answer (command line as_asked single commanded) =
      let place = place_or line.paths dir in
      let so = command_kept place line.command old new answer commanded x w (telling x w old.house at sound) sound (settled line as_asked) in
      record {
        doubts = so.doubts;
        world = so.world;
        told_is = so.told_is;
        sound = so.sound;
        may = tt;
        events = event w so.world x so.doubts no_event place line.command old (settled line as_asked) so.left_so;
      }
  answer_goes answer (usage none same said) = stays x w old new (λ y v. Unit {0}) tt at sound same
  answer_goes answer (wanting same said) = stays x w old new (λ y v. Unit {0}) tt at sound same

  -- where it ends with status 0, all changes of what it asks for were made
  done_goes : (sinks printed : Sinks) → AskedEnds asks dir old new sinks printed 0 → Goes x w new.house (AskedLeaves asks dir old x w settled)
  done_goes sinks printed ends =
      let (line, as_asked, done) = line_leaves asks dir old new sinks printed ends x w (telling x w old.house at sound) sound settled in
      let k = done.2 in
      let it_asks = done.3 in
      let its = settled line as_asked k it_asks in
      let whole : List Change = changes its.after k w in
      let doubts : Parts = left whole (met its.before its.after k w x) in
      record {
        doubts = doubts;
        world = run w whole;
        told_is = done.1 ∙ ap Some done.4.made;
        sound = subst (Sound doubts) done.4.made done.4.sound;
        may = of_line line as_asked k it_asks;
        events = event w (run w whole) x doubts no_event (place_or line.paths dir) line.command old (settled line as_asked) (changed k it_asks whole [] (sym (append-nil whole)));
      }

step_goes : (dir text : List ℕ) (old new : Sides) (sinks printed : Sinks) (s : ℕ) (b : Bool) (x : Parts) (w : World) → old.house.world ≡ Some w → Sound x w → AllSettle (IsTextLine text) dir old x w
    → StepBy b dir text old new sinks printed s → Went x w new.house
step_goes dir text old new sinks printed s true x w at sound settled (same, said, zero_is) = stays x w old new (λ y v. Unit {0}) tt at sound same
step_goes dir text old new sinks printed s false x w at sound settled ends = answer_goes (IsTextLine text) dir old new x w at sound settled ends.answer ends.answered

after : (x y : Parts) (w u : World) (told : Told) → Events w x u y → Went y u told → Went x w told
after x y w u told first is =
    record { doubts = is.doubts; world = is.world; told_is = is.told_is; sound = is.sound; may = tt; events = joined w u x y first is.world is.doubts is.events }

texts_go : (dir : List ℕ) {texts : List (List ℕ)} {old new : Sides} {sinks printed : Sinks} {s : ℕ} (ends : TextsEnd dir texts old new sinks printed s) (x : Parts) (w : World) → old.house.world ≡ Some w → Sound x w → TextsSettle dir ends x w → Went x w new.house
texts_go dir (ended old sinks) x w at sound settled = record { doubts = x; world = w; told_is = at; sound = sound; may = tt; events = no_event }
texts_go dir (went text texts old mid new sinks between printed s step more) x w at sound settled = go (λ y v told so then_so. texts_go dir more y v told so then_so) (is_skipped text) step settled
  where
    go : ((y : Parts) (v : World) → mid.house.world ≡ Some v → Sound y v → TextsSettle dir more y v → Went y v new.house) → (b : Bool) → StepBy b dir text old mid sinks between 0
        → Passed b (TextsSettle dir more x w)
        ((so : AllSettle (IsTextLine text) dir old x w) × ((y : Parts) (v : World) → mid.house.world ≡ Some v → AskedLeaves (IsTextLine text) dir old x w so y v → TextsSettle dir more y v))
        → Went x w new.house
    go rest true (same, said, zero_is) then_so = rest x w (subst (λ (m : Sides). m.house.world ≡ Some w) (sym same) at) sound then_so
    go rest false ends then_so =
        let is = done_goes (IsTextLine text) dir old mid x w at sound then_so.0 sinks between ends in
        after x is.doubts w is.world new.house is.events (rest is.doubts is.world is.told_is is.sound (then_so.1 is.doubts is.world is.told_is is.may))
texts_go dir (stopped text texts old new sinks printed s short step) x w at sound settled =
    step_goes dir text old new sinks printed s (is_skipped text) x w at sound settled step

pub script_goes : (dir script : List ℕ) {old new : Sides} {sinks printed : Sinks} {s : ℕ} (ends : ScriptEnds dir script old new sinks printed s) (x : Parts) (w : World) → old.house.world ≡ Some w → Sound x w → ScriptSettles dir script ends x w → Went x w new.house
script_goes dir script (inl texts) x w at sound settled = texts_go dir texts x w at sound settled
script_goes dir script {old = old} {new = new} (inr said) x w at sound settled = stays x w old new (λ y v. Unit {0}) tt at sound said.0

batch_goes : (dir : List ℕ) {input rest : SourceTold} {old new : Sides} {sinks printed : Sinks} {s : ℕ} (ends : BatchEnds dir input rest old new sinks printed s) (x : Parts) (w : World) → old.house.world ≡ Some w → Sound x w → BatchSettles dir ends x w → Went x w new.house
batch_goes dir {old = old} {new = new} (unread r read said) x w at sound settled = stays x w old new (λ y v. Unit {0}) tt at sound said.0
batch_goes dir (lines_run script read ends) x w at sound settled = script_goes dir script ends x w at sound settled

pub call_goes : {words : List (List ℕ)} {input rest : SourceTold} {old new : Sides} {sinks printed : Sinks} {s : ℕ} (ends : WordsEnd words input rest old new sinks printed s) (x : Parts) (w : World) → old.house.world ≡ Some w → Sound x w → CallSettles ends x w → Went x w new.house
call_goes {words = words} {old = old} {new = new} (asked same ends) x w at sound settled =
    answer_goes (IsLine words) here old new x w at sound settled ends.answer ends.answered
call_goes (batch line read is_one ends) x w at sound settled = batch_goes (place_or line.paths here) ends x w at sound settled

pub call_events : (words : List (List ℕ)) (input rest : SourceTold) (old new : Sides) (sinks printed : Sinks) (s : ℕ) (ends : WordsEnd words input rest old new sinks printed s) (x : Parts) (w : World) → old.house.world ≡ Some w → Sound x w → CallSettles ends x w
    → (v : World) × (y : Parts) × (new.house.world ≡ Some v) × Events w x v y
call_events words input rest old new sinks printed s ends x w at sound settled = let is = call_goes ends x w at sound settled in (is.world, is.doubts, is.told_is, is.events)

module _ (empty : Sound no_parts empty_world) where
  pub reached_sound : (w : World) (x : Parts) → Events empty_world no_parts w x → Sound x w
  reached_sound w x events = events_sound empty_world no_parts empty w x events

  pub reached_leaves : (asks : Line → Type 0) (w : World) (x : Parts) → Events empty_world no_parts w x → (dir : List ℕ) (old new : Sides) (sinks printed : Sinks) → old.house.world ≡ Some w → AskedEnds asks dir old new sinks printed 0
      → (settled : AllSettle asks dir old x w) → (line : Line) × (as_asked : asks line) × Left (place_or line.paths dir) line.command old new x w (settled line as_asked)
  reached_leaves asks w x events dir old new sinks printed at ends settled =
      let sound = reached_sound w x events in line_leaves asks dir old new sinks printed ends x w (telling x w old.house at sound) sound settled
