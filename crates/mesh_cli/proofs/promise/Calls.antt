-- A call through which nothing comes out otherwise is events that leave nothing in doubt; a line that is done leaves
-- what it promises.
use Rattle.std.proofs.Common.{◌≡◌, ◌⊎◌, inl, inr, ℕ, Bool, true, false, List, Some, Err, Result, refl, sym, ◌∙◌, subst}
use Rattle.std.proofs.lemmas.Bool.{or_from as neither}
use Rattle.mesh_base.specs.declared.forgets.Forget.{Forget}
use Rattle.mesh_spec_model.specs.Horizons.{Clock}
use Rattle.mesh_house.specs.House.{Told}
use Rattle.mesh_house.specs.declared.world.World.{World}
use Rattle.mesh_spec_changes.specs.Commands as promise
use Rattle.mesh_spec_changes.specs.due.Parts.{Parts}
use Rattle.mesh_io.specs.Told.{SourceTold}
use Rattle.mesh_layer.specs.Shows.{Tells}
use Rattle.mesh_cli_values.specs.scripts.Scripts.{is_skipped}
use Rattle.mesh_cli_print.specs.declared.printed.refusals.Refusal.{Refusal}
use Rattle.mesh_cli_print.specs.declared.printed.refusals.Refusal.TheVariants.{Memory, Usage}
use Rattle.mesh_cli_print.specs.printed.Printing.{Printed, Sinks}
use Rattle.mesh_spec_promise.specs.Histories.{Settles, met, sources_after}
use Rattle.mesh_spec_promise.specs.Moved.{moved}
use Rattle.mesh_spec_promise.specs.Sound.{Sound}
use Rattle.mesh_law_changes.proofs.along.Along.{left_fewer}
use Rattle.mesh_cli_words.specs.Lines.{IsLine}
use Rattle.mesh_cli_words.specs.declared.line.Command.{Command}
use Rattle.mesh_cli_words.specs.declared.line.Line.{Line}
use Rattle.mesh_cli.specs.cli.Ends.{Commanded}
use Rattle.mesh_cli.specs.cli.Scripts.{AskedAnswers, AskedEnds, BatchEnds, IsTextLine, ScriptEnds, StepBy, TextsEnd, WordsEnd, asked, batch, command, ended, lines_run, stopped, unread, usage, wanting, went}
use Rattle.mesh_cli.specs.cli.Sides.{Sides, here, place_or}
use Rattle.mesh_cli.specs.promise.Histories.{Events, event, no_event}
use Rattle.mesh_cli.specs.promise.Kept.{BatchIsStill, CallIsStill, IsSettled, IsStill, Leaves, LineIsStill, LineSettles, ScriptIsStill, TellsSound, TextsAreStill, changed, untouched}
use Rattle.mesh_cli.specs.promise.Promised.{AsksFor}
use Rattle.mesh_cli.proofs.promise.Keeping.{Left, LeftIfSettled, command_done, command_kept}

-- where nothing is in doubt, any command settles
pub settles_none : (clock : Clock) (k : promise.Command) (w : World) (m : Parts) → ((q : Forget) → m q ≡ false) → Settles clock k w m
settles_none clock (promise.Apply plan) w m none = λ q doubt. absurd (let clash : true ≡ false = sym doubt ∙ none q in cc)
settles_none clock (promise.RunAll plan) w m none = λ q doubt. absurd (let clash : true ≡ false = sym doubt ∙ none q in cc)
settles_none clock (promise.Janitor t) w m none = tt
settles_none clock (promise.Ingest name columns rows keep) w m none = tt
settles_none clock (promise.Invalidate env) w m none = tt
settles_none clock (promise.MigrateAll renames) w m none = tt
settles_none clock promise.Nothing w m none = tt

abbrev pub still_settles : (x : Parts) → ((q : Forget) → x q ≡ false) → (w : World) (k : promise.Command) → IsStill w k → IsSettled x w k
still_settles x none w k h = record {
  before = h.before;
  after = h.after;
  was = h.was;
  is = h.is;
  settles = settles_none h.after k w (met h.before h.after k w x) (λ q. neither (x q) (moved w h.before h.after (sources_after w k) q) (none q) (h.still q));
}

-- what is left of no doubt is none
none_left : (dir : List ℕ) (c : Command) (old : Sides) (x : Parts) (w : World) (none : (q : Forget) → x q ≡ false) (still : (k : promise.Command) → AsksFor dir old c w k → IsStill w k) (y : Parts) (v : World)
    → Leaves dir old c x w (λ k asks. still_settles x none w k (still k asks)) y v → (q : Forget) → y q ≡ false
none_left dir c old x w none still y v untouched q = none q
none_left dir c old x w none still y v (changed k asks made rest is) q =
    let h = still k asks in left_fewer made (met h.before h.after k w x) q (neither (x q) (moved w h.before h.after (sources_after w k) q) (none q) (h.still q))

-- a house that tells a sound world tells it as a walk asks
pub telling : (x : Parts) (told : Told) (is : TellsSound x told) → Tells told is.world
telling x told is = record { world = is.told_is; plain = is.sound.typed.plain }

pub as_before : (Holds : Told → Type 0) (old new : Sides) → new ≡ old → Holds old.house → Holds new.house
as_before Holds old new same is = subst (λ (s : Sides). Holds s.house) (sym same) is

-- each line of a call, where each keeps what holds of the house
module _ (Holds : Told → Type 0) (Fine : List ℕ → Line → Sides → Type 0)
    (keeps : (dir : List ℕ) (line : Line) (old new : Sides) (answer : Result (List ℕ) Refusal) → Commanded (place_or line.paths dir) line.command old new answer → Fine dir line old → Holds old.house → Holds new.house) where
  pub answers_kept : (asks : Line → Type 0) (dir : List ℕ) (old new : Sides) (answer : Result (List ℕ) Refusal) → ((line : Line) → asks line → Fine dir line old) → Holds old.house → AskedAnswers asks dir old new answer → Holds new.house
  answers_kept asks dir old new answer fine is (command line as_asked single commanded) = keeps dir line old new answer commanded (fine line as_asked) is
  answers_kept asks dir old new answer fine is (usage none same said) = as_before Holds old new same is
  answers_kept asks dir old new answer fine is (wanting same said) = as_before Holds old new same is

  pub step_kept : (dir text : List ℕ) (old new : Sides) (sinks printed : Sinks) (s : ℕ) (b : Bool) → ((line : Line) → IsTextLine text line → Fine dir line old) → Holds old.house → StepBy b dir text old new sinks printed s → Holds new.house
  step_kept dir text old new sinks printed s true fine is (same, said, zero_is) = as_before Holds old new same is
  step_kept dir text old new sinks printed s false fine is ends = answers_kept (IsTextLine text) dir old new ends.answer fine is ends.answered

-- events that leave nothing in doubt
pub record Calm (x : Parts) (w : World) (told : Told) : Type 0 where
  pub doubts : Parts
  pub world : World
  pub told_is : told.world ≡ Some world
  pub sound : Sound doubts world
  pub none : (q : Forget) → doubts q ≡ false
  pub events : Events w x world doubts

module _ (x : Parts) (w : World) where
  still_keeps : (dir : List ℕ) (line : Line) (old new : Sides) (answer : Result (List ℕ) Refusal) → Commanded (place_or line.paths dir) line.command old new answer → LineIsStill dir line old → Calm x w old.house → Calm x w new.house
  still_keeps dir line old new answer commanded still is =
      let place = place_or line.paths dir in
      let told = telling is.doubts old.house (record { world = is.world; told_is = is.told_is; sound = is.sound }) in
      let settled : LineSettles place old line.command is.doubts is.world = λ k asks. still_settles is.doubts is.none is.world k (still is.world told k asks) in
      let so = command_kept place line.command old new answer commanded is.doubts is.world told is.sound settled in
      record {
        doubts = so.doubts;
        world = so.world;
        told_is = so.told_is;
        sound = so.sound;
        none = none_left place line.command old is.doubts is.world is.none (still is.world told) so.doubts so.world so.left_so;
        events = event is.world so.world is.doubts so.doubts is.events place line.command old settled so.left_so;
      }

  texts_kept : (dir : List ℕ) {texts : List (List ℕ)} {old new : Sides} {sinks printed : Sinks} {s : ℕ} → (ends : TextsEnd dir texts old new sinks printed s) → TextsAreStill dir ends → Calm x w old.house → Calm x w new.house
  texts_kept dir (ended old sinks) still is = is
  texts_kept dir (went text texts old mid new sinks between printed s step more) still is =
      texts_kept dir more still.1 (step_kept (Calm x w) LineIsStill still_keeps dir text old mid sinks between 0 (is_skipped text) still.0 is step)
  texts_kept dir (stopped text texts old new sinks printed s short step) still is = step_kept (Calm x w) LineIsStill still_keeps dir text old new sinks printed s (is_skipped text) still is step

  script_kept : (dir script : List ℕ) {old new : Sides} {sinks printed : Sinks} {s : ℕ} (ends : ScriptEnds dir script old new sinks printed s) → ScriptIsStill dir script ends → Calm x w old.house → Calm x w new.house
  script_kept dir script (inl texts) still is = texts_kept dir texts still is
  script_kept dir script {old = old} {new = new} (inr said) still is = as_before (Calm x w) old new said.0 is

  batch_kept : (dir : List ℕ) {input rest : SourceTold} {old new : Sides} {sinks printed : Sinks} {s : ℕ} (ends : BatchEnds dir input rest old new sinks printed s) → BatchIsStill dir ends → Calm x w old.house → Calm x w new.house
  batch_kept dir {old = old} {new = new} (unread r read said) still is = as_before (Calm x w) old new said.0 is
  batch_kept dir (lines_run script read ends) still is = script_kept dir script ends still is

  call_kept : {words : List (List ℕ)} {input rest : SourceTold} {old new : Sides} {sinks printed : Sinks} {s : ℕ} (ends : WordsEnd words input rest old new sinks printed s) → CallIsStill ends → Calm x w old.house → Calm x w new.house
  call_kept {words = words} {old = old} {new = new} (asked same ends) still is = answers_kept (Calm x w) LineIsStill still_keeps (IsLine words) here old new ends.answer still is ends.answered
  call_kept (batch line read is_one ends) still is = batch_kept (place_or line.paths here) ends still is

pub still_calls : (words : List (List ℕ)) (input rest : SourceTold) (old new : Sides) (sinks printed : Sinks) (s : ℕ) (ends : WordsEnd words input rest old new sinks printed s) → CallIsStill ends
    → (x : Parts) (w : World) → old.house.world ≡ Some w → Sound x w → ((q : Forget) → x q ≡ false) → (v : World) × (y : Parts) × (new.house.world ≡ Some v) × ((q : Forget) → y q ≡ false) × Events w x v y
still_calls words input rest old new sinks printed s ends still x w at sound none =
    let is = call_kept x w ends still (record { doubts = x; world = w; told_is = at; sound = sound; none = none; events = no_event }) in
    (is.world, is.doubts, is.told_is, is.none, is.events)

-- a line that is refused isn't done
not_done : (sinks printed : Sinks) (r : Refusal) → (r ≡ Usage) ⊎ (r ≡ Memory) → Printed (Err r) sinks printed 0 → ⊥
not_done sinks printed r (inl e) said = go (subst (λ (q : Refusal). Printed (Err q) sinks printed 0) e said)
  where
    go : Printed (Err Usage) sinks printed 0 → ⊥
    go (inl by, same) = absurd (let clash : 0 ≡ 2 = by.0 in cc)
    go (inr (inl by), same) = absurd (let clash : 0 ≡ 6 = by.0 in cc)
    go (inr (inr by), same) = absurd (let clash : 0 ≡ 4 = by.0 in cc)
not_done sinks printed r (inr e) said = go (subst (λ (q : Refusal). Printed (Err q) sinks printed 0) e said)
  where
    go : Printed (Err Memory) sinks printed 0 → ⊥
    go (inl by, same) = absurd (let clash : 0 ≡ 4 = by.0 in cc)
    go (inr (inl by), same) = absurd (let clash : 0 ≡ 6 = by.0 in cc)
    go (inr (inr by), same) = absurd (let clash : 0 ≡ 4 = by.0 in cc)

-- a line that is done, of a call or of a script, leaves what it promises, wherever that settles
pub line_final : (asks : Line → Type 0) (dir : List ℕ) (old new : Sides) (sinks printed : Sinks) → AskedEnds asks dir old new sinks printed 0
    → (line : Line) × asks line × ((x : Parts) (w : World) → Tells old.house w → Sound x w → LeftIfSettled (place_or line.paths dir) line.command old new x w)
line_final asks dir old new sinks printed ends = go ends.answer ends.answered ends.said
  where
    go : (answer : Result (List ℕ) Refusal) → AskedAnswers asks dir old new answer → Printed answer sinks printed 0
        → (line : Line) × asks line × ((x : Parts) (w : World) → Tells old.house w → Sound x w → LeftIfSettled (place_or line.paths dir) line.command old new x w)
    go answer (command line as_asked single commanded) said =
        (line, as_asked, λ x w told sound. command_done (place_or line.paths dir) line.command old new sinks printed (record { answer = answer; commanded = commanded; said = said }) x w told sound)
    go answer (usage none same is) said = absurd (not_done sinks printed Usage (inl refl) (subst (λ (a : Result (List ℕ) Refusal). Printed a sinks printed 0) is said))
    go answer (wanting same is) said = absurd (not_done sinks printed Memory (inr refl) (subst (λ (a : Result (List ℕ) Refusal). Printed a sinks printed 0) is said))

pub line_leaves : (asks : Line → Type 0) (dir : List ℕ) (old new : Sides) (sinks printed : Sinks) → AskedEnds asks dir old new sinks printed 0 → (x : Parts) (w : World) → Tells old.house w → Sound x w
    → (settled : (line : Line) → asks line → LineSettles (place_or line.paths dir) old line.command x w)
    → (line : Line) × (as_asked : asks line) × Left (place_or line.paths dir) line.command old new x w (settled line as_asked)
line_leaves asks dir old new sinks printed ends x w told sound settled =
    let (line, as_asked, done) = line_final asks dir old new sinks printed ends in
    let (v, at, k, it_asks, is) = done x w told sound in
    let left = is (settled line as_asked k it_asks) in
    (line, as_asked, (v, at, k, it_asks, left.0, left.1))
