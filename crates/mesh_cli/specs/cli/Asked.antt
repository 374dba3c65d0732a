-- What each command makes and gives, by its words, the files of the folder, the clock's moment and the world.
use Rattle.std.specs.Prelude.{◌≡◌, ℕ, ℤ, Bool, true, false, List, [], Result, Ok, Err}
use Rattle.std.specs.declared.option.Option.{Option}
use Rattle.mesh_base.specs.declared.forgets.Restate.{Restate}
use Rattle.mesh_query_grammar.specs.declared.surface.queries.Surface.{Surface}
use Rattle.mesh_query_tokens.specs.declared.faults.ReadFault.{ReadFault}
use Rattle.mesh_model.specs.Reads.{IsQueryRead}
use Rattle.mesh_house.specs.declared.world.Change.{Change}
use Rattle.mesh_house.specs.declared.world.World.{World}
use Rattle.mesh_cli_print.specs.declared.printed.refusals.Refusal.{Refusal}
use Rattle.mesh_cli_print.specs.declared.printed.refusals.Refusal.TheVariants.{Usage}
use Rattle.mesh_cli_words.specs.declared.line.Command.{Command}
use Rattle.mesh_cli_words.specs.declared.line.Command.TheVariants.{Plan, Apply, Run, Evaluate, Fetchdf, Ingest, Janitor, Invalidate, Migrate, Trace, Impact, Batch, Demo}
use Rattle.mesh_cli_apply.specs.Applying.{ApplyGives, ApplyMakes, PlanGives, RunGives, RunMakes}
use Rattle.mesh_cli_apply.specs.Loaded.{IsProject, OfProject}
use Rattle.mesh_cli_apply.specs.Migrating.{MigrateGives, MigrateMakes}
use Rattle.mesh_cli_apply.specs.Tracing.{ImpactGives, TraceGives}
use Rattle.mesh_cli_look.specs.asking.Fetched.{fetched, word_tokens}
use Rattle.mesh_cli_look.specs.asking.Evaluated.{days, evaluated}
use Rattle.mesh_cli_look.specs.upkeep.Ingesting.{IngestGives, IngestMakes}
use Rattle.mesh_cli_look.specs.upkeep.Upkeep.{InvalidateGives, InvalidateMakes, JanitorGives, JanitorMakes}
use Rattle.mesh_cli.specs.demo.Demos.{IsDemo}
use Rattle.mesh_cli.specs.cli.Sides.{AtMoment, Sides, is_open}

-- an apply of the project in a folder
abbrev pub AppliesMake : List ℕ → Sides → List ℕ → Option ℤ → Option Restate → World → List Change → Type 0
AppliesMake dir s env moment again w list = AtMoment moment s.clock.moment (λ t. IsProject s.folder.files dir (λ nodes. ApplyMakes nodes env t again w list))

abbrev pub AppliesGive : List ℕ → Sides → List ℕ → Option ℤ → Option Restate → World → Result (List ℕ) Refusal → Type 0
AppliesGive dir s env moment again w answer = AtMoment moment s.clock.moment (λ t. OfProject s.folder.files dir (λ nodes. ApplyGives nodes env t again w) answer)

-- a plan alone changes nothing; one that is applied at once is an apply
abbrev pub PlansMake : Bool → List ℕ → Sides → List ℕ → Option ℤ → Option Restate → World → List Change → Type 0
PlansMake false dir s env moment again w list = list ≡ []
PlansMake true dir s env moment again w list = AppliesMake dir s env moment again w list

abbrev pub PlansGive : Bool → List ℕ → Sides → List ℕ → Option ℤ → Option Restate → World → Result (List ℕ) Refusal → Type 0
PlansGive false dir s env moment again w answer = AtMoment moment s.clock.moment (λ t. OfProject s.folder.files dir (λ nodes. PlanGives nodes env t again w) answer)
PlansGive true dir s env moment again w answer = AppliesGive dir s env moment again w answer

-- a demonstration has its text in every world, and is refused in none
abbrev pub DemoGives : ℕ → Result (List ℕ) Refusal → Type 0
DemoGives n (Ok text) = IsDemo n text
DemoGives n (Err r) = ⊥

-- the changes that a command makes of a world
abbrev pub Makes : List ℕ → Sides → Command → World → List Change → Type 0
Makes dir s (Plan env auto workers moment again) w list = PlansMake auto dir s env moment again w list
Makes dir s (Apply env workers moment again) w list = AppliesMake dir s env moment again w list
Makes dir s (Run env workers moment) w list = AtMoment moment s.clock.moment (λ t. RunMakes env t w list)
Makes dir s (Evaluate model env first last) w list = list ≡ []
Makes dir s (Fetchdf query env) w list = list ≡ []
Makes dir s (Ingest name file append) w list = IngestMakes s.folder.files dir name file append w list
Makes dir s (Janitor moment) w list = AtMoment moment s.clock.moment (λ t. JanitorMakes t w list)
Makes dir s (Invalidate env) w list = InvalidateMakes env w list
Makes dir s Migrate w list = MigrateMakes w list
Makes dir s (Trace model column) w list = list ≡ []
Makes dir s (Impact name column) w list = list ≡ []
Makes dir s Batch w list = list ≡ []
Makes dir s (Demo n workers) w list = list ≡ []

-- what it answers there: the text that is printed, or why it is refused
abbrev pub Gives : List ℕ → Sides → Command → World → Result (List ℕ) Refusal → Type 0
Gives dir s (Plan env auto workers moment again) w answer = PlansGive auto dir s env moment again w answer
Gives dir s (Apply env workers moment again) w answer = AppliesGive dir s env moment again w answer
Gives dir s (Run env workers moment) w answer = AtMoment moment s.clock.moment (λ t. RunGives env t w answer)
Gives dir s (Evaluate model env first last) w answer = answer ≡ evaluated w.book env model (days first last) w
Gives dir s (Fetchdf query env) w answer = (tree : Result Surface ReadFault) × IsQueryRead (word_tokens query) 0 tree × (answer ≡ fetched w.book env query tree w)
Gives dir s (Ingest name file append) w answer = IngestGives s.folder.files dir name file append w answer
Gives dir s (Janitor moment) w answer = AtMoment moment s.clock.moment (λ t. JanitorGives t w answer)
Gives dir s (Invalidate env) w answer = InvalidateGives env w answer
Gives dir s Migrate w answer = MigrateGives w answer
Gives dir s (Trace model column) w answer = TraceGives s.folder.files dir model column answer
Gives dir s (Impact name column) w answer = ImpactGives s.folder.files dir name column answer
Gives dir s Batch w answer = answer ≡ Err Usage
Gives dir s (Demo n workers) w answer = DemoGives n answer

-- the commands that use the warehouse: all but the traces, which hang on the project alone, and the demonstration, which
-- has one of its own
abbrev pub uses_house : Command → Bool
uses_house (Trace model column) = false
uses_house (Impact name column) = false
uses_house (Demo n workers) = false
uses_house other = true

-- the commands that read the project's folder
abbrev pub reads_folder : Command → Bool
reads_folder (Plan env auto workers moment again) = true
reads_folder (Apply env workers moment again) = true
reads_folder (Ingest name file append) = true
reads_folder (Trace model column) = true
reads_folder (Impact name column) = true
reads_folder other = false

-- the commands that ask the clock
abbrev pub asks_clock : Command → Bool
asks_clock (Plan env auto workers moment again) = is_open moment
asks_clock (Apply env workers moment again) = is_open moment
asks_clock (Run env workers moment) = is_open moment
asks_clock (Janitor moment) = is_open moment
asks_clock other = false
