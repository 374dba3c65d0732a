-- What a demonstration prints. Nothing here speaks of workers.
use Rattle.std.specs.Prelude.{◌≡◌, ℕ, ℤ, pos, false, List, ◌++◌, codes, Result, Ok, Err, [], Some, None}
use Rattle.std.specs.Option.{option_map}
use Rattle.std.specs.declared.option.Option.{Option}
use Rattle.mesh_base_values.specs.declared.values.Cell.{Cell}
use Rattle.mesh_base_values.specs.declared.values.Name.{Name}
use Rattle.mesh_house.specs.declared.world.Change.{Change}
use Rattle.mesh_house.specs.declared.world.World.{World}
use Rattle.mesh_house.specs.Step.{run}
use Rattle.mesh_house.specs.World.{empty_world}
use Rattle.mesh_layer.specs.Asked.{lost_view, shown_view}
use Rattle.mesh_io.specs.declared.files.File.{File}
use Rattle.mesh_cli_print.specs.faults.Lines.{◌·◌}
use Rattle.mesh_cli_print.specs.declared.printed.refusals.Refusal.{Refusal}
use Rattle.mesh_cli_print.specs.declared.printed.refusals.Refusal.TheVariants.{Memory, ObjectMissing}
use Rattle.mesh_cli_print.specs.printed.Refusals.{refusal_line}
use Rattle.mesh_cli_answer.specs.Answers.{is_fault}
use Rattle.mesh_cli_look.specs.upkeep.Ingesting.{IngestGives, IngestMakes}
use Rattle.mesh_cli_apply.specs.Applying.{ApplyGives, ApplyMakes, RunGives, RunMakes}
use Rattle.mesh_cli_apply.specs.Loaded.{IsProject, OfProject}
use Rattle.mesh_cli.specs.demo.Lines.{head_line, totals_text, units_line}
use Rattle.mesh_cli.specs.demo.Shop.{edited, shop}

-- 2024-01-08T00:30 and 2024-01-11T00:30
abbrev pub early : ℤ
early = pos 1_704_673_800

abbrev pub late : ℤ
late = pos 1_704_933_000

abbrev pub prod : List ℕ
prod = codes "prod"

abbrev pub dev : List ℕ
dev = codes "dev"

abbrev pub here : List ℕ
here = codes "."

-- What is printed of a command, which makes such changes of a world and gives such answers there, and of what goes on
-- from the world that it leaves: its line and the rest, or the line of its refusal, which ends the text.
pub data Then (makes : World → List Change → Type 0) (gives : World → Result (List ℕ) Refusal → Type 0) (line : List ℕ → List ℕ) (rest : World → List ℕ → Type 0) (w : World) : List ℕ → Type 0 where
  done : (answer : List ℕ) (list : List Change) (text : List ℕ) → gives w (Ok answer) → makes w list → rest (run w list) text → Then makes gives line rest w (line answer ++ text)
  refused : (r : Refusal) → is_fault r ≡ false → gives w (Err r) → Then makes gives line rest w (refusal_line r)

-- how many units there were
abbrev pub units_of : List ℕ → List ℕ → List ℕ
units_of front answer = front · units_line answer

abbrev pub nothing : List ℕ → List ℕ
nothing answer = []

-- the totals of production
abbrev pub totals_view : Name
totals_view = record { schema = codes "shop"; model = codes "totals" }

-- the rows that are shown, or what isn't there
abbrev pub shown_or : Option (Option (List (List Cell))) → Option Name → Result (List (List Cell)) Refusal
shown_or (Some (Some rows)) lost = Ok rows
shown_or (Some None) lost = Err (ObjectMissing totals_view)
shown_or None (Some object) = Err (ObjectMissing object)
shown_or None None = Err Memory

abbrev pub IsCounted : Result (List (List Cell)) Refusal → List ℕ → Type 0
IsCounted (Ok rows) text = text ≡ totals_text rows
IsCounted (Err r) text = (is_fault r ≡ false) × (text ≡ refusal_line r)

-- the last lines: the totals, counted
abbrev pub Counted : World → List ℕ → Type 0
Counted w text = IsCounted (shown_or (shown_view w totals_view) (lost_view w totals_view)) text

abbrev pub DevRan : World → List ℕ → Type 0
DevRan = Then (RunMakes dev late) (RunGives dev late) (units_of (codes "run dev: ")) Counted

abbrev pub ProdRan : World → List ℕ → Type 0
ProdRan = Then (RunMakes prod late) (RunGives prod late) (units_of (codes "run prod: ")) DevRan

-- an apply of the project of these files, in a folder, makes and gives this
abbrev pub FilesMake : Option (List File) → List ℕ → List ℕ → World → List Change → Type 0
FilesMake files dir env w list = IsProject files dir (λ nodes. ApplyMakes nodes env early None w list)

abbrev pub FilesGive : Option (List File) → List ℕ → List ℕ → World → Result (List ℕ) Refusal → Type 0
FilesGive files dir env w answer = OfProject files dir (λ nodes. ApplyGives nodes env early None w) answer

abbrev pub DevApplied : Option (List File) → World → List ℕ → Type 0
DevApplied files = Then (FilesMake files here dev) (FilesGive files here dev) (units_of (codes "apply dev: ")) ProdRan

-- the development environment is made of the edited files
abbrev pub ProdApplied : Option (List File) → World → List ℕ → Type 0
ProdApplied files = Then (FilesMake files here prod) (FilesGive files here prod) (units_of (codes "apply prod: ")) (DevApplied (option_map edited files))

-- the orders are a source
abbrev pub orders_name : Name
orders_name = record { schema = codes "raw"; model = codes "orders" }

abbrev pub orders_path : List ℕ
orders_path = codes "orders.csv"

abbrev pub Loaded : Option (List File) → World → List ℕ → Type 0
Loaded files = Then (IngestMakes files here orders_name orders_path false) (IngestGives files here orders_name orders_path false) nothing (ProdApplied files)

-- What a demonstration with so many orders prints: what comes of its commands over these files, from the empty world.
abbrev pub IsDemo : ℕ → List ℕ → Type 0
IsDemo n text = (rest : List ℕ) × Loaded (Some (shop n)) empty_world rest × (text ≡ head_line n ++ rest)
