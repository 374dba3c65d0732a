-- What `ingest` makes and answers, and what it leaves of the folder.
use Rattle.std.specs.Prelude.{◌≡◌, ◌⊎◌, ◌≤◌, ℕ, Bool, true, false, List, length, Result, Ok, Err, IfOk, IfErr, IsErrOf}
use Rattle.std.specs.Option.{ForSome}
use Rattle.std.specs.declared.option.Option.{Option}
use Rattle.std.specs.declared.option.Option.TheVariants.{None, Some}
use Rattle.mesh_list.specs.Counts.{Rose}
use Rattle.mesh_base_values.specs.declared.values.Column.{Column}
use Rattle.mesh_base_values.specs.declared.values.Name.{Name}
use Rattle.mesh_base_values.specs.declared.values.Seed.{Seed}
use Rattle.mesh_query_tokens.specs.declared.faults.FaultKind.{FaultKind}
use Rattle.mesh_query_tokens.specs.declared.faults.FaultKind.TheVariants.{SourceShape}
use Rattle.mesh_spec_model.specs.Horizons.{Clock}
use Rattle.mesh_house.specs.declared.world.Change.{Change}
use Rattle.mesh_house.specs.declared.world.World.{World}
use Rattle.mesh_house.specs.House.{Told}
use Rattle.mesh_house.specs.World.{head}
use Rattle.mesh_spec_changes.specs.Commands.{Ingest, changes}
use Rattle.mesh_cli_print.specs.faults.Lines.{name_text}
use Rattle.mesh_io.specs.declared.files.File.{File}
use Rattle.mesh_project_files.specs.declared.faults.LoadFault.TheVariants as load
use Rattle.mesh_layer.specs.Shows.{Tells}
use Rattle.mesh_cli_print.specs.printed.Reports.{ingested_line}
use Rattle.mesh_cli_print.specs.declared.printed.refusals.Refusal.{Refusal}
use Rattle.mesh_cli_print.specs.declared.printed.refusals.Refusal.TheVariants.{Model, Warehouse, Input}
use Rattle.mesh_cli_answer.specs.Answers.{IsAlone, is_fault}
use Rattle.mesh_cli_look.specs.upkeep.Sourced.{source_rows}

-- rows are added only where the source isn't there, or has exactly these columns
abbrev pub MayLoad : Bool → Option (List Column) → List Column → Type 0
MayLoad false there columns = Unit {0}
MayLoad true None columns = Unit {0}
MayLoad true (Some there) columns = there ≡ columns

-- the source is there with another shape, which is told of it
abbrev pub other_shape : Name → Refusal
other_shape name = Model (name_text name) 0 (SourceShape name)

-- the change that loads a source
abbrev pub LoadMakes : Name → Seed → Bool → World → List Change → Type 0
LoadMakes name source keep w list = (clock : Clock) → list ≡ changes clock (Ingest name source.columns source.rows keep) w

-- what is answered then
abbrev pub LoadGives : Name → Seed → Bool → World → Result (List ℕ) Refusal → Type 0
LoadGives name source keep w (Ok text) = MayLoad keep (head w name) source.columns × (text ≡ ingested_line name (length source.rows))
LoadGives name source keep w (Err r) = (MayLoad keep (head w name) source.columns → ⊥) × (r ≡ other_shape name)

-- whether rows may be loaded was looked at, and nothing was changed
pub record Fits {T : Type 0} (name : Name) (columns : List Column) (keep : Bool) (old new : Told) (result : Result T Refusal) : Type 0 where
  pub alone : IsAlone old new
  pub faults : old.faults ≤ new.faults
  pub failed : IsErrOf result Warehouse → Rose old.faults new.faults
  pub outside : IsErrOf result Input → ⊥
  pub ok : IfOk result (λ x. (w : World) → Tells old w → MayLoad keep (head w name) columns)
  pub err : IfErr result (λ r. is_fault r ≡ false → (w : World) → Tells old w → (MayLoad keep (head w name) columns → ⊥) × (r ≡ other_shape name))

-- a source as it is declared with the rows of a file, which are those of the files where the folder tells them
pub record IsSource (files : Option (List File)) (dir : List ℕ) (name : Name) (file : List ℕ) (of : Seed → Type 0) : Type 0 where
  pub source : Seed
  pub read : ForSome files (λ fs. source_rows fs dir name file ≡ Ok source)
  pub has : of source

-- a fault, which is the first one of the files where the folder tells them, and this is told
pub record IsFaulty (files : Option (List File)) (dir : List ℕ) (name : Name) (file : List ℕ) (r : Refusal) : Type 0 where
  pub path : List ℕ
  pub at : ℕ
  pub kind : FaultKind
  pub first : ForSome files (λ fs. source_rows fs dir name file ≡ Err (load.Fault path at kind))
  pub told : r ≡ Model path at kind

abbrev pub TellsFault : Option (List File) → List ℕ → Name → List ℕ → Result (List ℕ) Refusal → Type 0
TellsFault files dir name file (Ok text) = ⊥
TellsFault files dir name file (Err r) = IsFaulty files dir name file r

-- `ingest` makes the one change that loads the source
abbrev pub IngestMakes : Option (List File) → List ℕ → Name → List ℕ → Bool → World → List Change → Type 0
IngestMakes files dir name file keep w list = IsSource files dir name file (λ source. LoadMakes name source keep w list)

-- what it answers: the first fault of the files comes before the look at the source that is there
abbrev pub IngestGives : Option (List File) → List ℕ → Name → List ℕ → Bool → World → Result (List ℕ) Refusal → Type 0
IngestGives files dir name file keep w answer = IsSource files dir name file (λ source. LoadGives name source keep w answer) ⊎ TellsFault files dir name file answer
