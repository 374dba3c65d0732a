-- What `trace` and `impact` print, and why they are refused.
use Rattle.std.specs.Prelude.{◌≡◌, ◌⊎◌, ◌↔◌, ℕ, ◌≤◌, true, false, if◌then◌else◌, List, [], ◌∷◌, codes, Result, Ok, Err, Some, IsErrOf}
use Rattle.std.specs.List.{Contains, find, flat_map}
use Rattle.std.specs.Option.{ForSome, option_map}
use Rattle.std.specs.Ordering.{is_eq}
use Rattle.std.specs.declared.option.Option.{Option}
use Rattle.std.specs.declared.option.Option.TheVariants.{None}
use Rattle.mesh_list.specs.Counts.{Rose}
use Rattle.mesh_list.specs.Keyed.{ascends}
use Rattle.mesh_base_values.specs.Names.{name_cmp}
use Rattle.mesh_base_values.specs.declared.values.Column.{Column}
use Rattle.mesh_base_values.specs.declared.values.Name.{Name}
use Rattle.mesh_query_tokens.specs.declared.faults.FaultKind.TheVariants.{UnknownColumn}
use Rattle.mesh_base.specs.Outputs.{columns_of}
use Rattle.mesh_base.specs.declared.definitions.Decl.{Decl}
use Rattle.mesh_base.specs.declared.snapshots.Node.{Node}
use Rattle.mesh_base.specs.rules.Seen.{has_column}
use Rattle.mesh_spec_model.specs.Closures.{Closure, closures}
use Rattle.mesh_io.specs.declared.files.File.{File}
use Rattle.mesh_io.specs.Told.{FolderTold}
use Rattle.mesh_lineage.specs.Alike.{IsAlike}
use Rattle.mesh_trace.specs.Feeds.{feeds}
use Rattle.mesh_trace.specs.Impacts.{IsFedBy}
use Rattle.mesh_trace.specs.Traces.{listed, model_named, trace_cmp, trace_itself}
use Rattle.mesh_trace.specs.declared.traces.Trace.{Trace}
use Rattle.mesh_project_files.specs.Project.{sources_in}
use Rattle.mesh_cli_print.specs.faults.Lines.{◌·◌, name_text}
use Rattle.mesh_cli_print.specs.declared.printed.refusals.Refusal.{Refusal}
use Rattle.mesh_cli_print.specs.declared.printed.refusals.Refusal.TheVariants.{Warehouse, Memory, Input, Model}
use Rattle.mesh_cli_answer.specs.Answers.{IsGiven, is_fault}
use Rattle.mesh_cli_apply.specs.Loaded.{OfProject}
use Rattle.mesh_cli_apply.specs.Planning.{no_model}

-- the line of a column, or of a relation of which no column is listed
abbrev pub column_part : Option (List ℕ) → List ℕ
column_part None = []
column_part (Some column) = codes " " · column

abbrev pub trace_line : Trace → List ℕ
trace_line t = name_text t.relation · column_part t.column · codes "\n"

abbrev pub traces_text : List Trace → List ℕ
traces_text traces = flat_map trace_line traces

-- the model and the declared source of a name
abbrev pub node_named : List Node → Name → Option Node
node_named nodes name = find (λ (n : Node). is_eq (name_cmp n.own.name name)) nodes

abbrev pub source_named : List Decl → Name → Option Decl
source_named sources name = find (λ (d : Decl). is_eq (name_cmp d.name name)) sources

-- their columns
abbrev pub model_columns : List Node → Name → Option (List Column)
model_columns nodes name = option_map (λ (n : Node). columns_of n.own) (node_named nodes name)

abbrev pub declared_columns : List Decl → Name → Option (List Column)
declared_columns sources name = option_map (λ (d : Decl). d.columns) (source_named sources name)

-- those of a model, or else of a declared source
abbrev pub or_declared : Option (List Column) → List Decl → Name → Option (List Column)
or_declared None sources name = declared_columns sources name
or_declared (Some columns) sources name = Some columns

-- a column that its relation hasn't, in the words of a fault of no one file
abbrev pub no_column : List ℕ → Refusal
no_column column = Model (codes "-") 0 (UnknownColumn column)

-- whether there is such a relation, and it has this column: the first of the two that isn't so is told
abbrev pub found : Name → List ℕ → Option (List Column) → Result (Unit {0}) Refusal
found name column None = Err (no_model name)
found name column (Some columns) = if has_column columns column then Ok tt else Err (no_column column)

-- it was looked for, unless memory was wanting
abbrev pub Finds : Result (Unit {0}) Refusal → Result (Unit {0}) Refusal → Type 0
Finds (Ok x) is = is ≡ Ok x
Finds (Err r) is = (r ≡ Memory) ⊎ (is ≡ Err r)

-- all that feeds a column of the model of a name, in order and each once, as it is listed
pub record IsTraceOf (cs : List Closure) (name : Name) (column : List ℕ) (list : List Trace) : Type 0 where
  pub ascending : ascends trace_cmp trace_itself list ≡ true
  pub exactly : (c : Closure) → model_named cs name ≡ Some c → IsAlike list (listed (feeds c (column ∷ [])))

-- all columns of models that a column feeds, in order and each once
pub record IsImpactOf (cs : List Closure) (name : Name) (column : List ℕ) (list : List Trace) : Type 0 where
  pub ascending : ascends trace_cmp trace_itself list ≡ true
  pub exactly : (t : Trace) → Contains list t ↔ IsFedBy cs (record { relation = name; column = column }) t

-- a list of this kind is printed, where what was looked for is there
abbrev pub Lists : Result (Unit {0}) Refusal → (List Trace → Type 0) → Result (List ℕ) Refusal → Type 0
Lists (Ok x) is (Ok text) = (list : List Trace) × is list × (text ≡ traces_text list)
Lists (Ok x) is (Err r) = ⊥
Lists (Err e) is answer = answer ≡ Err e

-- `trace` over the models of a project: the name has to be a model's
abbrev pub TraceOf : List Node → Name → List ℕ → Result (List ℕ) Refusal → Type 0
TraceOf nodes model column answer = Lists (found model column (model_columns nodes model)) (IsTraceOf (closures nodes) model column) answer

-- `impact`: the name may be a declared source's
abbrev pub ImpactOf : List Decl → List Node → Name → List ℕ → Result (List ℕ) Refusal → Type 0
ImpactOf sources nodes name column answer = Lists (found name column (or_declared (model_columns nodes name) sources name)) (IsImpactOf (closures nodes) name column) answer

-- `trace` of the project in a folder; a fault of the project comes first
abbrev pub TraceGives : Option (List File) → List ℕ → Name → List ℕ → Result (List ℕ) Refusal → Type 0
TraceGives files dir model column answer = OfProject files dir (λ nodes. TraceOf nodes model column) answer

-- `impact`, with the sources that the project declares
abbrev pub ImpactGives : Option (List File) → List ℕ → Name → List ℕ → Result (List ℕ) Refusal → Type 0
ImpactGives files dir name column answer =
    OfProject files dir (λ nodes told. (sources : List Decl) × ForSome files (λ fs. sources_in fs dir ≡ Ok sources) × ImpactOf sources nodes name column told) answer

-- what is answered is given, unless memory was wanting
abbrev pub Says : (Result (List ℕ) Refusal → Type 0) → Result (List ℕ) Refusal → Type 0
Says gives (Ok text) = gives (Ok text)
Says gives (Err r) = (r ≡ Memory) ⊎ ((is_fault r ≡ false) × gives (Err r))

-- The folder alone was asked, and stays as it is. What is answered is what its files give, unless it failed or memory
-- was wanting; it is told to have failed only where its count of faults rose.
pub record ReadsFolder (gives : Option (List File) → Result (List ℕ) Refusal → Type 0) (old new : FolderTold) (answer : Result (List ℕ) Refusal) : Type 0 where
  pub files : new.files ≡ old.files
  pub faults : old.faults ≤ new.faults
  pub failed : IsErrOf answer Input → Rose old.faults new.faults
  pub inside : IsErrOf answer Warehouse → ⊥
  pub given : IsGiven (gives old.files) answer
