-- What `trace` and `impact` find, and what they answer.
use Rattle.std.proofs.Common.{◌≡◌, inl, inr, ℕ, Bool, true, false, cond, List, [], ◌∷◌, map, Some, None, Ok, Err, Result, IsErrAnd, IsErrOf, refl, sym, ◌∙◌, ap, subst, arith, if◌then◌else◌}
use Rattle.std.specs.Prelude.{IsTrue}
use Rattle.std.specs.List.{find}
use Rattle.std.specs.Option.{option_map}
use Rattle.std.specs.Ordering.{is_eq}
use Rattle.std.specs.declared.option.Option.{Option}
use Rattle.mesh_base_values.specs.Names.{name_cmp}
use Rattle.mesh_base_values.specs.declared.values.Column.{Column}
use Rattle.mesh_base_values.specs.declared.values.Name.{Name}
use Rattle.mesh_query_tokens.specs.declared.faults.FaultKind.{FaultKind}
use Rattle.mesh_base.specs.Outputs.{columns_of}
use Rattle.mesh_base.specs.declared.definitions.Decl.{Decl}
use Rattle.mesh_base.specs.declared.definitions.Own.{Own}
use Rattle.mesh_base.specs.declared.snapshots.Node.{Node}
use Rattle.mesh_base.specs.rules.Proper.{ProjectNodes}
use Rattle.mesh_base.specs.rules.Seen.{has_column}
use Rattle.mesh_spec_model.specs.Closures.{Closure, closures, own_of}
use Rattle.mesh_spec_model.proofs.Listed.{one_each}
use Rattle.mesh_io.specs.declared.files.File.{File}
use Rattle.mesh_io.specs.Told.{FolderTold}
use Rattle.mesh_trace.specs.Traces.{HasColumn, model_named}
use Rattle.mesh_trace.specs.declared.traces.Trace.{Trace}
use Rattle.mesh_project_files.specs.Loading.{◌>>=◌, Asks, AsksAs, Gives, Refuses}
use Rattle.mesh_project_files.specs.Project.{AreFiles, paths_in, sources_in}
use Rattle.mesh_project_files.specs.declared.faults.LoadFault.{LoadFault}
use Rattle.mesh_project_files.specs.declared.faults.LoadFault.TheVariants as load
use Rattle.mesh_project_files.specs.declared.project.ModelFile.{ModelFile}
use Rattle.mesh_project_files.specs.declared.project.ProjectFiles.{ProjectFiles}
use Rattle.mesh_project.specs.project.Project.{IsLoaded}
use Rattle.mesh_cli_print.specs.declared.printed.refusals.Refusal.{Refusal}
use Rattle.mesh_cli_print.specs.declared.printed.refusals.Refusal.TheVariants.{Memory, Input, Warehouse, Model}
use Rattle.mesh_cli_answer.specs.Answers.{IsGiven, is_fault}
use Rattle.mesh_cli_answer.specs.Loads.{of_load}
use Rattle.mesh_cli_answer.proofs.Answering.{no_warehouse, same_refusal}
use Rattle.mesh_cli_apply.specs.Loaded.{LoadsProject}
use Rattle.mesh_cli_apply.specs.Planning.{no_model}
use Rattle.mesh_cli_apply.specs.Tracing.{Finds, ImpactGives, ImpactOf, Lists, ReadsFolder, Says, TraceGives, TraceOf, found, model_columns, no_column, node_named, traces_text}

-- the first that does, of what things are made into
find_map : {X Y : Type 0} (f : X → Y) (p : Y → Bool) (xs : List X) → option_map f (find (λ x. p (f x)) xs) ≡ find p (map f xs)
find_map f p [] = refl
find_map f p (x ∷ xs) = by_test (p (f x)) (find_map f p xs)
  where
    by_test : (b : Bool) → option_map f (find (λ z. p (f z)) xs) ≡ find p (map f xs) → option_map f (cond b (Some x) (find (λ z. p (f z)) xs)) ≡ cond b (Some (f x)) (find p (map f xs))
    by_test true rest = refl
    by_test false rest = rest

abbrev tested : Bool → Refusal → Result (Unit {0}) Refusal
tested b e = if b then Ok tt else Err e

found_has : (b : Bool) (e : Refusal) → tested b e ≡ Ok tt → b ≡ true
found_has true e is = refl
found_has false e is = absurd (cc)

-- a column of a model that was found is there
module _ (nodes : List Node) (name : Name) (column : List ℕ) where
  abbrev is_named : Own → Bool
  is_named o = is_eq (name_cmp o.name name)

  same_own : option_map own_of (model_named (closures nodes) name) ≡ option_map (λ (n : Node). n.own) (node_named nodes name)
  same_own = find_map own_of is_named (closures nodes) ∙ ap (find is_named) (one_each nodes) ∙ sym (find_map (λ (n : Node). n.own) is_named nodes)

  there : (o : Option Closure) (p : Option Node) → option_map own_of o ≡ option_map (λ (n : Node). n.own) p → found name column (option_map (λ (n : Node). columns_of n.own) p) ≡ Ok tt
      → (c : Closure) × (o ≡ Some c) × IsTrue (has_column (columns_of (own_of c)) column)
  there (Some c) (Some n) same is =
      let own : own_of c ≡ n.own = cc in
      (c, refl, ap (λ (o : Own). has_column (columns_of o) column) own ∙ found_has (has_column (columns_of n.own) column) (no_column column) is)
  there (Some c) None same is = absurd (cc)
  there None (Some n) same is = absurd (cc)
  there None None same is = absurd (cc)

  pub found_there : found name column (model_columns nodes name) ≡ Ok tt → HasColumn (closures nodes) name column
  found_there is = there (model_named (closures nodes) name) (node_named nodes name) same_own is

-- what isn't found is told of the words
pub found_fine : (name : Name) (column : List ℕ) (columns : Option (List Column)) (e : Refusal) → found name column columns ≡ Err e → is_fault e ≡ false
found_fine name column None e is = let same : no_model name ≡ e = cc in ap is_fault (sym same)
found_fine name column (Some columns) e is = by_test (has_column columns column) is
  where
    by_test : (b : Bool) → tested b (no_column column) ≡ Err e → is_fault e ≡ false
    by_test true k = absurd (cc)
    by_test false k = let same : no_column column ≡ e = cc in ap is_fault (sym same)

-- a column wasn't found, and this is handed on
module _ (is : List Trace → Type 0) (name : Name) (column : List ℕ) (columns : Option (List Column)) where
  not_found : (e : Refusal) → Finds (Err e) (found name column columns) → Says (Lists (found name column columns) is) (Err e)
  not_found e (inl memory) = inl memory
  not_found e (inr told) = inr (found_fine name column columns e told, subst (λ (l : Result (Unit {0}) Refusal). Lists l is (Err e)) (sym told) refl)

  pub not_found_then : (e : Refusal) (r : Result (List ℕ) Refusal) → IsErrAnd r (λ y. y ≡ e) → Finds (Err e) (found name column columns) → Says (Lists (found name column columns) is) r
  not_found_then e (Ok x) told finds = absurd told
  not_found_then e (Err y) told finds = subst (λ (k : Refusal). Says (Lists (found name column columns) is) (Err k)) (sym told) (not_found e finds)

  -- it was found, and its list is printed
  pub listed_then : (list : List Trace) (text : List ℕ) → found name column columns ≡ Ok tt → is list → text ≡ traces_text list → Says (Lists (found name column columns) is) (Ok text)
  listed_then list text told has printed = subst (λ (l : Result (Unit {0}) Refusal). Lists l is (Ok text)) (sym told) (list, has, printed)

no_memory : Memory ≡ Warehouse → ⊥
no_memory e = absurd (let clash : Memory ≡ Warehouse = e in cc)

-- memory was wanting
pub wanting : (gives : Result (List ℕ) Refusal → Type 0) (r : Result (List ℕ) Refusal) → IsErrAnd r (λ y. y ≡ Memory) → Says gives r
wanting gives (Ok x) told = absurd told
wanting gives (Err y) told = inl told

-- what is said is given, and tells of nothing that failed
module _ (gives : Result (List ℕ) Refusal → Type 0) where
  pub said_given : (r : Result (List ℕ) Refusal) → Says gives r → IsGiven gives r
  said_given (Ok text) says = says
  said_given (Err r) (inl memory) = λ fine. absurd (let clash : true ≡ false = sym (ap is_fault memory) ∙ fine in cc)
  said_given (Err r) (inr says) = λ fine. says.1

  pub said_no_warehouse : (r : Result (List ℕ) Refusal) → Says gives r → IsErrOf r Warehouse → ⊥
  said_no_warehouse (Ok text) says is = absurd (cc)
  said_no_warehouse (Err r) (inl memory) is = no_memory (sym memory ∙ same_refusal {T = List ℕ} r Warehouse is)
  said_no_warehouse (Err r) (inr says) is = no_warehouse r says.0 (same_refusal {T = List ℕ} r Warehouse is)

  pub said_no_input : (r : Result (List ℕ) Refusal) → Says gives r → IsErrOf r Input → ⊥
  said_no_input (Ok text) says is = absurd (cc)
  said_no_input (Err r) (inl memory) is = let clash : Memory ≡ Input = sym memory ∙ same_refusal {T = List ℕ} r Input is in cc clash
  said_no_input (Err r) (inr says) is = absurd (let clash : true ≡ false = sym (ap is_fault (same_refusal {T = List ℕ} r Input is)) ∙ says.0 in cc)

-- the folder was asked, and what was read of it gives this
module _ (gives : Option (List File) → Result (List ℕ) Refusal → Type 0) (old new : FolderTold) where
  -- a fault of reading
  pub fault_told : {X : Type 0} (means : List File → Result X LoadFault → Type 0) (fault : LoadFault) → AsksAs means old new (Err fault)
      → ((file : List ℕ) (at : ℕ) (kind : FaultKind) → fault ≡ load.Fault file at kind → gives old.files (Err (Model file at kind))) → ReadsFolder gives old new (Err (of_load fault))
  fault_told means (load.Fault file at kind) asks next = record {
    files = asks.files;
    faults = asks.faults;
    failed = λ is. absurd (let clash : Model file at kind ≡ Input = same_refusal {T = List ℕ} (Model file at kind) Input is in cc);
    inside = λ is. let clash : Model file at kind ≡ Warehouse = same_refusal {T = List ℕ} (Model file at kind) Warehouse is in cc clash;
    given = λ fine. next file at kind refl;
  }
  fault_told means load.Folder asks next = record {
    files = asks.files;
    faults = asks.faults;
    failed = λ is. asks.failed refl;
    inside = λ is. let clash : Input ≡ Warehouse = same_refusal {T = List ℕ} Input Warehouse is in cc clash;
    given = λ fine. absurd (let clash : true ≡ false = fine in cc);
  }
  fault_told means load.Memory asks next = record {
    files = asks.files;
    faults = asks.faults;
    failed = λ is. absurd (let clash : Memory ≡ Input = same_refusal {T = List ℕ} Memory Input is in cc);
    inside = λ is. no_memory (same_refusal {T = List ℕ} Memory Warehouse is);
    given = λ fine. absurd (let clash : true ≡ false = fine in cc);
  }

  -- what was read is answered by
  pub read_told : {X : Type 0} (means : List File → Result X LoadFault → Type 0) (x : X) (by : Result (List ℕ) Refusal → Type 0) (r : Result (List ℕ) Refusal) → AsksAs means old new (Ok x) → Says by r
      → (by r → gives old.files r) → ReadsFolder gives old new r
  read_told means x by r asks says next = record {
    files = asks.files;
    faults = asks.faults;
    failed = λ is. absurd (said_no_input by r says is);
    inside = said_no_warehouse by r says;
    given = passed r says next;
  }
    where
      passed : (r : Result (List ℕ) Refusal) → Says by r → (by r → gives old.files r) → IsGiven (gives old.files) r
      passed (Ok text) says next = next says
      passed (Err e) says next = λ fine. next (said_given by (Err e) says fine)

-- `trace`, where the project isn't loaded, and where it is
module _ (dir : List ℕ) (model : Name) (column : List ℕ) (old new : FolderTold) where
  pub trace_unloaded : (r : Refusal) → LoadsProject dir old new (Err r) → ReadsFolder (λ files. TraceGives files dir model column) old new (Err r)
  trace_unloaded r (fault, is, asks) = subst (λ (k : Refusal). ReadsFolder (λ files. TraceGives files dir model column) old new (Err k)) (sym is)
      (fault_told (λ files. TraceGives files dir model column) old new {X = ProjectNodes} (λ fs. IsLoaded fs dir) fault asks (λ file at kind same. inr (record {
        file = file;
        at = at;
        kind = kind;
        first = λ fs e. subst (λ (f : LoadFault). IsLoaded fs dir (Err f)) same (asks.gives fs e);
        told = refl;
      })))

  pub trace_loaded : (project : ProjectNodes) (r : Result (List ℕ) Refusal) → LoadsProject dir old new (Ok project) → Says (TraceOf project.nodes model column) r → ReadsFolder (λ files. TraceGives files dir model column) old new r
  trace_loaded project r asks says = read_told (λ files. TraceGives files dir model column) old new {X = ProjectNodes} (λ fs. IsLoaded fs dir) project (TraceOf project.nodes model column) r asks says
      (λ is. inl (record { project = project; loaded = asks.gives; has = is }))

abbrev files_of : List Decl → List ModelFile → ProjectFiles
files_of sources models = record { sources = sources; models = models }

-- the sources of files are those that they declare
sources_first : (a : Result (List Decl) LoadFault) (b : Result (List (List ℕ)) LoadFault) (c : Result (List ModelFile) LoadFault) (files : ProjectFiles)
    → (a >>= λ sources. b >>= λ paths. c >>= λ models. Ok (files_of sources models)) ≡ Ok files → a ≡ Ok files.sources
sources_first (Ok sources) (Ok paths) (Ok models) files is =
    let same : files_of sources models ≡ files = cc in ap (λ (f : ProjectFiles). Ok f.sources) same
sources_first (Ok sources) (Ok paths) (Err e) files is = absurd (cc)
sources_first (Ok sources) (Err e) c files is = absurd (cc)
sources_first (Err e) b c files is = absurd (cc)

read_sources : (fs : List File) (dir : List ℕ) (files : ProjectFiles) → AreFiles fs dir (Ok files) → sources_in fs dir ≡ Ok files.sources
read_sources fs dir files (models, read, is) = sources_first (sources_in fs dir) (paths_in fs dir) models files is

-- a project's files declare sources
loaded_sources : (fs : List File) (dir : List ℕ) (project : ProjectNodes) → IsLoaded fs dir (Ok project) → (sources : List Decl) × (sources_in fs dir ≡ Ok sources)
loaded_sources fs dir project (Ok files, are, made) = (files.sources, read_sources fs dir files are)
loaded_sources fs dir project (Err e, are, made) = absurd (let clash : Err e ≡ Ok project = made in cc)

-- so that they are there once it is loaded
no_fault_left : (fs : List File) (dir : List ℕ) (project : ProjectNodes) → IsLoaded fs dir (Ok project) → (fault : LoadFault) → sources_in fs dir ≡ Err fault → ⊥
no_fault_left fs dir project is fault clash = let (sources, there) = loaded_sources fs dir project is in let both : Ok sources ≡ Err fault = sym there ∙ clash in cc both

-- `impact`, where the project isn't loaded, and where it is
module _ (dir : List ℕ) (name : Name) (column : List ℕ) (old mid : FolderTold) where
  abbrev pub Answer : Option (List File) → Result (List ℕ) Refusal → Type 0
  Answer files r = ImpactGives files dir name column r

  pub impact_unloaded : (r : Refusal) → LoadsProject dir old mid (Err r) → ReadsFolder Answer old mid (Err r)
  impact_unloaded r (fault, is, asks) = subst (λ (k : Refusal). ReadsFolder Answer old mid (Err k)) (sym is)
      (fault_told Answer old mid {X = ProjectNodes} (λ fs. IsLoaded fs dir) fault asks (λ file at kind same. inr (record {
        file = file;
        at = at;
        kind = kind;
        first = λ fs e. subst (λ (f : LoadFault). IsLoaded fs dir (Err f)) same (asks.gives fs e);
        told = refl;
      })))

  module _ (new : FolderTold) (project : ProjectNodes) (loads : LoadsProject dir old mid (Ok project)) where
    -- the project and its sources were read one after the other
    both_read : {X : Type 0} (means : List File → Result X LoadFault → Type 0) (read : Result X LoadFault) → AsksAs means mid new read → AsksAs (λ fs r. IsLoaded fs dir (Ok project) × means fs r) old new read
    both_read means read asks = record {
      files = asks.files ∙ loads.files;
      faults = let f = loads.faults in let s = asks.faults in omega (arith, f, s);
      gives = λ fs e. (loads.gives fs e, asks.gives fs (loads.files ∙ e));
      failed = λ h. let rose = asks.failed h in let f = loads.faults in omega (arith, rose, f);
    }

    pub impact_unsourced : (fault : LoadFault) → Asks (λ fs. sources_in fs dir) mid new (Err fault) → ReadsFolder Answer old new (Err (of_load fault))
    impact_unsourced fault asks =
        let both = both_read {X = List Decl} (λ fs r. Gives r (sources_in fs dir)) (Err fault) asks in
        fault_told Answer old new {X = List Decl} (λ fs r. IsLoaded fs dir (Ok project) × Gives r (sources_in fs dir)) fault both (λ file at kind same. inr (record {
          file = file;
          at = at;
          kind = kind;
          first = λ fs e. absurd (no_fault_left fs dir project (both.gives fs e).0 (load.Fault file at kind) (subst (λ (f : LoadFault). Refuses {X = List Decl} f (sources_in fs dir)) same (both.gives fs e).1));
          told = refl;
        }))

    pub impact_loaded : (sources : List Decl) (r : Result (List ℕ) Refusal) → Asks (λ fs. sources_in fs dir) mid new (Ok sources) → Says (ImpactOf sources project.nodes name column) r → ReadsFolder Answer old new r
    impact_loaded sources r asks says =
        let both = both_read {X = List Decl} (λ fs r. Gives r (sources_in fs dir)) (Ok sources) asks in
        read_told Answer old new {X = List Decl} (λ fs r. IsLoaded fs dir (Ok project) × Gives r (sources_in fs dir)) sources (ImpactOf sources project.nodes name column) r both says (λ is. inl (record {
          project = project;
          loaded = loads.gives;
          has = (sources, (λ fs e. (both.gives fs e).1), is);
        }))
