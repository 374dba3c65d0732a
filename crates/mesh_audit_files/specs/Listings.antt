-- What the models of a project list as their audits.
use Rattle.std.specs.Prelude.{ℕ, Bool, false, List, [], map}
use Rattle.std.specs.List.{filter, find, flat_map}
use Rattle.std.specs.Ordering.{is_eq}
use Rattle.std.specs.Str.{bytes_eq}
use Rattle.std.specs.declared.option.Option.{Option}
use Rattle.std.specs.declared.option.Option.TheVariants.{None, Some}
use Rattle.mesh_base_values.specs.Names.{name_cmp}
use Rattle.mesh_base_values.specs.declared.values.Name.{Name}
use Rattle.mesh_base.specs.declared.snapshots.Node.{Node}
use Rattle.mesh_project_files.specs.declared.project.ModelFile.{ModelFile}
use Rattle.mesh_audit_files.specs.declared.text.entries.Entry.{Entry}
use Rattle.mesh_audit_files.specs.declared.text.entries.Entry.TheVariants.{Named}
use Rattle.mesh_audit_files.specs.text.Entries.{entries_of}

-- an entry of a model's `audits`, with the model and its file
pub record Listed : Type 0 where
  pub model : Node
  pub file : List ℕ
  pub entry : Entry

abbrev pub is_file_of : Name → ModelFile → Bool
is_file_of name f = is_eq (name_cmp f.text.name name)

-- the file of the model of that name
abbrev pub file_of : List ModelFile → Name → Option ModelFile
file_of files name = find (is_file_of name) files

abbrev pub listed_as : Node → List ℕ → Entry → Listed
listed_as n file entry = record { model = n; file = file; entry = entry }

-- what a model lists in its file
abbrev pub listed_in : Node → Option ModelFile → List Listed
listed_in n None = []
listed_in n (Some f) = map (listed_as n f.text.file) (entries_of f.text.audits)

abbrev pub listed_by : List ModelFile → Node → List Listed
listed_by files n = listed_in n (file_of files n.own.name)

-- what all models list, by rank and name of the model and then in written order
abbrev pub all_listed : List ModelFile → List Node → List Listed
all_listed files nodes = flat_map (listed_by files) nodes

abbrev pub is_entry_of : List ℕ → Entry → Bool
is_entry_of name (Named other) = bytes_eq other name
is_entry_of name entry = false

-- the entry goes by this name
abbrev pub goes_by : List ℕ → Listed → Bool
goes_by name l = is_entry_of name l.entry
