-- Tables that are cut to what a definition reads, and those that it can't tell apart.
use Rattle.std.specs.Prelude.{◌≡◌, ℕ, List, map}
use Rattle.std.specs.List.{All}
use Rattle.std.specs.declared.option.Option.{Option}
use Rattle.mesh_base_values.specs.Bag.{IsSameBag}
use Rattle.mesh_base_values.specs.Picked.{picked_rows, picked_columns}
use Rattle.mesh_base_values.specs.declared.values.Cell.{Cell}
use Rattle.mesh_base.specs.declared.definitions.Defn.{Defn}
use Rattle.mesh_base.specs.declared.jobs.Input.{Input}
use Rattle.mesh_base.specs.rules.Proper.{defn_names}
use Rattle.mesh_spec_query.specs.Tables.{columns_in, rows_in}
use Rattle.mesh_law_query.specs.Alike.{named}
use Rattle.mesh_law_query.specs.Reads.{defn_reads}

-- a table's rows with the named columns alone
abbrev pub cut : List (List ℕ) → Option Input → List (List Cell)
cut columns table = picked_rows columns (columns_in table) (rows_in table)

-- under each name that the definition names, both have the same rows as far as it reads their columns
abbrev pub AgreeOnReads : Defn → List Input → List Input → Type 0
AgreeOnReads d a b = All (λ name. cut (defn_reads d name) (named a name) ≡ cut (defn_reads d name) (named b name)) (defn_names d)

-- under each name that the definition names, these rows are one bag
abbrev pub AgreeAsBags : Defn → List Input → List Input → Type 0
AgreeAsBags d a b = All (λ name. IsSameBag (cut (defn_reads d name) (named a name)) (cut (defn_reads d name) (named b name))) (defn_names d)

-- a table with the columns alone that the definition reads of it
abbrev pub cut_input : Defn → Input → Input
cut_input d input = record { name = input.name; columns = picked_columns (defn_reads d input.name) input.columns; rows = picked_rows (defn_reads d input.name) input.columns input.rows }

abbrev pub cut_inputs : Defn → List Input → List Input
cut_inputs d inputs = map (cut_input d) inputs
