-- The names of a header, field by field.
use Rattle.std.proofs.Common.{ℕ, ◌+◌, List, drop}
use Rattle.std.specs.declared.option.Option.{Option}
use Rattle.mesh_query_tokens.specs.declared.faults.ReadFault.{ReadFault}
use Rattle.mesh_model_csv.specs.seeds.Headers.{names_fault}

-- the fault from a field on
abbrev pub fault_from : List (List ℕ) → ℕ → List (List ℕ) → Option ReadFault
fault_from before i header = names_fault before (i + 1) (drop i header)
