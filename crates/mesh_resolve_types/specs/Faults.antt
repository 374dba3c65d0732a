-- What may be wrong with a query, and where.
use Rattle.std.specs.Prelude.{ℕ, List, codes}
use Rattle.mesh_query_tokens.specs.declared.faults.FaultKind.TheVariants.{Syntax, TooLarge, UnknownRelation, UnknownColumn, Ambiguous, TypeMismatch, Duplicate, NotGrouped, TimeColumn, BadMacro}
use Rattle.mesh_query_tokens.specs.declared.faults.ReadFault.{ReadFault}
use Rattle.mesh_query_tokens.specs.declared.faults.ReadFault.TheVariants.{Fault}

-- the types don't fit
abbrev pub mismatch : ℕ → ReadFault
mismatch at = Fault at TypeMismatch

abbrev pub unknown_relation : ℕ → List ℕ → ReadFault
unknown_relation at name = Fault at (UnknownRelation name)

abbrev pub unknown_column : ℕ → List ℕ → ReadFault
unknown_column at name = Fault at (UnknownColumn name)

abbrev pub ambiguous : ℕ → List ℕ → ReadFault
ambiguous at name = Fault at (Ambiguous name)

-- two output columns, FROM items or CTEs of one name
abbrev pub duplicate : ℕ → List ℕ → ReadFault
duplicate at name = Fault at (Duplicate name)

-- no column of that name keeps time; it has no place of its own
abbrev pub no_time_column : List ℕ → ReadFault
no_time_column name = Fault 0 (TimeColumn name)

abbrev pub not_grouped : ℕ → ReadFault
not_grouped at = Fault at NotGrouped

abbrev pub bad_macro : ℕ → List ℕ → ReadFault
bad_macro at name = Fault at (BadMacro name)

-- the most columns that a SELECT has
abbrev pub most_columns : ℕ
most_columns = 1024

abbrev pub too_many_columns : ReadFault
too_many_columns = Fault 0 (TooLarge (codes "columns") most_columns)

-- the greatest number in a query
abbrev pub largest_number : ℕ
largest_number = 9223372036854775807

abbrev pub too_large_number : ℕ → ReadFault
too_large_number at = Fault at (TooLarge (codes "number") largest_number)

-- no query is so written
abbrev pub unwritten : ℕ → ReadFault
unwritten at = Fault at Syntax
