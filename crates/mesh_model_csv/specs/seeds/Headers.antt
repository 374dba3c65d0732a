-- The names of a header, and its first fault. Records and fields are counted from 1; the header is record 1.
use Rattle.std.specs.Prelude.{ℕ, ◌+◌, Bool, ◌||◌, not, nat_le, List, [], ◌∷◌, ◌++◌, map, codes, length, if◌then◌else◌}
use Rattle.std.specs.Char.{to_ascii_lowercase}
use Rattle.std.specs.List.{list_any}
use Rattle.std.specs.declared.option.Option.{Option}
use Rattle.std.specs.declared.option.Option.TheVariants.{None, Some}
use Rattle.mesh_base_values.specs.Names.{is_identifier}
use Rattle.mesh_base_values.specs.Picked.{same_text}
use Rattle.mesh_query_tokens.specs.declared.faults.FaultKind.TheVariants.{BadRow, TooLarge}
use Rattle.mesh_query_tokens.specs.declared.faults.ReadFault.{ReadFault}
use Rattle.mesh_query_tokens.specs.declared.faults.ReadFault.TheVariants.{Fault}

-- field c of record r breaks a rule, or the whole record where c is 0
abbrev pub bad_row : ℕ → ℕ → ReadFault
bad_row r c = Fault 0 (BadRow r c)

-- the most bytes of an identifier
abbrev pub longest_name : ℕ
longest_name = 128

-- the most columns of a seed or source
abbrev pub most_columns : ℕ
most_columns = 1024

abbrev pub long_name : ReadFault
long_name = Fault 0 (TooLarge (codes "name") longest_name)

abbrev pub many_columns : ReadFault
many_columns = Fault 0 (TooLarge (codes "columns") most_columns)

abbrev pub lowered : List ℕ → List ℕ
lowered text = map to_ascii_lowercase text

abbrev pub is_among : List (List ℕ) → List ℕ → Bool
is_among names name = list_any (same_text name) names

-- the name in field c of the header, behind the names of the fields before it
abbrev pub name_fault : List (List ℕ) → ℕ → List ℕ → Option ReadFault
name_fault before c field =
    if not (is_identifier field) then Some (bad_row 1 c)
    else if not (nat_le (length field) longest_name) then Some long_name
    else if is_among before (lowered field) then Some (bad_row 1 c)
    else if not (nat_le c most_columns) then Some many_columns
    else None

abbrev pub first_of : {A : Type 0} → Option A → Option A → Option A
first_of None rest = rest
first_of (Some fault) rest = Some fault

-- the first fault of the names from field c on
abbrev pub names_fault : List (List ℕ) → ℕ → List (List ℕ) → Option ReadFault
names_fault before c [] = None
names_fault before c (f ∷ fs) = first_of (name_fault before c f) (names_fault (before ++ lowered f ∷ []) (c + 1) fs)

abbrev pub header_fault : List (List ℕ) → Option ReadFault
header_fault header = names_fault [] 1 header

-- the names, where the header has no fault
abbrev pub header_names : List (List ℕ) → List (List ℕ)
header_names header = map lowered header
