-- What an expression may name: the columns of the FROM items and, in an incremental model, six macros.
use Rattle.std.specs.Prelude.{ℕ, Bool, length, true, List, [], ◌∷◌, ◌++◌, codes, Result, Ok, Err, if◌then◌else◌}
use Rattle.std.specs.List.{list_any, flat_map}
use Rattle.std.specs.Str.{bytes_eq}
use Rattle.std.specs.declared.option.Option.{Option}
use Rattle.std.specs.declared.option.Option.TheVariants.{None, Some}
use Rattle.mesh_base_values.specs.declared.values.ColType.{ColType}
use Rattle.mesh_base_values.specs.declared.values.ColType.TheVariants.{Int, Text, Date}
use Rattle.mesh_base_values.specs.declared.values.Column.{Column}
use Rattle.mesh_base_values.specs.Picked.{same_text}
use Rattle.mesh_base.specs.declared.expressions.Expr as expr
use Rattle.mesh_base.specs.declared.expressions.Var.{Var}
use Rattle.mesh_base.specs.declared.expressions.Var.TheVariants.{StartDate, EndDate, StartDs, EndDs, StartEpoch, EndEpoch}
use Rattle.mesh_query_tokens.specs.Gives.{◌>>=◌}
use Rattle.mesh_query_tokens.specs.declared.faults.ReadFault.{ReadFault}
use Rattle.mesh_resolve_scope.specs.declared.sight.sight.Seen.{Seen}
use Rattle.mesh_resolve_scope.specs.declared.sight.sight.Meant.{Meant}
use Rattle.mesh_resolve_scope.specs.sight.InSight.{Sight}
use Rattle.mesh_resolve_types.specs.declared.typed.Typed.{Typed}
use Rattle.mesh_resolve_types.specs.Faults.{unknown_column, ambiguous, bad_macro}
use Rattle.mesh_query_tokens.specs.Walk.{provided}
use Rattle.mesh_resolve_types.specs.Forms.{Read, leaf}

-- nothing in sight, before the first FROM item
abbrev pub nothing_seen : Bool → Sight
nothing_seen macros = record { from = []; macros = macros }

-- one more FROM item, of this name and with these columns
abbrev pub seeing : Sight → List ℕ → List Column → Sight
seeing sight name columns = record sight { from = sight.from ++ (record { place = length sight.from; name = name; columns = columns }) ∷ [] }

-- a FROM item answers to its name, and where no name is asked for
abbrev pub answers_to : Option (List ℕ) → Seen → Bool
answers_to None d = true
answers_to (Some name) d = same_text d.name name

-- a column of a FROM item, where it has that name
abbrev pub meant_column : List ℕ → Seen → Column → List Meant
meant_column name d c = if same_text c.name name then (record { item = d.place; kind = c.kind }) ∷ [] else []

abbrev pub meant_in : List ℕ → Seen → List Meant
meant_in name d = flat_map (meant_column name d) d.columns

abbrev pub meant_by : Option (List ℕ) → List ℕ → Seen → List Meant
meant_by item name d = if answers_to item d then meant_in name d else []

-- the columns that a name may mean
abbrev pub meant : Option (List ℕ) → List ℕ → List Seen → List Meant
meant item name from = flat_map (meant_by item name) from

-- a column of some FROM item has that name
abbrev pub is_column : List ℕ → List Seen → Bool
is_column name from = list_any (λ (d : Seen). list_any (λ (c : Column). same_text c.name name) d.columns) from

-- a FROM item of that name is there
abbrev pub is_there : List ℕ → List Seen → Bool
is_there name from = list_any (λ (d : Seen). same_text d.name name) from

-- a name means the one column that it may mean
abbrev pub the_one : ℕ → List ℕ → List Meant → Result Meant ReadFault
the_one at name [] = Err (unknown_column at name)
the_one at name (m ∷ []) = Ok m
the_one at name (m ∷ n ∷ ms) = Err (ambiguous at name)

-- `item.c` where no FROM item has that name is unknown by the name of the item
abbrev pub qualified : ℕ → Option (List ℕ) → List Seen → Result (Unit {0}) ReadFault
qualified at None from = Ok tt
qualified at (Some item) from = provided (is_there item from) tt (unknown_column at item)

abbrev pub column_typed : ℕ → List ℕ → ℕ → ColType → Typed
column_typed at name item kind = record { at = at; kind = Some kind; expr = expr.Col item name; marks = at ∷ [] }

-- a column, by its name and perhaps that of its FROM item
unfoldable pub column : Sight → ℕ → Option (List ℕ) → List ℕ → Read
column sight at item name = do
  there ← qualified at item sight.from
  m ← the_one at name (meant item name sight.from)
  Ok (column_typed at name m.item m.kind)

-- the macros, by their words
abbrev pub macro_named : List ℕ → Option Var
macro_named word =
    if bytes_eq word (codes "start_date") then Some StartDate
    else if bytes_eq word (codes "end_date") then Some EndDate
    else if bytes_eq word (codes "start_ds") then Some StartDs
    else if bytes_eq word (codes "end_ds") then Some EndDs
    else if bytes_eq word (codes "start_epoch") then Some StartEpoch
    else if bytes_eq word (codes "end_epoch") then Some EndEpoch
    else None

abbrev pub macro_kind : Var → ColType
macro_kind StartDate = Date
macro_kind EndDate = Date
macro_kind StartDs = Text
macro_kind EndDs = Text
macro_kind StartEpoch = Int
macro_kind EndEpoch = Int

abbrev pub macro_or_fault : ℕ → List ℕ → Option Var → Read
macro_or_fault at word None = Err (bad_macro at word)
macro_or_fault at word (Some var) = Ok (leaf at (Some (macro_kind var)) (expr.Macro var))

-- a macro, where macros may stand
unfoldable pub macro_typed : Sight → ℕ → List ℕ → Read
macro_typed sight at word = macro_or_fault at word (if sight.macros then macro_named word else None)
