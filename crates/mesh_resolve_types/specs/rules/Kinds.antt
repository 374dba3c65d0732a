-- The types of expressions. A NULL has none until its place decides it.
use Rattle.std.specs.Prelude.{Bool, true, false, ◌&&◌, List, [], ◌∷◌, if◌then◌else◌}
use Rattle.std.specs.List.{list_all}
use Rattle.std.specs.declared.option.Option.{Option}
use Rattle.std.specs.declared.option.Option.TheVariants.{None, Some}
use Rattle.mesh_base_values.specs.declared.values.ColType.{ColType}
use Rattle.mesh_base_values.specs.declared.values.ColType.TheVariants.{Int, Text, Date, Bool as Truth}
use Rattle.mesh_base_values.specs.Types.{same_type}
use Rattle.mesh_query_grammar.specs.declared.surface.signs.AddSign.{AddSign}
use Rattle.mesh_query_grammar.specs.declared.surface.signs.AddSign.TheVariants as sign

-- a type, or none yet
abbrev pub Kind : Type 0
Kind = Option ColType

-- NULL takes the type that its place needs
abbrev pub may_be : ColType → Kind → Bool
may_be wanted None = true
may_be wanted (Some kind) = same_type wanted kind

abbrev pub are_alike : Kind → Kind → Bool
are_alike None b = true
are_alike (Some kind) b = may_be kind b

-- the first type that is decided
abbrev pub first_kind : List Kind → Kind
first_kind [] = None
first_kind (None ∷ kinds) = first_kind kinds
first_kind (Some kind ∷ kinds) = Some kind

-- all that are decided are of one type
abbrev pub are_one_kind : List Kind → Bool
are_one_kind kinds = list_all (are_alike (first_kind kinds)) kinds

-- an undecided column is TEXT
abbrev pub or_text : Kind → ColType
or_text None = Text
or_text (Some kind) = kind

abbrev pub is_date_kind : Kind → Bool
is_date_kind None = false
is_date_kind (Some kind) = same_type Date kind

-- DATE + INT and DATE - INT are DATE, DATE - DATE is INT; otherwise both are INT
abbrev pub sum_kind : AddSign → Kind → Kind → Option ColType
sum_kind sign.Plus (Some Date) b = if may_be Int b then Some Date else None
sum_kind sign.Plus a b = if may_be Int a && may_be Int b then Some Int else None
sum_kind sign.Minus a (Some Date) = if may_be Date a then Some Int else None
sum_kind sign.Minus (Some Date) b = if may_be Int b then Some Date else None
sum_kind sign.Minus a b = if may_be Int a && may_be Int b then Some Int else None

-- to the same type, to TEXT and from it, and between BOOL and INT
abbrev pub casts : ColType → ColType → Bool
casts Text to = true
casts from Text = true
casts Int Truth = true
casts Truth Int = true
casts from to = same_type from to

abbrev pub may_cast : ColType → Kind → Bool
may_cast to None = true
may_cast to (Some from) = casts from to
