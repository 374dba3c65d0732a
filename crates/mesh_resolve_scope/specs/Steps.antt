-- The steps of the walk, over what its operands stand for: the fault of an operand comes before that of the form.
use Rattle.std.specs.Prelude.{ℕ, Bool, List, [], ◌∷◌, ◌++◌, Result, Ok, Err}
use Rattle.std.specs.declared.option.Option.{Option}
use Rattle.std.specs.declared.option.Option.TheVariants.{None, Some}
use Rattle.mesh_base_values.specs.declared.values.ColType.{ColType}
use Rattle.mesh_base.specs.declared.expressions.Op.{Op}
use Rattle.mesh_query_tokens.specs.Gives.{◌>>=◌}
use Rattle.mesh_query_tokens.specs.Walk.{along}
use Rattle.mesh_query_tokens.specs.declared.faults.ReadFault.{ReadFault}
use Rattle.mesh_resolve_types.specs.declared.typed.Typed.{Typed}
use Rattle.mesh_resolve_types.specs.Faults.{unwritten}
use Rattle.mesh_resolve_types.specs.Forms.{Read, compared, between, one_of, turned, cast, cased}
use Rattle.mesh_resolve_scope.specs.Expressions.{one_cast}

-- what a state becomes by an operand
abbrev pub over : {S A : Type 0} → (S → A → Result S ReadFault) → S → Result A ReadFault → Result S ReadFault
over form left right = right >>= form left

-- what comes of an operand
abbrev pub after : {A B : Type 0} → (A → Result B ReadFault) → Result A ReadFault → Result B ReadFault
after form r = r >>= form

-- one more part of a chain, which is the first one where nothing is on its left
abbrev pub next_part : (Typed → Typed → Read) → Option Typed → Typed → Result (Option Typed) ReadFault
next_part form None right = Ok (Some right)
next_part form (Some left) right = form left right >>= λ t. Ok (Some t)

-- a chain has a part
abbrev pub whole : ℕ → Option Typed → Read
whole at None = Err (unwritten at)
whole at (Some t) = Ok t

-- the value as the first of these types, that as the second, and so on
abbrev pub all_cast : ℕ → Read → List ColType → Read
all_cast at value casts = value >>= λ t. along (one_cast at) t casts

-- one after the other
abbrev pub in_turn : {A B : Type 0} → Result A ReadFault → Result B ReadFault → Result (A × B) ReadFault
in_turn a b = a >>= λ x. b >>= λ y. Ok (x, y)

-- what comes of two operands
abbrev pub of_both : {A B C : Type 0} → (A → B → Result C ReadFault) → Result A ReadFault → Result B ReadFault → Result C ReadFault
of_both form a b = in_turn a b >>= λ both. form both.0 both.1

-- one more item of a list
abbrev pub with_last : {A : Type 0} → List A → A → Result (List A) ReadFault
with_last made x = Ok (made ++ x ∷ [])

abbrev pub case_over : ℕ → Result (Option Typed) ReadFault → Result (List (Typed × Typed)) ReadFault → Result (Option Typed) ReadFault → Read
case_over at operand arms otherwise = operand >>= λ operand. arms >>= λ arms. otherwise >>= λ otherwise. cased at operand arms otherwise

abbrev pub cast_value : ℕ → ColType → Read → Read
cast_value at to value = value >>= cast at to

-- a test of a value, over its operands
abbrev pub compared_with : Op → ℕ → Typed → Read → Read
compared_with op at left right = right >>= compared op at left

abbrev pub between_both : Bool → ℕ → Typed → Result (Typed × Typed) ReadFault → Read
between_both negated at value ends = ends >>= λ ends. between at value ends.0 ends.1 >>= λ t. Ok (turned negated t)

abbrev pub among_all : Bool → ℕ → Typed → Result (List Typed) ReadFault → Read
among_all negated at value of = of >>= λ of. one_of at value of >>= λ t. Ok (turned negated t)
