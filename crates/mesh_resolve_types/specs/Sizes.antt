-- How many nodes a CASE has once its operand is written again for each WHEN.
use Rattle.std.specs.Prelude.{ℕ, ◌+◌, ◌≤◌, List, map}
use Rattle.std.specs.List.{sum}
use Rattle.std.specs.Option.{ForSome}
use Rattle.std.specs.declared.option.Option.{Option}
use Rattle.std.specs.declared.option.Option.TheVariants.{None, Some}
use Rattle.mesh_base.specs.declared.expressions.When.{When, fold-When}
use Rattle.mesh_base.specs.Nodes.{nodes, nodes_here, when_nodes}
use Rattle.mesh_resolve_types.specs.declared.typed.Typed.{Typed}

-- the test and the value of a WHEN
abbrev pub when_size : When → ℕ
when_size = fold-When ℕ ℕ nodes_here when_nodes

abbrev pub size : Typed → ℕ
size t = nodes t.expr

-- NULL where no ELSE stands
abbrev pub else_size : Option Typed → ℕ
else_size None = 1
else_size (Some t) = size t

-- beside what is written, each WHEN has a comparison and a copy of the operand
abbrev pub arm_size : ℕ → Typed × Typed → ℕ
arm_size operand a = 1 + operand + size a.0 + size a.1

abbrev pub case_size : Typed → List (Typed × Typed) → Option Typed → ℕ
case_size operand arms otherwise = 1 + else_size otherwise + sum (map (arm_size (size operand)) arms)

-- the most nodes of a CASE with an operand
abbrev pub largest_case : ℕ
largest_case = 16777216

-- a CASE that isn't too large to be written out; without an operand it has the nodes that were there before
abbrev pub IsSmall : Option Typed → List (Typed × Typed) → Option Typed → Type 0
IsSmall operand arms otherwise = ForSome operand (λ o. case_size o arms otherwise ≤ largest_case)
