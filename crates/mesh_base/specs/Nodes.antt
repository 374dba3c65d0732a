-- How many nodes an expression has: each literal, column, macro, operator, function, CASE, CAST, IS NULL, BETWEEN, IN
-- and aggregate is one.
use Rattle.std.specs.Prelude.{ℕ, ◌+◌}
use Rattle.std.specs.List.{sum}
use Rattle.mesh_base.specs.declared.expressions.Expr.{Expr, fold-Expr}
use Rattle.mesh_base.specs.declared.expressions.Expr.TheOpen.{Expr-F, When-F, Literal, Col, Macro, Binary, Neg, Not, IsNull, Between, OneOf, Cast, Call, Case, CountAll, Agg}

-- one node, with how many each part has
abbrev pub nodes_here : Expr-F ℕ ℕ → ℕ
nodes_here (Literal cell) = 1
nodes_here (Col item name) = 1
nodes_here (Macro var) = 1
nodes_here (Binary op left right) = 1 + left + right
nodes_here (Neg value) = 1 + value
nodes_here (Not value) = 1 + value
nodes_here (IsNull value) = 1 + value
nodes_here (Between value low high) = 1 + value + low + high
nodes_here (OneOf value of) = 1 + value + sum of
nodes_here (Cast to value) = 1 + value
nodes_here (Call func args) = 1 + sum args
nodes_here (Case whens otherwise) = 1 + sum whens + otherwise
nodes_here CountAll = 1
nodes_here (Agg kind value) = 1 + value

abbrev pub when_nodes : When-F ℕ ℕ → ℕ
when_nodes w = w.test + w.value

abbrev pub nodes : Expr → ℕ
nodes = fold-Expr ℕ ℕ nodes_here when_nodes
