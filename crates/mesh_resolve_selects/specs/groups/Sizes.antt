-- How many nodes an expression has, where an aggregate counts as one. A part is smaller than what it stands in, so
-- parts of one size are apart from one another.
use Rattle.std.specs.Prelude.{ℕ, ◌+◌, ◌-◌, ◌^◌, List, map, min}
use Rattle.std.specs.List.{sum}
use Rattle.mesh_base.specs.declared.expressions.Expr.{Expr, fold-Expr}
use Rattle.mesh_base.specs.declared.expressions.Expr.TheOpen.{Expr-F, When-F, Literal, Col, Macro, Binary, Neg, Not, IsNull, Between, OneOf, Cast, Call, Case, CountAll, Agg}
use Rattle.mesh_base.specs.declared.expressions.When.{When, fold-When}

-- one node, with the size of each part
abbrev pub size_here : Expr-F ℕ ℕ → ℕ
size_here (Literal cell) = 1
size_here (Col item name) = 1
size_here (Macro var) = 1
size_here (Binary op left right) = 1 + left + right
size_here (Neg value) = 1 + value
size_here (Not value) = 1 + value
size_here (IsNull value) = 1 + value
size_here (Between value low high) = 1 + value + low + high
size_here (OneOf value of) = 1 + value + sum of
size_here (Cast to value) = 1 + value
size_here (Call func args) = 1 + sum args
size_here (Case whens otherwise) = 1 + sum whens + otherwise
size_here CountAll = 1
size_here (Agg kind value) = 1

abbrev pub when_size_here : When-F ℕ ℕ → ℕ
when_size_here w = w.test + w.value

abbrev pub size : Expr → ℕ
size = fold-Expr ℕ ℕ size_here when_size_here

abbrev pub when_size : When → ℕ
when_size = fold-When ℕ ℕ size_here when_size_here

-- what a count comes to by some more; it ends at the greatest number of 64 bits
abbrev pub counted : ℕ → ℕ → ℕ
counted before more = min (before + more) (2 ^ 64 - 1)

-- the size of each key, as it is counted
abbrev pub sizes_of : List Expr → List ℕ
sizes_of keys = map (λ (key : Expr). counted 0 (size key)) keys
