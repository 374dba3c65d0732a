-- Sizes of small expressions, worked out by hand.
use Rattle.std.proofs.Common.{◌≡◌, ℕ, ◌+◌, pos, [], ◌∷◌, ◌∙◌, arith}
use Rattle.mesh_base_values.specs.declared.values.Cell.{Cell}
use Rattle.mesh_base_values.specs.declared.values.Cell.TheVariants as cell
use Rattle.mesh_base.specs.declared.expressions.Expr.{Expr, roll-Expr, fold-roll-Expr}
use Rattle.mesh_base.specs.declared.expressions.Expr as expr
use Rattle.mesh_base.specs.declared.expressions.Expr.TheOpen.{Literal, Binary, Case}
use Rattle.mesh_base.specs.declared.expressions.Op.{Op}
use Rattle.mesh_base.specs.declared.expressions.Op.TheVariants as op
use Rattle.mesh_base.specs.declared.expressions.When.{fold-When, roll-When, fold-roll-When}
use Rattle.mesh_base.specs.Nodes.{nodes, nodes_here, when_nodes}

literal_nodes : (c : Cell) → nodes (expr.Literal c) ≡ 1
unfolding roll-Expr denote.Hole.Carrier.roll
literal_nodes c = fold-roll-Expr ℕ ℕ nodes_here when_nodes (Literal c)

binary_nodes : (o : Op) (a b : Expr) → nodes (expr.Binary o a b) ≡ 1 + nodes a + nodes b
unfolding roll-Expr denote.Hole.Carrier.roll
binary_nodes o a b = fold-roll-Expr ℕ ℕ nodes_here when_nodes (Binary o a b)

when_is : (t v : Expr) → fold-When ℕ ℕ nodes_here when_nodes (roll-When (record { test = t; value = v })) ≡ nodes t + nodes v
when_is t v = fold-roll-When ℕ ℕ nodes_here when_nodes (record { test = t; value = v })

case_nodes : (t v o : Expr) → nodes (expr.Case (roll-When (record { test = t; value = v }) ∷ roll-When (record { test = t; value = v }) ∷ []) o) ≡ 1 + ((0 + (nodes t + nodes v)) + (nodes t + nodes v)) + nodes o
unfolding roll-Expr denote.Hole.Carrier.roll
case_nodes t v o =
    fold-roll-Expr ℕ ℕ nodes_here when_nodes (Case (roll-When (record { test = t; value = v }) ∷ roll-When (record { test = t; value = v }) ∷ []) o)
    ∙ (λ i. 1 + ((0 + when_is t v i) + when_is t v i) + nodes o)

-- CASE e WHEN 1 THEN 1 WHEN 1 THEN 1 ELSE 1 END copies e for each WHEN
one : Expr
one = expr.Literal (cell.Int (pos 1))

one_node : nodes one ≡ 1
unfolding one
one_node = literal_nodes (cell.Int (pos 1))

test_of : Expr → Expr
test_of e = expr.Binary op.Eq e one

test_nodes : (e : Expr) → nodes (test_of e) ≡ 2 + nodes e
unfolding test_of
test_nodes e = binary_nodes op.Eq e one ∙ omega (arith, one_node)

copied_twice : (e : Expr) → nodes (expr.Case (roll-When (record { test = test_of e; value = one }) ∷ roll-When (record { test = test_of e; value = one }) ∷ []) one) ≡ nodes e + nodes e + 8
copied_twice e = case_nodes (test_of e) one one ∙ omega (arith, test_nodes e, one_node)
