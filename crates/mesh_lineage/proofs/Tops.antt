-- The equations of `bounds`.
use Rattle.std.proofs.Common.{◌≡◌, ℕ, Bool, List, refl, sym, ap, ◌∙◌}
use Rattle.mesh_base.specs.declared.expressions.Expr.{Expr, map-Expr, out-Expr, roll-out-Expr, para-roll-Expr}
use Rattle.mesh_base.specs.declared.expressions.Expr.TheOpen.{Expr-F, Literal, Col, Macro, Binary, Neg, Not, IsNull, Between, OneOf, Cast, Call, Case, CountAll, Agg}
use Rattle.mesh_base.specs.declared.expressions.When.{When, para-When}
use Rattle.mesh_spec_changes.specs.steady.Steady.{bounds, bounds_here, when_bounds}
use Rattle.mesh_lineage.specs.Reaches.{bounds_parts}

abbrev with_bounds : ℕ → List ℕ → Expr-F Expr When → Expr-F (Expr × Bool) (When × Bool)
with_bounds item name = map-Expr Expr When (Expr × Bool) (When × Bool) (λ e. (e, bounds item name e)) (λ w. (w, para-When Bool Bool (bounds_here item name) when_bounds w))

parts_are : (item : ℕ) (name : List ℕ) (x : Expr-F Expr When) → bounds_here item name (with_bounds item name x) ≡ bounds_parts item name x
parts_are item name (Literal c) = refl
parts_are item name (Col i n) = refl
parts_are item name (Macro var) = refl
parts_are item name (Binary op left right) = refl
parts_are item name (Neg value) = refl
parts_are item name (Not value) = refl
parts_are item name (IsNull value) = refl
parts_are item name (Between value low high) = refl
parts_are item name (OneOf value of) = refl
parts_are item name (Cast to value) = refl
parts_are item name (Call func args) = refl
parts_are item name (Case whens otherwise) = refl
parts_are item name CountAll = refl
parts_are item name (Agg kind value) = refl

pub bounds_out : (item : ℕ) (name : List ℕ) (e : Expr) → bounds item name e ≡ bounds_parts item name (out-Expr e)
bounds_out item name e =
    ap (bounds item name) (sym (roll-out-Expr e)) ∙ para-roll-Expr Bool Bool (bounds_here item name) when_bounds (out-Expr e) ∙ parts_are item name (out-Expr e)
