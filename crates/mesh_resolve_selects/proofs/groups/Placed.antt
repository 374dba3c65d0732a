-- The equations of `placed`.
use Rattle.std.proofs.Common.{◌≡◌, ℕ, Bool, true, false, ◌||◌, List, [], ◌∷◌, length, map, ◌++◌, take, OnOk, refl, ap, sym, subst, ◌∙◌}
use Rattle.std.proofs.lemmas.List.{take_at}
use Rattle.std.specs.declared.result.Result.{Result}
use Rattle.mesh_base.specs.declared.expressions.Expr.{Expr, roll-Expr, out-Expr, roll-out-Expr, para-roll-Expr}
use Rattle.mesh_base.specs.declared.expressions.Expr.TheOpen.{Expr-F, Literal, Col, Macro, Binary, Neg, Not, IsNull, Between, OneOf, Cast, Call, Case, CountAll, Agg}
use Rattle.mesh_base.specs.declared.expressions.When.{When, para-roll-When, out-When, roll-out-When}
use Rattle.mesh_resolve_selects.specs.groups.Grouping.{Breaches, Placed, is_key, node_of, placed, placed_here, placed_node, placed_parts, placed_when, when_placed, with_placed}

firsts : {X Y : Type 0} (f : X → Y) (xs : List X) → map (λ (p : X × Y). p.0) (map (λ x. (x, f x)) xs) ≡ xs
firsts f [] = refl
firsts f (x ∷ xs) = ap (λ l. x ∷ l) (firsts f xs)

node_of_with : (keys : List Expr) (d : Expr-F Expr When) → node_of (with_placed keys d) ≡ d
node_of_with keys (Literal cell) = refl
node_of_with keys (Col item name) = refl
node_of_with keys (Macro var) = refl
node_of_with keys (Binary op left right) = refl
node_of_with keys (Neg value) = refl
node_of_with keys (Not value) = refl
node_of_with keys (IsNull value) = refl
node_of_with keys (Between value low high) = refl
node_of_with keys (OneOf value of) = ap (OneOf value) (firsts (placed keys) of)
node_of_with keys (Cast to value) = refl
node_of_with keys (Call func args) = ap (Call func) (firsts (placed keys) args)
node_of_with keys (Case whens otherwise) = ap (λ w. Case w otherwise) (firsts (placed_when keys) whens)
node_of_with keys CountAll = refl
node_of_with keys (Agg kind value) = refl

-- an expression that equals a key has free parts
pub placed_out : (keys : List Expr) (e : Expr) (free : Bool) → placed keys e free ≡ placed_parts keys e (free || is_key keys e)
placed_out keys e free =
    ap (λ x. placed keys x free) (sym (roll-out-Expr e))
    ∙ ap (λ f. f free) (para-roll-Expr Placed Placed (placed_here keys) when_placed (out-Expr e))
    ∙ ap (λ n. placed_node (with_placed keys (out-Expr e)) (free || is_key keys (roll-Expr n))) (node_of_with keys (out-Expr e))
    ∙ ap (λ x. placed_parts keys e (free || is_key keys x)) (roll-out-Expr e)

pub placed_when_is : (keys : List Expr) (w : When) (free : Bool) → placed_when keys w free ≡ placed keys w.test free ++ placed keys w.value free
placed_when_is keys w free =
    ap (λ x. placed_when keys x free) (sym (roll-out-When w)) ∙ ap (λ f. f free) (para-roll-When Placed Placed (placed_here keys) when_placed (out-When w))

-- a key's parts are placed again, once what was put of them is cut off
pub placed_again : {A E : Type 0} (r : Result A E) (keys : List Expr) (e : Expr) (start : ℕ) (before parts full kept made : Breaches) → is_key keys e ≡ true → start ≡ length before → full ≡ before ++ parts → kept ≡ take start full
    → OnOk r (made ≡ kept ++ placed_parts keys e true) → OnOk r (made ≡ before ++ placed keys e false)
placed_again r keys e start before parts full kept made key at put cut again =
    let back : kept ≡ before = cut ∙ ap (take start) put ∙ take_at before parts start (sym at) in
    let same : placed_parts keys e true ≡ placed keys e false = ap (placed_parts keys e) (sym key) ∙ sym (placed_out keys e false) in
    subst (λ t. OnOk r (made ≡ t)) (λ i. back i ++ same i) again
