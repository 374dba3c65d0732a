-- What a node bars, from what its parts do.
use Rattle.std.proofs.Common.{◌≡◌, List, ◌++◌, map, OnOk, sym, ap, subst, ◌∙◌, append_assoc}
use Rattle.std.specs.declared.result.Result.{Result}
use Rattle.mesh_base.specs.declared.expressions.Expr.{Expr, roll-Expr, fold-roll-Expr}
use Rattle.mesh_base.specs.declared.expressions.Expr as expr
use Rattle.mesh_base.specs.declared.expressions.Expr.TheOpen.{Binary, Between, OneOf, Case}
use Rattle.mesh_base.specs.declared.expressions.When.{When, fold-roll-When, out-When, roll-out-When}
use Rattle.mesh_base.specs.declared.expressions.Op.{Op}
use Rattle.mesh_resolve_selects.specs.groups.Grouping.{Breaches, all_together, barred, barred_here, barred_when, when_barred}

-- what was put behind others, and then more
pub then_put : {A B E : Type 0} (r : Result B E) (old between new first more full : List A) → between ≡ old ++ first → OnOk r (new ≡ between ++ more) → first ++ more ≡ full → OnOk r (new ≡ old ++ full)
then_put r old between new first more full p h e =
    subst (λ t. OnOk r (new ≡ t)) (ap (λ o. o ++ more) p ∙ append_assoc old first more ∙ ap (λ t. old ++ t) e) h

pub both_put : {A : Type 0} (old between new first more : List A) → between ≡ old ++ first → new ≡ between ++ more → new ≡ old ++ (first ++ more)
both_put old between new first more p q = q ∙ ap (λ o. o ++ more) p ∙ append_assoc old first more

pub of-binary : (e left right l r : Expr) (op : Op) → e ≡ expr.Binary op left right → l ≡ left → r ≡ right → barred l ++ barred r ≡ barred e
unfolding roll-Expr denote.Hole.Carrier.roll
of-binary e left right l r op is f g =
    (λ i. barred (f i) ++ barred (g i)) ∙ sym (fold-roll-Expr Breaches Breaches barred_here when_barred (Binary op left right)) ∙ ap barred (sym is)

pub of-between : (e value low high x a b : Expr) → e ≡ expr.Between value low high → x ≡ value → a ≡ low → b ≡ high → (barred x ++ barred a) ++ barred b ≡ barred e
unfolding roll-Expr denote.Hole.Carrier.roll
of-between e value low high x a b is f g h =
    append_assoc (barred x) (barred a) (barred b) ∙ (λ i. barred (f i) ++ (barred (g i) ++ barred (h i)))
    ∙ sym (fold-roll-Expr Breaches Breaches barred_here when_barred (Between value low high)) ∙ ap barred (sym is)

pub of-one_of : (e value x : Expr) (all xs : List Expr) → e ≡ expr.OneOf value all → x ≡ value → xs ≡ all → barred x ++ all_together (map barred xs) ≡ barred e
unfolding roll-Expr denote.Hole.Carrier.roll
of-one_of e value x all xs is f g =
    (λ i. barred (f i) ++ all_together (map barred (g i))) ∙ sym (fold-roll-Expr Breaches Breaches barred_here when_barred (OneOf value all)) ∙ ap barred (sym is)

pub of-case : (e otherwise x : Expr) (whens ws : List When) → e ≡ expr.Case whens otherwise → ws ≡ whens → x ≡ otherwise → all_together (map barred_when ws) ++ barred x ≡ barred e
unfolding roll-Expr denote.Hole.Carrier.roll
of-case e otherwise x whens ws is f g =
    (λ i. all_together (map barred_when (f i)) ++ barred (g i)) ∙ sym (fold-roll-Expr Breaches Breaches barred_here when_barred (Case whens otherwise)) ∙ ap barred (sym is)

-- an arm, after what stands before it
pub of-arm : (w : When) (before middle made : Breaches) → middle ≡ before ++ barred w.test → made ≡ middle ++ barred w.value → made ≡ before ++ barred_when w
of-arm w before middle made test value =
    value ∙ ap (λ b. b ++ barred w.value) test ∙ append_assoc before (barred w.test) (barred w.value)
    ∙ ap (λ b. before ++ b) (sym (ap barred_when (sym (roll-out-When w)) ∙ fold-roll-When Breaches Breaches barred_here when_barred (out-When w)))
