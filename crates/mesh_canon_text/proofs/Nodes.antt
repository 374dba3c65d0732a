-- The text of a node, from the texts of its parts.
use Rattle.std.proofs.Common.{◌≡◌, ℕ, List, ◌++◌, map, OnOk, sym, ap, subst, ◌∙◌, append_assoc}
use Rattle.std.specs.Prelude.{codes}
use Rattle.std.specs.declared.result.Result.{Result}
use Rattle.mesh_base_values.specs.declared.values.ColType.{ColType}
use Rattle.mesh_base.specs.declared.expressions.Expr.{Expr, roll-Expr, fold-roll-Expr}
use Rattle.mesh_base.specs.declared.expressions.Expr as expr
use Rattle.mesh_base.specs.declared.expressions.Expr.TheOpen.{Binary, Neg, Between, OneOf, Cast, Call, Case, Agg}
use Rattle.mesh_base.specs.declared.expressions.When.{When}
use Rattle.mesh_base.specs.declared.expressions.Op.{Op}
use Rattle.mesh_base.specs.declared.expressions.Func.{Func}
use Rattle.mesh_base.specs.declared.expressions.AggKind.{AggKind}
use Rattle.mesh_canon_text.specs.Text.{agg_word, expr_here, expr_text, func_word, list_of, op_word, type_word, when_here, when_text}

-- what was written, by another name
pub wrote : {A E : Type 0} (r : Result A E) (old new text full : List ℕ) → OnOk r (new ≡ old ++ text) → text ≡ full → OnOk r (new ≡ old ++ full)
wrote r old new text full h e = subst (λ t. OnOk r (new ≡ old ++ t)) e h

-- the same behind what was written before
pub wrote_behind : {A E : Type 0} (r : Result A E) (old between new first text full : List ℕ) → between ≡ old ++ first → OnOk r (new ≡ between ++ text) → first ++ text ≡ full → OnOk r (new ≡ old ++ full)
wrote_behind r old between new first text full p h e =
    subst (λ t. OnOk r (new ≡ t)) (ap (λ o. o ++ text) p ∙ append_assoc old first text ∙ ap (λ t. old ++ t) e) h

pub both_written : (old between new first text : List ℕ) → between ≡ old ++ first → new ≡ between ++ text → new ≡ old ++ (first ++ text)
both_written old between new first text p q = q ∙ ap (λ o. o ++ text) p ∙ append_assoc old first text

pub of-neg : (e value x : Expr) → e ≡ expr.Neg value → x ≡ value → codes "(neg " ++ (expr_text x ++ codes ")") ≡ expr_text e
unfolding roll-Expr denote.Hole.Carrier.roll expr_here
of-neg e value x is f = ap (λ y. codes "(neg " ++ (expr_text y ++ codes ")")) f ∙ sym (fold-roll-Expr (List ℕ) (List ℕ) expr_here when_here (Neg value)) ∙ ap expr_text (sym is)

pub of-binary : (e left right l r : Expr) (op : Op) (word : List ℕ) → e ≡ expr.Binary op left right → l ≡ left → r ≡ right → word ≡ op_word op
    → ((codes "(" ++ word) ++ (codes " " ++ expr_text l)) ++ (codes " " ++ (expr_text r ++ codes ")")) ≡ expr_text e
unfolding roll-Expr denote.Hole.Carrier.roll expr_here
of-binary e left right l r op word is f g h =
    append_assoc (codes "(" ++ word) (codes " " ++ expr_text l) (codes " " ++ (expr_text r ++ codes ")"))
    ∙ (λ i. codes "(" ++ (h i ++ (codes " " ++ (expr_text (f i) ++ (codes " " ++ (expr_text (g i) ++ codes ")"))))))
    ∙ sym (fold-roll-Expr (List ℕ) (List ℕ) expr_here when_here (Binary op left right)) ∙ ap expr_text (sym is)

pub of-between : (e value low high x a b : Expr) → e ≡ expr.Between value low high → x ≡ value → a ≡ low → b ≡ high
    → ((codes "(between " ++ expr_text x) ++ (codes " " ++ expr_text a)) ++ (codes " " ++ (expr_text b ++ codes ")")) ≡ expr_text e
unfolding roll-Expr denote.Hole.Carrier.roll expr_here
of-between e value low high x a b is f g h =
    append_assoc (codes "(between " ++ expr_text x) (codes " " ++ expr_text a) (codes " " ++ (expr_text b ++ codes ")"))
    ∙ (λ i. codes "(between " ++ (expr_text (f i) ++ (codes " " ++ (expr_text (g i) ++ (codes " " ++ (expr_text (h i) ++ codes ")"))))))
    ∙ sym (fold-roll-Expr (List ℕ) (List ℕ) expr_here when_here (Between value low high)) ∙ ap expr_text (sym is)

pub of-one_of : (e value x : Expr) (all xs : List Expr) → e ≡ expr.OneOf value all → x ≡ value → xs ≡ all
    → (codes "(in " ++ expr_text x) ++ (codes " " ++ (list_of (λ t. t) (map expr_text xs) ++ codes ")")) ≡ expr_text e
unfolding roll-Expr denote.Hole.Carrier.roll expr_here
of-one_of e value x all xs is f g =
    (λ i. codes "(in " ++ (expr_text (f i) ++ (codes " " ++ (list_of (λ t. t) (map expr_text (g i)) ++ codes ")"))))
    ∙ sym (fold-roll-Expr (List ℕ) (List ℕ) expr_here when_here (OneOf value all)) ∙ ap expr_text (sym is)

pub of-cast : (e value x : Expr) (to : ColType) (word : List ℕ) → e ≡ expr.Cast to value → x ≡ value → word ≡ type_word to
    → (codes "(cast " ++ word) ++ (codes " " ++ (expr_text x ++ codes ")")) ≡ expr_text e
unfolding roll-Expr denote.Hole.Carrier.roll expr_here
of-cast e value x to word is f h =
    (λ i. codes "(cast " ++ (h i ++ (codes " " ++ (expr_text (f i) ++ codes ")"))))
    ∙ sym (fold-roll-Expr (List ℕ) (List ℕ) expr_here when_here (Cast to value)) ∙ ap expr_text (sym is)

pub of-call : (e : Expr) (args xs : List Expr) (func : Func) (word : List ℕ) → e ≡ expr.Call func args → xs ≡ args → word ≡ func_word func
    → (codes "(call " ++ word) ++ (codes " " ++ (list_of (λ t. t) (map expr_text xs) ++ codes ")")) ≡ expr_text e
unfolding roll-Expr denote.Hole.Carrier.roll expr_here
of-call e args xs func word is f h =
    (λ i. codes "(call " ++ (h i ++ (codes " " ++ (list_of (λ t. t) (map expr_text (f i)) ++ codes ")"))))
    ∙ sym (fold-roll-Expr (List ℕ) (List ℕ) expr_here when_here (Call func args)) ∙ ap expr_text (sym is)

pub of-case : (e otherwise x : Expr) (whens ws : List When) → e ≡ expr.Case whens otherwise → ws ≡ whens → x ≡ otherwise
    → (codes "(case " ++ list_of (λ t. t) (map when_text ws)) ++ (codes " " ++ (expr_text x ++ codes ")")) ≡ expr_text e
unfolding roll-Expr denote.Hole.Carrier.roll expr_here
of-case e otherwise x whens ws is f g =
    (λ i. codes "(case " ++ (list_of (λ t. t) (map when_text (f i)) ++ (codes " " ++ (expr_text (g i) ++ codes ")"))))
    ∙ sym (fold-roll-Expr (List ℕ) (List ℕ) expr_here when_here (Case whens otherwise)) ∙ ap expr_text (sym is)

pub of-agg : (e value x : Expr) (kind : AggKind) (word : List ℕ) → e ≡ expr.Agg kind value → x ≡ value → word ≡ agg_word kind
    → (codes "(agg " ++ word) ++ (codes " " ++ (expr_text x ++ codes ")")) ≡ expr_text e
unfolding roll-Expr denote.Hole.Carrier.roll expr_here
of-agg e value x kind word is f h =
    (λ i. codes "(agg " ++ (h i ++ (codes " " ++ (expr_text (f i) ++ codes ")"))))
    ∙ sym (fold-roll-Expr (List ℕ) (List ℕ) expr_here when_here (Agg kind value)) ∙ ap expr_text (sym is)
