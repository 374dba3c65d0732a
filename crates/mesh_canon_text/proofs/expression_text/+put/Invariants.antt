use Rattle.std.proofs.Common.{◌≡◌, ◌++◌, ◌∷◌, take, map}
use Rattle.mesh_canon_text.specs.Text.{expr_text, members, when_text}
use Rattle.mesh_canon_text.proofs.expression_text.+put.Given as goal

abbrev pub invariant-put_exprs-loop-i : goal.invariant-put_exprs-loop-i
invariant-put_exprs-loop-i l = l.out.items ≡ l.fn.out.items ++ (91 ∷ members (λ t. t) (map expr_text (take l.i l.all)))

abbrev pub invariant-put_whens-loop-i : goal.invariant-put_whens-loop-i
invariant-put_whens-loop-i l = l.out.items ≡ l.fn.out.items ++ (91 ∷ members (λ t. t) (map when_text (take l.i l.all)))
