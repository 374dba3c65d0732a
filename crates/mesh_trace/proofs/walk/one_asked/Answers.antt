use Rattle.std.proofs.Common.{◌≡◌, ◌∷◌, ◌++◌, [], List, ℕ, ap, ◌∙◌, subst}
use Rattle.std.specs.Prelude.{IfOk}
use Rattle.mesh_trace.proofs.Visiting.{one_fed}
use Rattle.mesh_trace.proofs.walk.one_asked.Goals as goal

pub returns-clause-fed : goal.returns-clause-fed
returns-clause-fed c ds d at =
    let columns : List (List ℕ) = c.push_made.new.list in
    let column : List ℕ = c.args.column.now in
    let (x, made, pushed) = c.in_ok-push_made.ensures in
    let copied : x ≡ column = subst (λ r. IfOk r (λ (m : List ℕ). m ≡ column)) made c.copy.ensures in
    one_fed c.in_ok-asks.asks.items c.push.new.self.items c.args.place columns column ds d
    c.in_ok-push.ensures.items c.in_ok-asks.ensures.long c.in_ok-asks.ensures.nothing
    (pushed ∙ ap (λ (l : List (List ℕ)). l ++ x ∷ []) c.new-columns.ensures ∙ ap (λ (m : List ℕ). m ∷ []) copied) at
