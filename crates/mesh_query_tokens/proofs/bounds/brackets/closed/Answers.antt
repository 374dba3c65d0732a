use Rattle.std.proofs.Common.{Bool, cond, Some, None, sym, ◌∙◌, ap}
use Rattle.mesh_query_tokens.specs.bounds.Brackets.{closed}
use Rattle.mesh_query_tokens.proofs.bounds.LastOpen.{last_closes, is_alike}
use Rattle.mesh_query_tokens.proofs.bounds.brackets.closed.Goals as goal

pub returns-then-last-round : goal.returns-then-last-round
returns-then-last-round c =
    sym (ap (closed c.args.round) c.in-Some.ensures ∙ last_closes c.args.round c.in-Some.last c.pop.new.self
    ∙ ap (λ (b : Bool). cond b (Some c.pop.new.self) None) (is_alike c.in-Some.last c.args.round ∙ c.if-last-round.true))

pub returns-else-last-round : goal.returns-else-last-round
returns-else-last-round c =
    sym (ap (closed c.args.round) c.in-Some.ensures ∙ last_closes c.args.round c.in-Some.last c.pop.new.self
    ∙ ap (λ (b : Bool). cond b (Some c.pop.new.self) None) (is_alike c.in-Some.last c.args.round ∙ c.if-last-round.false))
