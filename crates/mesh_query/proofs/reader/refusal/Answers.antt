use Rattle.std.proofs.Common.{drop, subst}
use Rattle.mesh_query_grammar.specs.declared.lookahead.fault.Fault.{Fault}
use Rattle.mesh_query.specs.Refusals.{IsAmiss}
use Rattle.mesh_query.proofs.Refused.{syntax_refused}
use Rattle.mesh_query.proofs.reader.refusal.Goals as goal

pub returns-in-Syntax : goal.returns-in-Syntax
returns-in-Syntax c = λ from left p h.
    syntax_refused c.args.tokens.now from c.in-Syntax.token c.end_before.result left p (subst (λ (e : Fault). IsAmiss c.args.tokens.now (drop from c.args.tokens.now) left e) c.in-Syntax.is h) c.end_before.ensures
