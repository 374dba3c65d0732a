use Rattle.std.proofs.Common.{List, drop, subst, false}
use Rattle.std.proofs.lemmas.List.{drop_all}
use Rattle.mesh_query_tokens.specs.declared.tokens.Token.{Token}
use Rattle.mesh_query_grammar.specs.lookahead.Places.{deepest}
use Rattle.mesh_query_grammar.specs.Rules.{query}
use Rattle.mesh_query.specs.Counts.{Reads}
use Rattle.mesh_query.proofs.Steps.{read_from}
use Rattle.mesh_query.proofs.Descent.{told, failed_from}
use Rattle.mesh_query.proofs.Refused.{amiss, amiss_behind}
use Rattle.mesh_query.proofs.reader.whole_query.Goals as goal

pub returns-in_err-surface : goal.returns-in_err-surface
returns-in_err-surface c = told _ _ c.from_residual.result c.from_residual.ensures (amiss c.args.tokens.now (drop c.args.from c.args.tokens.now) _ _ (failed_from _ _ _ _ _ _ _ c.requires.fresh c.in_err-surface.ensures))

pub returns-then-at-tokens : goal.returns-then-at-tokens
returns-then-at-tokens c = amiss_behind c.args.tokens.now (drop c.args.from c.args.tokens.now) _ c.in_ok-surface.surface c.in_ok-surface.at c.if-at-tokens.true (read_from c.requires.fresh c.in_ok-surface.ensures.1)

pub returns-else-at-tokens : goal.returns-else-at-tokens
returns-else-at-tokens c =
    subst (λ (z : List Token). Reads false deepest query c.in_ok-surface.surface (drop c.args.from c.args.tokens.now) z 4097 c.query.new.nodes.left) (drop_all c.in_ok-surface.at c.args.tokens.now c.if-at-tokens.false) (read_from c.requires.fresh c.in_ok-surface.ensures.1)
