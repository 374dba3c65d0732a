use Rattle.std.proofs.Common.{codes, drop, arith, sym, ◌∙◌}
use Rattle.mesh_query_grammar.specs.Rules.{ctes}
use Rattle.mesh_query.proofs.Steps.{started, past_word, without, is_done}
use Rattle.mesh_query.proofs.Descent.{handed, fails_in, closed_by}
use Rattle.mesh_query.proofs.queries.ctes.Goals as goal

pub returns-then-is_word : goal.returns-then-is_word
returns-then-is_word c =
    let word = c.is_word.ensures.taken c.if-is_word.true in
    let I = past_word (codes "with") (started {n = c.args.depth} {r = ctes} {s = (drop c.args.from c.args.tokens.now)}) word.2 in
    handed _ _ _ _ c.cte_list.result c.cte_list.ensures (λ x h. (omega (arith, h.0), is_done (closed_by x.0 I h.1))) (λ e h. fails_in _ c.args.tokens.now e I h)

pub returns : goal.returns
returns c = rw c.new-none.ensures (omega arith, is_done (without started (sym c.is_word.ensures.seen ∙ c.if-is_word.false)))
