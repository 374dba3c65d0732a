use Rattle.std.proofs.Common.{◌+◌, codes, drop, arith, sym, ◌∙◌}
use Rattle.mesh_query_grammar.specs.Rules.{keys}
use Rattle.mesh_query.proofs.Steps.{started, past_word, without, is_done}
use Rattle.mesh_query.proofs.Descent.{handed, told, lacks, fails_in, closed_by}
use Rattle.mesh_query.proofs.queries.keys.Goals as goal

pub returns-in_err-next : goal.returns-in_err-next
returns-in_err-next c =
    let word = c.is_word.ensures.taken c.if-is_word.true in
    told _ _ c.from_residual.result c.from_residual.ensures (lacks c.args.tokens.now (c.args.from + 1) _ (past_word (codes "group") (started {n = c.args.depth} {r = keys} {s = (drop c.args.from c.args.tokens.now)}) word.2) c.in_err-next.ensures)

pub returns-then-is_word : goal.returns-then-is_word
returns-then-is_word c =
    let word = c.is_word.ensures.taken c.if-is_word.true in
    let by = c.in_ok-next.ensures in
    let I = past_word (codes "by") (past_word (codes "group") (started {n = c.args.depth} {r = keys} {s = (drop c.args.from c.args.tokens.now)}) word.2) by.2 in
    handed _ _ _ _ c.key_list.result c.key_list.ensures (λ x h. (omega (arith, by.0, h.0), is_done (closed_by x.0 I h.1))) (λ e h. fails_in _ c.args.tokens.now e I h)

pub returns : goal.returns
returns c = rw c.new-none.ensures (omega arith, is_done (without started (sym c.is_word.ensures.seen ∙ c.if-is_word.false)))
