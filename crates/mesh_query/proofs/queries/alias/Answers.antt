use Rattle.std.proofs.Common.{◌+◌, codes, Some, arith, sym, ◌∙◌}
use Rattle.mesh_query_grammar.specs.Plans.{done}
use Rattle.mesh_query.proofs.Steps.{started, past_word, past_name, without, is_done}
use Rattle.mesh_query.proofs.Descent.{told, lacks, no_fault, both}
use Rattle.mesh_query.proofs.queries.alias.Goals as goal

pub returns-in_err-alias : goal.returns-in_err-alias
returns-in_err-alias c = λ n z.
    let word = c.is_word.ensures.taken c.if-is_word.true in
    told _ _ c.from_residual.result c.from_residual.ensures (lacks c.args.tokens.now (c.args.from + 1) _ (past_word (codes "as") started word.2) c.in_err-alias.ensures)

pub returns-then-is_word : goal.returns-then-is_word
returns-then-is_word c = λ n z.
    let word = c.is_word.ensures.taken c.if-is_word.true in
    let name = c.in_ok-alias.ensures in
    (omega (arith, name.0), is_done (past_name (λ x. done (Some x)) (past_word (codes "as") started word.2) name.2))

pub returns-in_err-alias-2 : goal.returns-in_err-alias-2
returns-in_err-alias-2 c = λ n z.
    told _ _ c.from_residual-in_err-alias-2.result c.from_residual-in_err-alias-2.ensures (no_fault _ _ _ _ _ _ _ c.args.tokens.now c.args.from _ c.in_err-alias-2.ensures (λ h. both (sym c.is_name.ensures.seen ∙ c.if-is_name.true) h))

pub returns-then-is_name : goal.returns-then-is_name
returns-then-is_name c = λ n z.
    let name = c.in_ok-alias-2.ensures in
    (omega (arith, name.0), is_done (past_name (λ x. done (Some x)) (without started (sym c.is_word.ensures.seen ∙ c.if-is_word.false)) name.2))

pub returns : goal.returns
returns c = λ n z.
    (omega arith, is_done (without (without started (sym c.is_word.ensures.seen ∙ c.if-is_word.false)) (sym c.is_name.ensures.seen ∙ c.if-is_name.false)))
