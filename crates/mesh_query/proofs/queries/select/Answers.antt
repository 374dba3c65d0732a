use Rattle.std.proofs.Common.{false, codes, drop, arith, sym, subst}
use Rattle.std.proofs.Common.{ℕ}
use Rattle.mesh_query_grammar.specs.Signs.{place}
use Rattle.mesh_query_grammar.specs.Rules.{select, selected}
use Rattle.mesh_query_grammar.specs.Plans.{read, done}
use Rattle.mesh_query.specs.Answers.{Onward}
use Rattle.mesh_query.proofs.Steps.{started, noted, past_word, is_done}
use Rattle.mesh_query.proofs.Descent.{handed, told, lacks, fails_in, closed_by}
use Rattle.mesh_query.proofs.queries.select.Goals as goal

pub returns-in_err-next : goal.returns-in_err-next
returns-in_err-next c = told _ _ c.from_residual.result c.from_residual.ensures (lacks c.args.tokens.now c.args.from _ (noted started) c.in_err-next.ensures)

pub returns : goal.returns
returns c =
    let word = c.in_ok-next.ensures in
    let I = c.distinct-distinct.ensures.left c.args.depth _ _ (drop c.args.from c.args.tokens.now) (λ d. read (selected (place (drop c.args.from c.args.tokens.now)) d) done) (past_word (codes "select") (noted started) word.2) in
    let J = subst (λ (z : ℕ). Onward false c.args.depth select (drop c.args.from c.args.tokens.now) (read (selected z c.distinct-distinct.result.0) done) (drop c.distinct-distinct.result.1 c.args.tokens.now) c.args.nodes.now.left c.args.nodes.now.left) (sym c.place-at.ensures) I in
    handed _ _ _ _ c.selected.result c.selected.ensures (λ x h. (omega (arith, word.0, c.distinct-distinct.ensures.on, h.0), is_done (closed_by x.0 J h.1))) (λ e h. fails_in _ c.args.tokens.now e J h)
