use Rattle.std.proofs.Common.{codes, drop, arith}
use Rattle.mesh_query_grammar.specs.Signs.{place}
use Rattle.mesh_query_grammar.specs.Rules.{union}
use Rattle.mesh_query_grammar.specs.Plans.{take, nest, done, is_word, is_sign}
use Rattle.mesh_query.proofs.Steps.{started, noted, past_word, past_sign, past_name, has_nested, is_done}
use Rattle.mesh_query.proofs.Descent.{told, lacks, fails_nested, too_deep}
use Rattle.mesh_query.proofs.queries.cte.Goals as goal

pub returns-in_err-name : goal.returns-in_err-name
returns-in_err-name c = told _ _ c.from_residual.result c.from_residual.ensures (lacks c.args.tokens.now c.args.from _ (noted started) c.in_err-name.ensures)

pub returns-in_err-next : goal.returns-in_err-next
returns-in_err-next c =
    let name = c.in_ok-name.ensures in
    told _ _ c.from_residual-in_err-next.result c.from_residual-in_err-next.ensures (lacks c.args.tokens.now c.in_ok-name.next _ (past_name (λ x. take (is_word (codes "as")) (λ j. take (is_sign (codes "(")) (λ i. nest union (λ u. take (is_sign (codes ")")) (λ h. done (record { at = place (drop c.args.from c.args.tokens.now); name = x; body = u })))))) (noted started) name.2) c.in_err-next.ensures)

pub returns-in_err-next-2 : goal.returns-in_err-next-2
returns-in_err-next-2 c =
    let name = c.in_ok-name.ensures in
    let as_ = c.in_ok-next.ensures in
    told _ _ c.from_residual-in_err-next-2.result c.from_residual-in_err-next-2.ensures (lacks c.args.tokens.now c.in_ok-next.next _ (past_word (codes "as") (past_name (λ x. take (is_word (codes "as")) (λ j. take (is_sign (codes "(")) (λ i. nest union (λ u. take (is_sign (codes ")")) (λ h. done (record { at = place (drop c.args.from c.args.tokens.now); name = x; body = u })))))) (noted started) name.2) as_.2) c.in_err-next-2.ensures)

pub returns-in_err-deeper : goal.returns-in_err-deeper
returns-in_err-deeper c =
    let name = c.in_ok-name.ensures in
    let as_ = c.in_ok-next.ensures in
    let open_ = c.in_ok-next-2.ensures in
    told _ _ c.from_residual-in_err-deeper.result c.from_residual-in_err-deeper.ensures (too_deep c.args.tokens.now _ (past_sign (codes "(") (past_word (codes "as") (past_name (λ x. take (is_word (codes "as")) (λ j. take (is_sign (codes "(")) (λ i. nest union (λ u. take (is_sign (codes ")")) (λ h. done (record { at = place (drop c.args.from c.args.tokens.now); name = x; body = u })))))) (noted started) name.2) as_.2) open_.2) c.in_err-deeper.ensures)

pub returns-in_err-body : goal.returns-in_err-body
returns-in_err-body c =
    let name = c.in_ok-name.ensures in
    let as_ = c.in_ok-next.ensures in
    let open_ = c.in_ok-next-2.ensures in
    told _ _ c.from_residual-in_err-body.result c.from_residual-in_err-body.ensures (fails_nested _ c.in_ok-deeper.deeper c.args.tokens.now _ (past_sign (codes "(") (past_word (codes "as") (past_name (λ x. take (is_word (codes "as")) (λ j. take (is_sign (codes "(")) (λ i. nest union (λ u. take (is_sign (codes ")")) (λ h. done (record { at = place (drop c.args.from c.args.tokens.now); name = x; body = u })))))) (noted started) name.2) as_.2) open_.2) c.in_ok-deeper.ensures c.in_err-body.ensures)

pub returns-in_err-next-3 : goal.returns-in_err-next-3
returns-in_err-next-3 c =
    let name = c.in_ok-name.ensures in
    let as_ = c.in_ok-next.ensures in
    let open_ = c.in_ok-next-2.ensures in
    let body = c.in_ok-body.ensures in
    told _ _ c.from_residual-in_err-next-3.result c.from_residual-in_err-next-3.ensures (lacks c.args.tokens.now c.in_ok-body.next _ (has_nested c.in_ok-body.body (past_sign (codes "(") (past_word (codes "as") (past_name (λ x. take (is_word (codes "as")) (λ j. take (is_sign (codes "(")) (λ i. nest union (λ u. take (is_sign (codes ")")) (λ h. done (record { at = place (drop c.args.from c.args.tokens.now); name = x; body = u })))))) (noted started) name.2) as_.2) open_.2) c.in_ok-deeper.ensures body.1) c.in_err-next-3.ensures)

pub returns : goal.returns
returns c =
    let name = c.in_ok-name.ensures in
    let as_ = c.in_ok-next.ensures in
    let open_ = c.in_ok-next-2.ensures in
    let body = c.in_ok-body.ensures in
    let close = c.in_ok-next-3.ensures in
    rw c.place.ensures (omega (arith, name.0, as_.0, open_.0, body.0, close.0), is_done (past_sign (codes ")") (has_nested c.in_ok-body.body (past_sign (codes "(") (past_word (codes "as") (past_name (λ x. take (is_word (codes "as")) (λ j. take (is_sign (codes "(")) (λ i. nest union (λ u. take (is_sign (codes ")")) (λ h. done (record { at = place (drop c.args.from c.args.tokens.now); name = x; body = u })))))) (noted started) name.2) as_.2) open_.2) c.in_ok-deeper.ensures body.1) close.2))
