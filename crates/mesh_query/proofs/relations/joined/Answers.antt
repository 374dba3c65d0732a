use Rattle.std.proofs.Common.{codes, arith}
use Rattle.mesh_query.proofs.Steps.{started, past_word, has_read, is_done, read_from}
use Rattle.mesh_query.proofs.Descent.{told, lacks, fails_in, failed_from}
use Rattle.mesh_query.proofs.relations.joined.Goals as goal

pub returns-in_err-rel : goal.returns-in_err-rel
returns-in_err-rel c = told _ _ c.from_residual.result c.from_residual.ensures (fails_in _ c.args.tokens.now _ started (c.in_err-rel.ensures c.args.depth _))

pub returns-in_err-next : goal.returns-in_err-next
returns-in_err-next c =
    let rel = c.in_ok-rel.ensures c.args.depth _ in
    told _ _ c.from_residual-in_err-next.result c.from_residual-in_err-next.ensures (lacks c.args.tokens.now c.in_ok-rel.next _ (has_read c.in_ok-rel.rel started rel.1) c.in_err-next.ensures)

pub returns-in_err-on : goal.returns-in_err-on
returns-in_err-on c =
    let rel = c.in_ok-rel.ensures c.args.depth _ in
    let word = c.in_ok-next.ensures in
    told _ _ c.from_residual-in_err-on.result c.from_residual-in_err-on.ensures (fails_in _ c.args.tokens.now _ (past_word (codes "on") (has_read c.in_ok-rel.rel started rel.1) word.2) (failed_from _ _ _ _ _ _ _ c.begin.ensures c.in_err-on.ensures))

pub returns : goal.returns
returns c =
    let rel = c.in_ok-rel.ensures c.args.depth _ in
    let word = c.in_ok-next.ensures in
    let on = c.in_ok-on.ensures in
    (omega (arith, rel.0, word.0, on.0), is_done (has_read c.in_ok-on.on (past_word (codes "on") (has_read c.in_ok-rel.rel started rel.1) word.2) (read_from c.begin.ensures on.1)))
