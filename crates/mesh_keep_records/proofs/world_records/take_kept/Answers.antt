use Rattle.std.proofs.lemmas.Result.{IfOk-weaker}
use Rattle.mesh_keep_records.proofs.Bodies.{behind_none, behind_rows, behind_stored, rows_behind, stored_behind}
use Rattle.mesh_keep_records.proofs.Refused.{unlike}
use Rattle.mesh_keep_records.proofs.world_records.take_kept.Goals as goal

pub returns-then-is_same-clause-found : goal.returns-then-is_same-clause-found
returns-then-is_same-clause-found c =
    IfOk-weaker c.take_rows.result _ _ (λ b h. rows_behind c.args.word.now c.args.rest.now b (c.is_same.ensures.0 c.if-is_same.true) h) c.take_rows.ensures.found

pub returns-then-is_same-clause-only : goal.returns-then-is_same-clause-only
returns-then-is_same-clause-only c = λ b fit is.
    c.take_rows.ensures.only b fit (behind_rows c.args.word.now c.args.rest.now b (c.is_same.ensures.0 c.if-is_same.true) is)

pub returns-then-is_same-2-clause-found : goal.returns-then-is_same-2-clause-found
returns-then-is_same-2-clause-found c =
    IfOk-weaker c.take_stored.result _ _ (λ b h. stored_behind c.args.word.now c.args.rest.now b (c.is_same-2.ensures.0 c.if-is_same-2.true) h) c.take_stored.ensures.found

pub returns-then-is_same-2-clause-only : goal.returns-then-is_same-2-clause-only
returns-then-is_same-2-clause-only c = λ b fit is.
    c.take_stored.ensures.only b fit (behind_stored c.args.word.now c.args.rest.now b (c.is_same-2.ensures.0 c.if-is_same-2.true) is)

pub returns-clause-only : goal.returns-clause-only
returns-clause-only c = λ b fit is.
    absurd (behind_none c.args.word.now c.args.rest.now b (unlike _ _ _ c.is_same.ensures c.if-is_same.false) (unlike _ _ _ c.is_same-2.ensures c.if-is_same-2.false) is)
