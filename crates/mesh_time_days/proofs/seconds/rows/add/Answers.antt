use Rattle.std.proofs.Common.{◌++◌, ◌∙◌}
use Rattle.std.proofs.lemmas.Result.{on_ok_weaker}
use Rattle.mesh_time_days.proofs.seconds.Before.{added}
use Rattle.mesh_time_days.proofs.seconds.rows.add.Goals as goal

pub returns-clause-ok : goal.returns-clause-ok
returns-clause-ok c =
    let old = c.into_vec-list.ensures ∙ c.replace.ensures.value in
    on_ok_weaker c.join-done.result
    (λ d. added c.args.columns.now c.args.time.now c.args.start c.args.end c.args.rows.now c.args.more c.from_vec.result c.requires (c.from_vec.ensures ∙ d ∙ (λ i. old i ++ c.into_vec.ensures i)))
    c.join-done.ensures.ok
