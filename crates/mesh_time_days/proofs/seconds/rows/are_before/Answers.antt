use Rattle.std.proofs.Common.{◌∙◌, ap, rules, w64, FitsSigned}
use Rattle.std.proofs.lemmas.Int.{to_z-of_z}
use Rattle.mesh_time_days.specs.seconds.Rows.{are_by}
use Rattle.mesh_time_days.proofs.seconds.Before.{are_by-is}
use Rattle.mesh_time_days.proofs.seconds.rows.are_before.Goals as goal

pub returns : goal.returns
returns c =
    let fits : FitsSigned w64 c.args.end = search rules in
    c.are_by.ensures
    ∙ ap (λ e. are_by c.column_at.result e c.args.rows.now) (to_z-of_z w64 c.args.end fits)
    ∙ are_by-is c.args.columns.now c.args.time.now c.args.end c.column_at.result c.args.rows.now c.column_at.ensures
