use Rattle.std.proofs.Common.{rules, ◌++◌, ◌∙◌, ap, not, List, filter}
use Rattle.std.proofs.lemmas.Fn.{filter_same}
use Rattle.mesh_base_values.specs.declared.times.Bounds.{Bounds}
use Rattle.mesh_base_values.specs.declared.values.Cell.{Cell}
use Rattle.mesh_time_days.specs.seconds.Times.{time_of, is_within}
use Rattle.mesh_time_days.specs.seconds.Rows.{lies_within, cell_at}
use Rattle.mesh_time_days.proofs.seconds.Before.{cell_at-is, kept_alike}
use Rattle.mesh_time_days.proofs.seconds.rows.write.Goals as goal

pub returns-clause-ok : goal.returns-clause-ok
returns-clause-ok c =
    let u : Bounds = record { start = c.args.start; end = c.args.end } in
    let stays = λ (row : List Cell). not (lies_within c.args.columns.now c.args.time.now c.args.start c.args.end row) in
    let kept = λ (row : List Cell). not (is_within u (time_of (cell_at c.column_at-place.result row))) in
    let same = λ (row : List Cell). ap (λ p. not (is_within u (time_of (cell_at p row)))) c.column_at-place.ensures ∙ ap (λ x. not (is_within u (time_of x))) (cell_at-is c.args.columns.now c.args.time.now row) in
    let filtered = filter_same _ kept _ (λ x b f' k. search rules) _ _ c.retain.ensures.filtered in
    c.in_ok-append.ensures.items ∙ ap (λ (l : List (List Cell)). l ++ c.args.more.items) (filtered ∙ ap (filter kept) c.in_ok-reserve.ensures.items ∙ kept_alike kept stays same c.args.rows.now.items)
