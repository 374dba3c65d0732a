use Rattle.std.proofs.Common.{[], ◌++◌, get_or, ap, ◌∙◌}
use Rattle.std.specs.List.{range_with_len}
use Rattle.mesh_eval_expressions.specs.Frames.{picked}
use Rattle.mesh_eval.specs.Placed.{output_row}
use Rattle.mesh_eval.proofs.Picked.{picked-all, plus_0}
use Rattle.mesh_eval.proofs.groups.row_of_all.Goals as goal

pub returns : goal.returns
returns c =
    let rows = c.args.rows.now.rows in
    c.in_ok-add_row.ensures
    ∙ ap (λ made. made ++ output_row c.args.o.now (record { key_values = []; rows = picked rows c.as_slice.result.now })) c.new-made.ensures
    ∙ ap (λ l. output_row c.args.o.now (record { key_values = []; rows = l }))
    (ap (picked rows) (c.as_slice.ensures.value ∙ c.in_ok-all.ensures ∙ ap (range_with_len 0) c.len.ensures) ∙ picked-all [] rows rows 0 (λ k. ap (λ n. get_or rows n []) (plus_0 k)))
