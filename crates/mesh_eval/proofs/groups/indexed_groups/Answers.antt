use Rattle.std.proofs.Common.{◌<◌, List, length, sym, subst, ◌∙◌}
use Rattle.mesh_base_values.specs.declared.values.Cell.{Cell}
use Rattle.mesh_eval_rows.specs.joins.index.Places.{places}
use Rattle.mesh_spec_query.specs.Sel.{Group, same_row}
use Rattle.mesh_eval_expressions.specs.Frames.{picked}
use Rattle.mesh_eval.specs.Placed.{output_row}
use Rattle.mesh_eval.proofs.Picked.{group-added, group-passed}
use Rattle.mesh_eval.proofs.groups.indexed_groups.Goals.{then-is_first+in_ok-add_group, else-is_first}
use Rattle.mesh_eval.proofs.groups.indexed_groups.Goals as goal

pub loop-at-preserved : goal.loop-at-preserved
loop-at-preserved c =
    let keys = c.args.keys.now.rows in
    let all = c.args.index.now in
    let out = output_row c.args.o.now in
    let of_key : List Cell → Group = λ key. record { key_values = key; rows = picked c.args.rows.now.rows (places (same_row key) all) } in
    let lt : c.loop-at.at < length keys = subst (λ n. c.loop-at.at < n) c.len-at-end.ensures c.loop-at-test.true in
    elim c.if-is_first.branch [
      | then-is_first+in_ok-add_group w ↦
          w.made-is ∙ w.in_ok-add_group.ensures
          ∙ group-added out of_key keys all c.loop-at.at w.at-key.result.now c.loop-at.made c.requires lt w.at-key.ensures (sym c.is_first.ensures ∙ w.if-is_first.true) c.loop-at.invariant
      | else-is_first w ↦
          w.made-is ∙ group-passed out of_key keys all c.loop-at.at c.loop-at.made c.requires lt (sym c.is_first.ensures ∙ w.if-is_first.false) c.loop-at.invariant
    ]
