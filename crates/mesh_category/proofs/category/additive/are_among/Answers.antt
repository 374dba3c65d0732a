use Rattle.std.proofs.Common.{arith}
use Rattle.mesh_category.proofs.category.Among.{one_kept, one_passed, none_left, all_looked_for}
use Rattle.mesh_category.proofs.category.additive.are_among.Goals.{then-at-old+then-same, else-at-old, else-at-old-via-then-at-old+else-same, else-at-old-via-else-at-old}
use Rattle.mesh_category.proofs.category.additive.are_among.Goals as goal

pub loop-item-preserved : goal.loop-item-preserved
loop-item-preserved c = elim c.if-at-old.branch [
  | then-at-old+then-same w ↦
      let kept = one_kept c.args.old.now c.args.new.now c.loop-item.at c.loop-item.item-index c.item-item.result c.loop-item-test.true c.item-item.is
      w.index-old-at.result w.if-at-old.true w.index-old-at.is (w.same.ensures.0 w.if-same.true) c.loop-item.invariant.so_far in
      record { so_far = rw w.at-is kept; within = omega arith }
  | else-at-old w ↦ elim w.else-at-old.branch [
    | else-at-old-via-then-at-old+else-same v ↦
        let passed = one_passed c.args.old.now c.args.new.now c.loop-item.at c.loop-item.item-index c.item-item.result c.loop-item-test.true c.item-item.is
        v.index-old-at.result v.if-at-old.true v.index-old-at.is (λ e. let clash = v.same.ensures.1 e in let no = v.if-same.false in cc) c.loop-item.invariant.so_far in
        record { so_far = rw w.at-is passed; within = omega arith }
    | else-at-old-via-else-at-old v ↦
        let left = none_left c.args.old.now c.args.new.now c.loop-item.at c.loop-item.item-index c.item-item.result c.loop-item-test.true c.item-item.is
        (omega arith) c.loop-item.invariant.so_far in
        record { so_far = rw w.at-is left; within = omega arith }
  ]
]

pub returns : goal.returns
returns c = all_looked_for c.args.old.now c.args.new.now c.loop-item.at c.loop-item.item-index c.loop-item.invariant.within (omega arith) c.loop-item.invariant.so_far
