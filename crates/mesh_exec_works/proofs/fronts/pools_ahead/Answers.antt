use Rattle.std.proofs.Common.{◌+◌, ◌-◌, ◌∷◌, [], length, length-append, map, take, refl, sym, ap, ◌∙◌, arith}
use Rattle.std.specs.Option.{option_copied}
use Rattle.mesh_layer.proofs.Finding.{and_then, answers, part_fails, told_later, wants}
use Rattle.mesh_exec_works.specs.Fronts.{each_pool, last_pool, pools_from}
use Rattle.mesh_exec_works.specs.Plain.{plain_models}
use Rattle.mesh_exec_works.specs.Works.{part_of}
use Rattle.mesh_exec_works.proofs.More.{absent}
use Rattle.mesh_exec_works.proofs.Pools.{all_come, at_last, comes_next, goes_some, last_added, last_again, pool_again, pool_more, stops_there, there_again, there_more}
use Rattle.mesh_exec_works.proofs.fronts.pools_ahead.Goals as goal
use Rattle.mesh_exec_works.proofs.fronts.pools_ahead.Goals.{then-branch+in_ok-add_same, else-branch+in_ok-pool+in-Some+in_ok-add_pool}

pub loop-i-preserved : goal.loop-i-preserved
loop-i-preserved g c =
    let all = plain_models c.args.nodes.now c.args.entries.now in
    let works = c.args.works.now in
    let i = c.loop-i.i in
    let x = c.index-works-i.result in
    let so_far = c.loop-i.invariant in
    let before = c.loop-i.made in
    elim c.if-branch.branch [
      | then-branch+in_ok-add_same b ↦
          let after = b.add_same.new.made in
          let added = b.in_ok-add_same.ensures in
          let q = goes_some all (map part_of (take (i + 1) works)) (option_copied c.loop-i.before) (part_of x) (c.in_ok-goes_on.ensures b.if-branch.true) in
          let any = so_far.any q.0 q.1 in
          rw b.made-is (rw b.house-is (record {
            few = omega (arith, so_far.few, ap length added.numbers, length-append before.numbers ((length before.pools - 1) ∷ []));
            pools = omega (arith, so_far.pools, ap length added.pools);
            there = there_again before after any so_far.there added.pools added.numbers;
            told = record {
              untouched = so_far.told.untouched;
              told = λ w told plain.
                  let same = q.2 w (map part_of (take i works)) (last_pool before) (so_far.last w told plain q.0 q.1) in
                  comes_next w all works i x c.loop-i-test.true c.index-works-i.is (each_pool before) (each_pool after) (pools_from w all [] (map part_of works)) (last_pool before) (map part_of (take (i + 1) works)) refl
                  (sym same) (pool_again before after any so_far.there added.pools added.numbers) (so_far.told.told w told plain);
            };
            any = λ k is. omega (arith, any, ap length added.pools);
            last = λ w told plain k is.
                at_last w all (map part_of (take (i + 1) works)) x k (last_pool before) (last_pool after) is (q.2 w (map part_of (take i works)) (last_pool before) (so_far.last w told plain q.0 q.1))
                (last_again before after any so_far.there added.pools added.numbers);
          }))
      | else-branch+in_ok-pool+in-Some+in_ok-add_pool b ↦
          let after = b.add_pool.new.made in
          let added = b.in_ok-add_pool.ensures in
          let tables = b.in-Some.pool in
          let there = b.in_ok-pool.ensures in
          rw b.made-is (rw b.house-is (record {
            few = omega (arith, so_far.few, ap length added.numbers, length-append before.numbers (length before.pools ∷ []));
            pools = omega (arith, so_far.pools, ap length added.pools, length-append before.pools (tables ∷ []));
            there = there_more before after tables so_far.there added.pools added.numbers;
            told = record {
              untouched = and_then _ _ _ so_far.told.untouched there.untouched;
              told = λ w told plain.
                  let found = there.ok w (told_later _ _ w so_far.told.untouched told) plain in
                  comes_next w all works i x c.loop-i-test.true c.index-works-i.is (each_pool before) (each_pool after) (pools_from w all [] (map part_of works)) tables (map part_of (take (i + 1) works)) refl
                  (sym b.in-Some.is ∙ found) (pool_more before after tables so_far.there added.pools added.numbers) (so_far.told.told w told plain);
            };
            any = λ k is. omega (arith, ap length added.pools, length-append before.pools (tables ∷ []));
            last = λ w told plain k is.
                let found = there.ok w (told_later _ _ w so_far.told.untouched told) plain in
                at_last w all (map part_of (take (i + 1) works)) x k tables (last_pool after) is (sym found ∙ b.in-Some.is) (last_added before after tables added.pools);
          }))
    ]

pub add_same-requires-clause-any : goal.add_same-requires-clause-any
add_same-requires-clause-any g c =
    let all = plain_models c.args.nodes.now c.args.entries.now in
    let q = goes_some all (map part_of (take (c.loop-i.i + 1) c.args.works.now)) (option_copied c.loop-i.before) (part_of c.index-works-i.result) (c.in_ok-goes_on.ensures c.if-branch.true) in
    c.loop-i.invariant.any q.0 q.1

pub returns-in_err-pool-clause-finds : goal.returns-in_err-pool-clause-finds
returns-in_err-pool-clause-finds g c =
    part_fails _ _ _ _ _ _ _ _ _ c.in_err-pool.field-0.0 c.from_residual-in_err-pool.result c.loop-i.invariant.told.untouched c.in_err-pool.ensures c.from_residual-in_err-pool.ensures.1
    (λ w told plain. (plain, λ o is. is))

pub returns-in_default-clause-finds : goal.returns-in_default-clause-finds
returns-in_default-clause-finds g c =
    let all = plain_models c.args.nodes.now c.args.entries.now in
    let works = c.args.works.now in
    let i = c.loop-i.i in
    let so_far = c.loop-i.invariant.told in
    let there = c.in_ok-pool.ensures in
    answers _ _ _ _ _ _ (and_then _ _ _ so_far.untouched there.untouched) (λ w told plain.
    stops_there w all works i c.index-works-i.result c.loop-i-test.true c.index-works-i.is (each_pool c.loop-i.made) (pools_from w all [] (map part_of works)) (map part_of (take (i + 1) works)) refl
    (sym (absent c.in_ok-pool.pool c.in_default.not-Some) ∙ there.ok w (told_later _ _ w so_far.untouched told) plain) (so_far.told w told plain))

pub returns-in_err-add_pool-clause-finds : goal.returns-in_err-add_pool-clause-finds
returns-in_err-add_pool-clause-finds g c =
    wants _ _ _ _ _ c.from_residual-in_err-add_pool.result (and_then _ _ _ c.loop-i.invariant.told.untouched c.in_ok-pool.ensures.untouched) c.from_residual-in_err-add_pool.ensures.1

pub returns-clause-finds : goal.returns-clause-finds
returns-clause-finds g c =
    let all = plain_models c.args.nodes.now c.args.entries.now in
    let works = c.args.works.now in
    let so_far = c.loop-i.invariant.told in
    answers _ _ _ _ _ _ so_far.untouched (λ w told plain.
    all_come w all works c.loop-i.i (each_pool c.loop-i.made) (pools_from w all [] (map part_of works)) c.loop-i-test.false (so_far.told w told plain))
