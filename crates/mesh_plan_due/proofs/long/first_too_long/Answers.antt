use Rattle.std.proofs.Common.{rules, w64, ◌≡◌, ◌+◌, ℕ, suc, pos, take, get_or, sym, ◌∙◌, FitsSigned, arith, subst}
use Rattle.std.specs.declared.option.Option.TheVariants.{None}
use Rattle.std.proofs.lemmas.Int.{to_z-of_z}
use Rattle.mesh_spec_model.specs.Closures.{closures}
use Rattle.mesh_plan_due.specs.Long.{first_too_long}
use Rattle.mesh_plan_due.proofs.TooLong.{first_here, long_there, none_more}
use Rattle.mesh_plan_due.proofs.long.first_too_long.Goals as goal

pub returns-then-is_too_long : goal.returns-then-is_too_long
returns-then-is_too_long c clock all =
    let fits : FitsSigned w64 (get_or c.as_slice-seconds.result.now c.loop-at.at (pos 0)) = search rules in
    let there = long_there clock c.args.nodes.now c.as_slice-seconds.result.now (c.as_slice-seconds.ensures.list ∙ all) c.loop-at.at c.index-nodes-at.result c.loop-at-test.true c.index-nodes-at.is
    c.is_too_long.result (simp to_z-of_z at c.is_too_long.ensures) in
    sym (first_here clock (closures c.args.nodes.now) c.loop-at.at there.0 (c.loop-at.invariant clock all) there.1 (there.2 ∙ c.if-is_too_long.true))

pub loop-at-preserved : goal.loop-at-preserved
loop-at-preserved c clock all =
    let fits : FitsSigned w64 (get_or c.as_slice-seconds.result.now c.loop-at.at (pos 0)) = search rules in
    let next : suc c.loop-at.at ≡ c.loop-at.at + 1 = omega arith in
    let there = long_there clock c.args.nodes.now c.as_slice-seconds.result.now (c.as_slice-seconds.ensures.list ∙ all) c.loop-at.at c.index-nodes-at.result c.loop-at-test.true c.index-nodes-at.is
    c.is_too_long.result (simp to_z-of_z at c.is_too_long.ensures) in
    subst (λ (j : ℕ). first_too_long clock (take j (closures c.args.nodes.now)) ≡ None) next
    (none_more clock (closures c.args.nodes.now) c.loop-at.at there.0 (c.loop-at.invariant clock all) there.1 (there.2 ∙ c.if-is_too_long.false))
