use Rattle.std.proofs.Common.{[], ◌∷◌, suc, drop, take, arith, add-one}
use Rattle.mesh_house.proofs.Lists.{take-more, take-parts}
use Rattle.mesh_house.proofs.Runs.{change_makes, changed, ran_then, makes_err}
use Rattle.mesh_janitor.proofs.making.make_counted.Goals as goal

pub returns-in_err-change-clause-makes : goal.returns-in_err-change-clause-makes
returns-in_err-change-clause-makes g c =
    let cs = c.args.list.now in
    let i = c.loop-change.change-index in
    let change = c.change-item.result in
    makes_err (λ w. take i cs) (λ w. change ∷ []) (λ w. cs) (λ w. drop (suc i) cs) _ _ _ c.in_err-change.field-0.0 c.from_residual.result c.loop-change.invariant.0 (change_makes change _ _ _ c.in_err-change.ensures) c.from_residual.ensures.1
    (λ w is. take-parts cs i change (omega arith) c.change-item.is)

pub loop-change-preserved : goal.loop-change-preserved
loop-change-preserved g c =
    let cs = c.args.list.now in
    let i = c.loop-change.change-index in
    let change = c.change-item.result in (
      rw add-one (ran_then (λ w. take i cs) (λ w. change ∷ []) (λ w. take (suc i) cs) _ _ _ c.loop-change.invariant.0 (changed change _ _ _ c.in_ok-change.ensures)
          (λ w is. take-more cs i change (omega arith) c.change-item.is)),
      omega (arith, c.loop-change.invariant.1, c.in_ok-change.ensures.calls),
    )
