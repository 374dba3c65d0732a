use Rattle.std.proofs.Common.{[], ◌∷◌, suc, drop, take, arith, add-one}
use Rattle.std.proofs.lemmas.List.{take_all}
use Rattle.mesh_house.proofs.Lists.{take-more, take-parts}
use Rattle.mesh_house.proofs.Runs.{ran_then, makes_ok, makes_err}
use Rattle.mesh_house.proofs.making.make_all.Goals as goal

pub returns-in_err-make : goal.returns-in_err-make
returns-in_err-make g c =
    let cs = c.args.list.now in
    let i = c.loop-change.change-index in
    let change = c.change-item.result in
    makes_err (λ w. take i cs) (λ w. change ∷ []) (λ w. cs) (λ w. drop (suc i) cs) _ _ _ c.in_err-make.field-0.0 c.from_residual.result c.loop-change.invariant c.in_err-make.ensures c.from_residual.ensures.1
    (λ w is. take-parts cs i change (omega arith) c.change-item.is)

pub loop-change-preserved : goal.loop-change-preserved
loop-change-preserved g c =
    let cs = c.args.list.now in
    let i = c.loop-change.change-index in
    let change = c.change-item.result in
    rw add-one (ran_then (λ w. take i cs) (λ w. change ∷ []) (λ w. take (suc i) cs) _ _ _ c.loop-change.invariant c.in_ok-make.ensures.ok
    (λ w is. take-more cs i change (omega arith) c.change-item.is))

pub returns : goal.returns
returns g c =
    let cs = c.args.list.now in
    makes_ok _ _ _ _ (rw (← take_all c.loop-change.change-index cs (omega arith)) c.loop-change.invariant)
