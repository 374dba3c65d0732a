use Rattle.mesh_spec_query.specs.Ev.{Ev}
use Rattle.mesh_eval_expressions.specs.bound.Meaning.{given_scope}
use Rattle.mesh_eval.proofs.Placed.{condition-some, condition-none}
use Rattle.mesh_eval.proofs.placing.bind_condition.Goals as goal

pub returns-in-None : goal.returns-in-None
returns-in-None c = condition-none c.args.u c.args.columns.now c.args.keys.now c.args.condition.now c.in-None.is

pub returns-in-Some : goal.returns-in-Some
returns-in-Some c =
    let u = c.args.u in
    let columns = c.args.columns.now in
    let keys = c.args.keys.now in
    let e = c.in-Some.e in
    condition-some u columns keys c.args.condition.now e c.some.result c.in-Some.is (c.some.ensures (λ g. Ev e (given_scope u columns keys g)) c.bind.ensures)
