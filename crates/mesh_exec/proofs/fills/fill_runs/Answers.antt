use Rattle.std.proofs.Common.{◌+◌, length, take, drop, ap, arith, length-take, length-append, length-drop}
use Rattle.mesh_house.proofs.Runs.{makes_err, memory_then, ran_then}
use Rattle.mesh_exec_works.specs.Plain.{model_of}
use Rattle.mesh_exec.proofs.Filling.{fill_more, fill_parts, fill_rest}
use Rattle.mesh_exec.proofs.Running.{some_fit}
use Rattle.mesh_exec.specs.Fills.{first_pool, run_fillings}
use Rattle.mesh_exec.proofs.fills.fill_runs.Goals as goal

pub fill_some-requires-clause-few : goal.fill_some-requires-clause-few
fill_some-requires-clause-few g c = omega (arith, ap length c.runs_from-front.ensures, length-take 256 (drop c.loop-at.at c.args.runs.now))

pub fill_some-requires-clause-fit : goal.fill_some-requires-clause-fit
fill_some-requires-clause-fit g c κs within = some_fit c.args.node.now c.args.runs.now c.runs_from-front.result.now c.loop-at.at c.runs_from-front.ensures c.requires.fit

pub returns-in_err-more-clause-makes : goal.returns-in_err-more-clause-makes
returns-in_err-more-clause-makes g c =
    let q = model_of c.args.node.now c.args.entry.now in
    let ts = first_pool c.args.pools.now in
    let runs = c.args.runs.now in
    let front = c.runs_from-front.result.now in
    let at = c.loop-at.at in
    makes_err (λ w. run_fillings q ts (take at runs)) (λ w. run_fillings q ts front) (λ w. run_fillings q ts runs) (λ w. run_fillings q ts (drop 256 (drop at runs))) _ _ _ c.in_err-more.field-0.0 c.from_residual.result c.loop-at.invariant.ran c.in_err-more.ensures.makes c.from_residual.ensures.1
    (λ w told. fill_parts q ts runs front at c.runs_from-front.ensures)

pub returns-in_err-made-clause-makes : goal.returns-in_err-made-clause-makes
returns-in_err-made-clause-makes g c =
    let q = model_of c.args.node.now c.args.entry.now in
    let ts = first_pool c.args.pools.now in
    let runs = c.args.runs.now in
    let front = c.runs_from-front.result.now in
    let at = c.loop-at.at in
    memory_then (λ w. run_fillings q ts (take (at + length front) runs)) (λ w. run_fillings q ts runs) (λ w. run_fillings q ts (drop 256 (drop at runs))) _ _ c.from_residual-in_err-made.result
    (ran_then (λ w. run_fillings q ts (take at runs)) (λ w. run_fillings q ts front) (λ w. run_fillings q ts (take (at + length front) runs)) _ _ _ c.loop-at.invariant.ran c.in_ok-more.ensures.makes.ok (λ w told. fill_more q ts runs front at c.runs_from-front.ensures))
    c.from_residual-in_err-made.ensures.1
    (λ w told. fill_rest q ts runs front at c.runs_from-front.ensures)

pub loop-at-preserved : goal.loop-at-preserved
loop-at-preserved g c =
    let q = model_of c.args.node.now c.args.entry.now in
    let ts = first_pool c.args.pools.now in
    let runs = c.args.runs.now in
    let front = c.runs_from-front.result.now in
    let at = c.loop-at.at in
    let more = fill_more q ts runs front at c.runs_from-front.ensures in
    let i = c.loop-at.invariant in
    record {
      within = omega (arith, ap length c.runs_from-front.ensures, length-take 256 (drop at runs), length-drop at runs);
      ran = ran_then (λ w. run_fillings q ts (take at runs)) (λ w. run_fillings q ts front) (λ w. run_fillings q ts (take (at + length front) runs)) _ _ _ i.ran c.in_ok-more.ensures.makes.ok (λ w told. more);
      number = omega (arith, c.in_ok-made.ensures, i.number, c.in_ok-more.ensures.number, ap length more, length-append (run_fillings q ts (take at runs)) (run_fillings q ts front));
      calls = omega (arith, c.in_ok-made.ensures, i.calls, c.in_ok-more.ensures.calls);
    }
