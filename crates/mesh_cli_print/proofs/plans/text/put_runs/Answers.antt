use Rattle.std.proofs.Common.{◌≡◌, ◌++◌, take, drop, ap, sym, ◌∙◌, arith, append_assoc}
use Rattle.mesh_cli_print.specs.plans.PlanText.{run_line, run_lines}
use Rattle.mesh_cli_print.specs.plans.Runs.{first_run}
use Rattle.mesh_cli_print.proofs.plans.Splits.{lines_split, some_first}
use Rattle.mesh_cli_print.proofs.plans.text.put_runs.Goals as goal

pub loop-rest-smaller : goal.loop-rest-smaller
loop-rest-smaller c =
    let some = some_first c.loop-rest.rest.now (omega (arith, c.loop-rest-test.true)) in
    omega (arith, some, c.first_run.ensures.value, c.split_at.ensures.back_len, c.loop-rest-test.true)

pub loop-rest-preserved : goal.loop-rest-preserved
loop-rest-preserved c =
    let rest = c.loop-rest.rest.now in
    let nodes = c.args.nodes.now in
    let out = c.loop-rest.out.items in
    let n = first_run rest in
    let front : c.split_at.result.0.now ≡ take n rest = c.split_at.ensures.front ∙ ap (λ k. take k rest) c.first_run.ensures.value in
    let back : c.split_at.result.1.now ≡ drop n rest = c.split_at.ensures.back ∙ ap (λ k. drop k rest) c.first_run.ensures.value in
    let put : c.put_run.new.out.items ≡ out ++ run_line nodes (take n rest) = c.in_ok-put_run.ensures ∙ ap (λ r. out ++ run_line nodes r) front in
    ap (λ a. c.put_run.new.out.items ++ run_lines nodes a) back
    ∙ ap (λ o. o ++ run_lines nodes (drop n rest)) put
    ∙ append_assoc out (run_line nodes (take n rest)) (run_lines nodes (drop n rest))
    ∙ ap (λ l. out ++ l) (sym (lines_split nodes rest (omega (arith, c.loop-rest-test.true))))
    ∙ c.loop-rest.invariant
