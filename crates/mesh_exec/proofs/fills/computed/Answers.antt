use Rattle.std.proofs.Common.{◌≡◌, List, length, map, ap, ◌∙◌, arith}
use Rattle.mesh_base_values.specs.declared.values.Cell.{Cell}
use Rattle.mesh_base.specs.declared.plans.Entry.{Entry}
use Rattle.mesh_exec_works.specs.Plain.{model_of}
use Rattle.mesh_exec.specs.Fills.{first_pool, run_rows}
use Rattle.mesh_exec_wave.specs.wave.Waves.{job_rows}
use Rattle.mesh_exec.proofs.Filling.{few_jobs, jobs_rows, ok_more, pools_there}
use Rattle.mesh_exec.proofs.fills.computed.Goals as goal

pub wave-requires-clause-few : goal.wave-requires-clause-few
wave-requires-clause-few g c κs within = omega (arith, few_jobs 0 c.args.node.now.own.kind c.args.node.now.own.defn c.args.runs.now, ap length c.in_ok-jobs.ensures, c.requires.few)

pub wave-requires-clause-there : goal.wave-requires-clause-there
wave-requires-clause-there g c κs within = pools_there (length c.args.pools.now) 0 c.requires.there c.args.node.now.own.kind c.args.node.now.own.defn c.args.runs.now _ c.in_ok-jobs.ensures

pub returns : goal.returns
returns g c =
    let pools = c.args.pools.now in
    let n = c.args.node.now in
    let runs = c.args.runs.now in
    ok_more (λ (made : List (List (List Cell))). made ≡ map (job_rows pools) c.in_ok-jobs.jobs) (λ (made : List (List (List Cell))). (entry : Entry) → made ≡ map (run_rows (model_of n entry) (first_pool pools)) runs) c.wave.result
    (λ made is entry. is ∙ ap (map (job_rows pools)) c.in_ok-jobs.ensures ∙ jobs_rows n entry pools 0 runs c.requires.kind c.requires.body c.requires.fit) c.wave.ensures
