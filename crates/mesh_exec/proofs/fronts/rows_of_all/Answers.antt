use Rattle.std.proofs.Common.{◌≡◌, List, length, map, sym, ap, subst, ◌∙◌, arith}
use Rattle.std.specs.Prelude.{nat_lt}
use Rattle.std.specs.List.{All, list_all}
use Rattle.mesh_base_values.specs.declared.values.Cell.{Cell}
use Rattle.mesh_exec_wave.specs.wave.Waves.{job_rows}
use Rattle.mesh_exec_works.specs.Fronts.{each_pool}
use Rattle.mesh_exec.specs.Fronts.{cut_jobs, cut_rows}
use Rattle.mesh_exec.proofs.Filling.{ok_more}
use Rattle.mesh_exec.proofs.Fronting.{There, all_rows, few_cuts, jobs_there}
use Rattle.mesh_exec.proofs.fronts.rows_of_all.Goals as goal

pub wave-requires-clause-few : goal.wave-requires-clause-few
wave-requires-clause-few g c κs within = omega (arith, few_cuts c.args.cuts.now c.as_slice.result.now, ap length c.in_ok-jobs.ensures, c.requires.few)

pub wave-requires-clause-there : goal.wave-requires-clause-there
wave-requires-clause-there g c κs within =
    let pools = length c.args.pooled.now.pools in
    subst (All (There pools)) (sym c.in_ok-jobs.ensures) (jobs_there pools c.args.cuts.now c.as_slice.result.now (ap (list_all (λ n. nat_lt n pools)) c.as_slice.ensures ∙ c.requires.there))

pub returns : goal.returns
returns g c =
    let pools = c.args.pooled.now.pools in
    ok_more (λ (made : List (List (List Cell))). made ≡ map (job_rows pools) c.in_ok-jobs.jobs) (λ (made : List (List (List Cell))). made ≡ cut_rows c.args.cuts.now (each_pool c.args.pooled.now)) c.wave.result
    (λ made is. is ∙ ap (map (job_rows pools)) (c.in_ok-jobs.ensures ∙ ap (cut_jobs c.args.cuts.now) c.as_slice.ensures) ∙ all_rows pools c.args.cuts.now c.args.pooled.now.numbers c.requires.each c.requires.fit) c.wave.ensures
