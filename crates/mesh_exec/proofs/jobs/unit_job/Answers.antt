use Rattle.std.proofs.Common.{◌≡◌, FitsSigned, Some, w64, to_z, of_z}
use Rattle.std.proofs.lemmas.Int.{to_z-of_z}
use Rattle.mesh_exec.proofs.jobs.unit_job.Goals as goal

pub returns : goal.returns
returns c =
    let fits_start : FitsSigned w64 c.args.start = c.ranges.start in
    let fits_end : FitsSigned w64 c.args.end = c.ranges.end in
    let start_ : to_z w64 (of_z w64 c.args.start) ≡ c.args.start = simp to_z-of_z in
    let end_ : to_z w64 (of_z w64 c.args.end) ≡ c.args.end = simp to_z-of_z in
    λ i. record { query = (c.in_ok-query.ensures i).0; pool = c.args.pool; bounds = record { start = start_ i; end = end_ i }; time = Some ((c.in_ok-query.ensures i).1) }
