use Rattle.std.proofs.Common.{◌∙◌, arith, FitsSigned, w64}
use Rattle.std.proofs.lemmas.Int.{to_z-of_z, ints}
use Rattle.mesh_time_days.specs.Moments.{day_number}
use Rattle.mesh_time_days.proofs.TextLaws.{parts_at, second_made}
use Rattle.mesh_time_days.proofs.moments.moment_text.Goals as goal

pub returns : goal.returns
unfolding day_number
returns c =
    let fits : FitsSigned w64 c.args.t = c.ranges.t in
    let value = simp to_z-of_z at c.day_and_second-count.ensures.value in
    let p = parts_at c.args.t _ _ value c.day_and_second-count.ensures.second in
    let bound = c.day_and_second-count.ensures.day in
    let day = p.0 in
    second_made c.args.t _ _ c.day_text.result c.second_text.result (day ∙ omega (arith, ints)) p.1 c.day_text.ensures c.second_text.ensures
