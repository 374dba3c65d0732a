use Rattle.std.proofs.Common.{rules, w64}
use Rattle.std.specs.Prelude.{FitsSigned}
use Rattle.std.proofs.lemmas.Int.{to_z-of_z}
use Rattle.mesh_time.proofs.Forgotten.{pieces_pushed}
use Rattle.mesh_time.proofs.ranges.push_pieces.Goals as goal

pub returns : goal.returns
returns c =
    let start_fits : FitsSigned w64 c.args.span.now.start = search rules in
    let end_fits : FitsSigned w64 c.args.span.now.end = search rules in
    let gone_start_fits : FitsSigned w64 c.args.gone.now.start = search rules in
    let gone_end_fits : FitsSigned w64 c.args.gone.now.end = search rules in
    let low_fits : FitsSigned w64 c.min.result = search rules in
    let high_fits : FitsSigned w64 c.max.result = search rules in
    let low = simp to_z-of_z at c.min.ensures.value in
    let high = simp to_z-of_z at c.max.ensures.value in
    let first = simp to_z-of_z at c.in_ok-push_filled.ensures in
    let second = simp to_z-of_z at c.in_ok-push_filled-2.ensures in
    pieces_pushed _ _ _ _ _ _ _ low high first second
