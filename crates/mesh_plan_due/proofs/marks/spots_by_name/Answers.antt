use Rattle.std.proofs.Common.{rules, w64, FitsSigned, refl, get_or, pos}
use Rattle.std.proofs.lemmas.Int.{to_z-of_z}
use Rattle.mesh_plan_due.proofs.Spots.{spots_more}
use Rattle.mesh_plan_due.proofs.marks.spots_by_name.Goals as goal

pub loop-at-preserved : goal.loop-at-preserved
loop-at-preserved c =
    let fits : FitsSigned w64 (get_or c.args.seconds.now c.loop-at.at (pos 0)) = search rules in
    let put = simp to_z-of_z at c.in_ok-insert.ensures.entries in
    spots_more c.args.nodes.now c.args.seconds.now c.loop-at.at c.index-nodes-at.result c.loop-at-test.true c.index-nodes-at.is
    (record { place = c.loop-at.at; computed = c.is_computed.result; horizon = get_or c.args.seconds.now c.loop-at.at (pos 0) }) refl c.is_computed.ensures refl c.in_ok-name.name c.in_ok-name.ensures
    c.loop-at.map.entries c.insert.new.self.entries put c.loop-at.invariant
