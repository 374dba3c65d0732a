use Rattle.std.proofs.Common.{◌≡◌, FitsSigned, w64, to_z, of_z}
use Rattle.std.proofs.lemmas.Int.{to_z-of_z}
use Rattle.mesh_house.specs.declared.world.Change.TheVariants.{WriteRange}
use Rattle.mesh_exec_works.proofs.changes.range_write.Goals as goal

pub returns : goal.returns
returns c =
    let fits_start : FitsSigned w64 c.args.start = c.ranges.start in
    let fits_end : FitsSigned w64 c.args.end = c.ranges.end in
    let start : to_z w64 (of_z w64 c.args.start) ≡ c.args.start = simp to_z-of_z in
    let end_ : to_z w64 (of_z w64 c.args.end) ≡ c.args.end = simp to_z-of_z in
    λ i. WriteRange ((c.in_ok-object.ensures i).0) ((c.in_ok-object.ensures i).1) (start i) (end_ i) c.args.rows
