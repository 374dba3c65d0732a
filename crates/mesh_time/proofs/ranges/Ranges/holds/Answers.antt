use Rattle.std.proofs.lemmas.Int.{to_z-of_z}
use Rattle.mesh_time.proofs.Missing.{front_tells, front_test}
use Rattle.mesh_time.proofs.ranges.Ranges.holds.Goals as goal

pub returns-else-end-start-clause-seconds : goal.returns-else-end-start-clause-seconds
returns-else-end-start-clause-seconds c =
    let f = c.ranges.start in
    let g = c.ranges.end in
    let some = simp to_z-of_z at c.if-end-start.false in
    let rest = simp to_z-of_z at c.open_after.ensures in
    let found = simp to_z-of_z at c.front_covers.ensures in
    front_tells _ _ _ _ _ _ _ c.as_slice.ensures c.self.view_is c.self.invariant some rest found

pub returns-else-end-start-clause-test : goal.returns-else-end-start-clause-test
returns-else-end-start-clause-test c =
    let f = c.ranges.start in
    let g = c.ranges.end in
    let some = simp to_z-of_z at c.if-end-start.false in
    let rest = simp to_z-of_z at c.open_after.ensures in
    let found = simp to_z-of_z at c.front_covers.ensures in
    front_test _ _ _ _ _ _ _ c.as_slice.ensures c.self.view_is c.self.invariant some rest found
