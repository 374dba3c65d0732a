use Rattle.std.proofs.lemmas.Int.{to_z-of_z}
use Rattle.mesh_time.proofs.Forgotten.{is_apart-forgotten, has_if_forgotten}
use Rattle.mesh_time.proofs.ranges.Ranges.forget.Goals as goal

pub invariant_of-self : goal.invariant_of-self
invariant_of-self c =
    let f = c.ranges.start in
    let g = c.ranges.end in
    let made = simp to_z-of_z at c.in_ok-made.ensures in
    is_apart-forgotten _ _ _ made c.requires c.self.invariant

pub returns-clause-seconds : goal.returns-clause-seconds
returns-clause-seconds c =
    let f = c.ranges.start in
    let g = c.ranges.end in
    let made = simp (to_z-of_z, c.self.view_is) at c.in_ok-made.ensures in
    has_if_forgotten _ _ _ made c.requires

pub returns-clause-spans : goal.returns-clause-spans
returns-clause-spans c =
    let f = c.ranges.start in
    let g = c.ranges.end in
    simp (to_z-of_z, c.self.view_is) at c.in_ok-made.ensures
