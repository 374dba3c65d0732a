-- Lists of changes along which a world stays sound but for the same parts from the first change to the last.
use Rattle.std.proofs.Common.{◌≡◌, false, List, [], ◌∷◌, ◌++◌}
use Rattle.mesh_base.specs.declared.forgets.Forget.{Forget}
use Rattle.mesh_house.specs.declared.world.Change.{Change}
use Rattle.mesh_house.specs.declared.world.World.{World}
use Rattle.mesh_house.specs.Step.{run, step}
use Rattle.mesh_spec_changes.specs.due.Parts.{Parts}
use Rattle.mesh_spec_promise.specs.Histories.{left}
use Rattle.mesh_spec_promise.specs.Sound.{Sound}
use Rattle.mesh_spec_promise.proofs.Doubts.{doubted}
use Rattle.mesh_law_changes.specs.along.Along.{StaysAlong}
use Rattle.mesh_law_changes.proofs.along.Along.{left_fewer}

-- before the first change, between any two and after the last
abbrev pub FormedAlong : Parts → World → List Change → Type 0
FormedAlong z w [] = Sound z w
FormedAlong z w (c ∷ cs) = Sound z w × FormedAlong z (step w c) cs

pub formed_begin : (z : Parts) (w : World) (list : List Change) → FormedAlong z w list → Sound z w
formed_begin z w [] h = h
formed_begin z w (c ∷ cs) h = h.0

-- along a list and then another one
pub formed_append : (z : Parts) (w : World) (list more : List Change) → FormedAlong z w list → FormedAlong z (run w list) more → FormedAlong z w (list ++ more)
formed_append z w [] more h k = k
formed_append z w (c ∷ cs) more h k = (h.0, formed_append z (step w c) cs more h.1 k)

-- along a front of a list
pub formed_front : (z : Parts) (w : World) (made rest : List Change) → FormedAlong z w (made ++ rest) → Sound z (run w made)
formed_front z w [] rest h = formed_begin z w rest h
formed_front z w (c ∷ cs) rest h = formed_front z (step w c) cs rest h.1

-- after the whole list
pub formed_end : (z : Parts) (w : World) (list : List Change) → FormedAlong z w list → Sound z (run w list)
formed_end z w [] h = h
formed_end z w (c ∷ cs) h = formed_end z (step w c) cs h.1

-- where a world stays sound along a list, it stays so but for more parts
pub formed_more : (x z : Parts) (w : World) (list : List Change) → ((q : Forget) → z q ≡ false → x q ≡ false) → StaysAlong x w list → FormedAlong z w list
formed_more x z w [] more h = doubted x z w more h
formed_more x z w (c ∷ cs) more h = (doubted x z w more h.0, formed_more (left (c ∷ []) x) z (step w c) cs (λ q free. left_fewer (c ∷ []) x q (more q free)) h.1)

-- after one change that may take parts out of doubt
pub formed_taken : (z : Parts) (w : World) (c : Change) → Sound (left (c ∷ []) z) (step w c) → Sound z (step w c)
formed_taken z w c h = doubted (left (c ∷ []) z) z (step w c) (left_fewer (c ∷ []) z) h
