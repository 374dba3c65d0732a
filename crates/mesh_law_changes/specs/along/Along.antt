-- Lists of changes along which a world stays sound.
use Rattle.std.specs.Prelude.{List, [], ◌∷◌}
use Rattle.mesh_house.specs.declared.world.Change.{Change}
use Rattle.mesh_house.specs.declared.world.World.{World}
use Rattle.mesh_house.specs.Step.{step}
use Rattle.mesh_spec_changes.specs.due.Parts.{Parts}
use Rattle.mesh_spec_promise.specs.Histories.{left}
use Rattle.mesh_spec_promise.specs.Sound.{Sound}

-- before the first change, between any two and after the last, but for the parts that are still in doubt there
abbrev pub StaysAlong : Parts → World → List Change → Type 0
StaysAlong x w [] = Sound x w
StaysAlong x w (c ∷ cs) = Sound x w × StaysAlong (left (c ∷ []) x) (step w c) cs
