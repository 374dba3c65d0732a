-- What the calls that a command is made of leave of a house, by themselves.
use Rattle.std.specs.Prelude.{◌≡◌, Bool, true, false, List, ◌++◌, Some}
use Rattle.mesh_spec_model.specs.Horizons.{Clock}
use Rattle.mesh_house.specs.House.{Told}
use Rattle.mesh_house.specs.Step.{run}
use Rattle.mesh_house.specs.declared.world.Change.{Change}
use Rattle.mesh_house.specs.declared.world.World.{World}
use Rattle.mesh_spec_changes.specs.Commands as promise
use Rattle.mesh_spec_changes.specs.due.Parts.{Parts}
use Rattle.mesh_cli_print.specs.declared.printed.refusals.Refusal.{Refusal}
use Rattle.mesh_cli_print.specs.declared.printed.refusals.Refusal.TheVariants.{BookBroken, ObjectMissing}
use Rattle.mesh_spec_promise.specs.Histories.{Settles, left, met}
use Rattle.mesh_spec_promise.specs.Sound.{Sound}

-- a command of the promise that settles in a world which is sound but for some parts, by the clocks before it and at
-- its moment
pub record IsBegun (before after : Clock) (k : promise.Command) (x : Parts) (w : World) : Type 0 where
  pub sound : Sound x w
  pub settles : Settles after k w (met before after k w x)

-- some first changes of the command were made, and the world is sound but for what they leave in doubt
pub record IsUnderWay (before after : Clock) (k : promise.Command) (x : Parts) (w : World) (told : Told) : Type 0 where
  pub made : List Change
  pub rest : List Change
  pub front : promise.changes after k w ≡ made ++ rest
  pub told_is : told.world ≡ Some (run w made)
  pub sound : Sound (left made (met before after k w x)) (run w made)

-- what is told where the warehouse isn't as the tool leaves it: its book breaks a rule, or an object that a view or a
-- model reads is missing
abbrev pub tells_of_damage : Refusal → Bool
tells_of_damage (BookBroken part place) = true
tells_of_damage (ObjectMissing object) = true
tells_of_damage other = false
