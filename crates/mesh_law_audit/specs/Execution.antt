-- A command that begins, and an apply before its environment gets its models.
use Rattle.std.specs.Prelude.{List, [], ◌++◌, IsTrue}
use Rattle.mesh_spec_model.specs.Horizons.{Clock}
use Rattle.mesh_house.specs.Step.{run}
use Rattle.mesh_house.specs.declared.world.Change.{Change}
use Rattle.mesh_house.specs.declared.world.World.{World}
use Rattle.mesh_spec_changes.specs.due.Parts.{Parts}
use Rattle.mesh_spec_changes.specs.Changes.{Plan, executes, opens}
use Rattle.mesh_spec_changes.specs.Commands.{Command, allows}
use Rattle.mesh_spec_promise.specs.Histories.{IsMet, Settles, met}
use Rattle.mesh_spec_promise.specs.Sound.{Sound}

-- A command begins in a world that is kept well but for some parts: it is asked for and allowed, and it settles.
pub record Begins (before after : Clock) (x : Parts) (w : World) (k : Command) : Type 0 where
  pub asked_for : IsMet before after w k
  pub allowed : IsTrue (allows w k)
  pub sound : Sound x w
  pub settles : Settles after k w (met before after k w x)

-- the changes of an apply up to those of its environment: its models are put, made and filled
abbrev pub execution : Clock → Plan → World → List Change
execution clock plan w = opens plan ++ executes clock w.book plan.forgets plan.models [] plan.models (run w (opens plan))
