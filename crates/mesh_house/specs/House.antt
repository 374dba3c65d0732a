-- What a house tells of itself, and what its calls do.
use Rattle.std.specs.Prelude.{◌≡◌, ◌⊎◌, ℕ, ◌≤◌, Result, OnOk, IfOk, IfSome, IsErrOf}
use Rattle.std.specs.Option.{option_map}
use Rattle.std.specs.declared.option.Option.{Option}
use Rattle.mesh_list.specs.Counts.{risen, Rose}
use Rattle.mesh_house.specs.declared.world.World.{World}
use Rattle.mesh_house.specs.declared.world.Change.{Change}
use Rattle.mesh_house.specs.declared.house.WhFail.{WhFail}
use Rattle.mesh_house.specs.declared.house.WhFail.TheVariants.{Failed, Memory}
use Rattle.mesh_house.specs.Step.{step}

-- its world, where it tells one, and how many changes were called for and how many faults came
pub record Told : Type 0 where
  pub world : Option World
  pub calls : ℕ
  pub faults : ℕ

-- a change was called for
pub record Changes {T : Type 0} (change : Change) (old new : Told) (result : Result T WhFail) : Type 0 where
  pub calls : new.calls ≡ risen 1 old.calls
  pub faults : old.faults ≤ new.faults
  pub ok : OnOk result (new.world ≡ option_map (λ w. step w change) old.world)
  pub failed : IsErrOf result Failed → Rose old.faults new.faults × ((new.world ≡ old.world) ⊎ (new.world ≡ option_map (λ w. step w change) old.world))
  pub memory : IsErrOf result Memory → new.world ≡ old.world

-- something was read
pub record Reads {T : Type 0} (answer : World → T) (old new : Told) (result : Result T WhFail) : Type 0 where
  pub world : new.world ≡ old.world
  pub calls : new.calls ≡ old.calls
  pub faults : old.faults ≤ new.faults
  pub failed : IsErrOf result Failed → Rose old.faults new.faults
  pub ok : IfOk result (λ x. IfSome old.world (λ w. x ≡ answer w))
