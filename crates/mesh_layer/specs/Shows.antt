-- What a call that shows something answers: what a world shows, or what dangles in it.
use Rattle.std.specs.Prelude.{◌≡◌, ◌≤◌, IsTrue, Some, None, Result, IfOk, IsErrOf}
use Rattle.std.specs.declared.option.Option.{Option}
use Rattle.mesh_list.specs.Counts.{Rose}
use Rattle.mesh_base_values.specs.declared.values.Name.{Name}
use Rattle.mesh_house.specs.declared.house.WhFail.{WhFail}
use Rattle.mesh_house.specs.declared.house.WhFail.TheVariants as house
use Rattle.mesh_house.specs.declared.world.World.{World}
use Rattle.mesh_house.specs.House.{Told}
use Rattle.mesh_house.specs.Sources.{are_plain}
use Rattle.mesh_layer.specs.declared.faults.ShowFault.{ShowFault}
use Rattle.mesh_layer.specs.declared.faults.ShowFault.TheVariants as fault

-- a fault of the warehouse as one of showing
abbrev pub of_house : WhFail → ShowFault
of_house house.Failed = fault.Warehouse
of_house house.Memory = fault.Memory

-- the house tells this world, in which sources have names that sources may have
pub record Tells (told : Told) (w : World) : Type 0 where
  pub world : told.world ≡ Some w
  pub plain : IsTrue (are_plain w.sources)

-- nothing is changed
pub record IsUntouched (old new : Told) : Type 0 where
  pub world : new.world ≡ old.world
  pub calls : new.calls ≡ old.calls
  pub faults : old.faults ≤ new.faults

-- Where the house tells its world, what is answered is what the world shows, and what dangles is what is lost there
-- first: then nothing is shown. A fault of the warehouse is told only where its count rose.
pub record Shows {T : Type 0} (shown : World → Option T) (lost : World → Option Name) (old new : Told) (result : Result T ShowFault) : Type 0 where
  pub untouched : IsUntouched old new
  pub ok : IfOk result (λ x. (w : World) → Tells old w → shown w ≡ Some x)
  pub dangling : (object : Name) → IsErrOf result (fault.Dangling object) → (w : World) → Tells old w → (shown w ≡ None) × (lost w ≡ Some object)
  pub failed : IsErrOf result fault.Warehouse → Rose old.faults new.faults

-- The same of a part of such a call: where something is given of the world, what is answered is so found of it.
pub record Finds {T : Type 0} (given : World → Type 0) (found : World → T → Type 0) (lost : World → Option Name) (old new : Told) (result : Result T ShowFault) : Type 0 where
  pub untouched : IsUntouched old new
  pub ok : IfOk result (λ x. (w : World) → old.world ≡ Some w → given w → found w x)
  pub dangling : (object : Name) → IsErrOf result (fault.Dangling object) → (w : World) → old.world ≡ Some w → given w → lost w ≡ Some object
  pub failed : IsErrOf result fault.Warehouse → Rose old.faults new.faults
