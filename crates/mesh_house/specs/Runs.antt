-- What a call that makes a list of changes leaves of a house, whole or stopped.
use Rattle.std.specs.Prelude.{◌≡◌, ℕ, ◌+◌, ◌≤◌, List, [], ◌∷◌, ◌++◌, length, Some, Result, OnOk, OnErr, IsErrOf}
use Rattle.std.specs.Option.{ForSome}
use Rattle.mesh_list.specs.Counts.{risen, Rose}
use Rattle.mesh_house.specs.declared.world.World.{World}
use Rattle.mesh_house.specs.declared.world.Change.{Change}
use Rattle.mesh_house.specs.declared.house.WhFail.{WhFail}
use Rattle.mesh_house.specs.declared.house.WhFail.TheVariants.{Failed}
use Rattle.mesh_house.specs.Step.{step, run}
use Rattle.mesh_house.specs.House.{Told}

-- all of a list was made, one call each
pub record IsRun (list : List Change) (w : World) (before : ℕ) (new : Told) : Type 0 where
  pub world : new.world ≡ Some (run w list)
  pub calls : new.calls ≡ risen (length list) before

-- A prefix of the list was made. Those in it that are sure were called for without a failure. At most one call more was
-- made, for the next of the list: it failed, and had its effect, or had none.
pub record IsPrefixRun (list : List Change) (w : World) (before : ℕ) (new : Told) : Type 0 where
  pub made : List Change
  pub rest : List Change
  pub parts : list ≡ made ++ rest
  pub world : new.world ≡ Some (run w made)
  pub sure : List Change
  pub tail : List Change
  pub cut : made ≡ sure ++ tail
  pub more : ℕ
  pub one : length tail + more ≤ 1
  pub next : more ≤ length rest
  pub calls : new.calls ≡ risen (length made + more) before

-- where the house tells its world, the list for that world was made
pub record Ran (list : World → List Change) (old new : Told) : Type 0 where
  pub faults : old.faults ≤ new.faults
  pub told : ForSome old.world (λ w. IsRun (list w) w old.calls new)

-- where the house tells its world, a prefix of the list for that world was made
pub record Stopped (list : World → List Change) (old new : Told) : Type 0 where
  pub faults : old.faults ≤ new.faults
  pub told : ForSome old.world (λ w. IsPrefixRun (list w) w old.calls new)

-- a call that is to make a list of changes
pub record Makes {T : Type 0} (list : World → List Change) (old new : Told) (result : Result T WhFail) : Type 0 where
  pub ok : OnOk result (Ran list old new)
  pub err : OnErr result (Stopped list old new)
  pub failed : IsErrOf result Failed → Rose old.faults new.faults

-- P holds of each world along the run of a list
abbrev pub Along : (World → Type 0) → World → List Change → Type 0
Along P w [] = P w
Along P w (c ∷ cs) = P w × Along P (step w c) cs
