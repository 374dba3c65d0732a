-- What reading records comes to, and what it leaves of a keeper.
use Rattle.std.specs.Prelude.{◌≡◌, ◌≤◌, true, List, Some, None, Result, Ok, Err, OnOk, IfOk, IfSome, IsErrOf}
use Rattle.std.specs.declared.option.Option.{Option}
use Rattle.mesh_list.specs.Counts.{Rose}
use Rattle.mesh_list.specs.Keyed.{ascends}
use Rattle.mesh_house.specs.declared.world.World.{World}
use Rattle.mesh_keep.specs.declared.kept.Kept.{Kept}
use Rattle.mesh_keep.specs.Keeping.{KeeperTold, TellsOrdered}
use Rattle.mesh_keep.specs.Places.{kept_place, place_cmp}
use Rattle.mesh_keep.specs.Said.{known_world}
use Rattle.mesh_keep_house.specs.declared.stored.fault.LoadFail.{LoadFail}
use Rattle.mesh_keep_house.specs.declared.stored.fault.LoadFail.TheVariants.{Failed, Memory, Unread}

-- a refusal without a keeper: nothing is said there, unless memory ran out
abbrev pub Lacks : {A : Type 0} → Option A → LoadFail → Type 0
Lacks said Failed = ⊥
Lacks said Memory = Unit {0}
Lacks said Unread = said ≡ None

-- what was taken is what is said
abbrev pub Takes : {A : Type 0} → Option A → Result A LoadFail → Type 0
Takes said (Ok x) = said ≡ Some x
Takes said (Err fail) = Lacks said fail

-- records were read: the keeper failed only where its count rose, and where it tells its records, what came is what
-- they say, and a record wasn't read only where they say nothing
pub record Loads {A : Type 0} (said : List Kept → Option A) (old new : KeeperTold) (result : Result A LoadFail) : Type 0 where
  pub records : new.records ≡ old.records
  pub faults : old.faults ≤ new.faults
  pub failed : IsErrOf result Failed → Rose old.faults new.faults
  pub ordered : OnOk result (TellsOrdered new)
  pub ok : IfOk result (λ x. IfSome old.records (λ kept. said kept ≡ Some x))
  pub unread : IsErrOf result Unread → IfSome old.records (λ kept. said kept ≡ None)

-- records in order, which say this world
abbrev pub Say : List Kept → World → Type 0
Say kept w = (ascends place_cmp kept_place kept ≡ true) × (known_world kept ≡ Some w)

-- the same, where the records are told
abbrev pub AreSaid : Option (List Kept) → World → Type 0
AreSaid records w = IfSome records (λ kept. Say kept w)
