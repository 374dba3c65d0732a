-- What a keeper tells of itself, and what its calls do.
use Rattle.std.specs.Prelude.{◌≡◌, ◌⊎◌, true, ℕ, ◌≤◌, List, Result, OnOk, IfOk, IfSome, IsErrOf}
use Rattle.std.specs.Option.{option_map}
use Rattle.std.specs.declared.option.Option.{Option}
use Rattle.mesh_list.specs.Counts.{Rose}
use Rattle.mesh_list.specs.Keyed.{ascends}
use Rattle.mesh_keep.specs.declared.keeper.KeepFail.{KeepFail}
use Rattle.mesh_keep.specs.declared.keeper.KeepFail.TheVariants.{Failed, Memory}
use Rattle.mesh_keep.specs.declared.kept.Kept.{Kept}
use Rattle.mesh_keep.specs.declared.kept.Write.{Write}
use Rattle.mesh_keep.specs.Places.{kept_place, place_cmp, written}

-- its records, in ascending order of their places, where it tells them, and how many faults came
pub record KeeperTold : Type 0 where
  pub records : Option (List Kept)
  pub faults : ℕ

-- the records that it tells are in order
abbrev pub TellsOrdered : KeeperTold → Type 0
TellsOrdered told = IfSome told.records (λ kept. ascends place_cmp kept_place kept ≡ true)

-- something was read
pub record Looks {T : Type 0} (answer : List Kept → T) (old new : KeeperTold) (result : Result T KeepFail) : Type 0 where
  pub records : new.records ≡ old.records
  pub faults : old.faults ≤ new.faults
  pub failed : IsErrOf result Failed → Rose old.faults new.faults
  pub ordered : TellsOrdered new
  pub ok : IfOk result (λ x. IfSome old.records (λ kept. x ≡ answer kept))

-- a list of writes was asked for: all of them were made, or none
pub record Writing {T : Type 0} (writes : List Write) (old new : KeeperTold) (result : Result T KeepFail) : Type 0 where
  pub faults : old.faults ≤ new.faults
  pub ordered : TellsOrdered new
  pub ok : OnOk result (new.records ≡ option_map (λ kept. written kept writes) old.records)
  pub failed : IsErrOf result Failed → Rose old.faults new.faults × ((new.records ≡ old.records) ⊎ (new.records ≡ option_map (λ kept. written kept writes) old.records))
  pub memory : IsErrOf result Memory → new.records ≡ old.records
