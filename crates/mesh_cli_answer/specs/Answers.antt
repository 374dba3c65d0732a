-- What a command answers, and what it leaves of a house.
use Rattle.std.specs.Prelude.{◌≡◌, ◌⊎◌, ◌≤◌, Bool, true, false, List, [], Result, Ok, Err, IfErr, IsErrOf}
use Rattle.mesh_list.specs.Counts.{Rose}
use Rattle.mesh_house.specs.declared.house.WhFail.{WhFail}
use Rattle.mesh_house.specs.declared.house.WhFail.TheVariants as fails
use Rattle.mesh_house.specs.declared.world.Change.{Change}
use Rattle.mesh_house.specs.declared.world.World.{World}
use Rattle.mesh_house.specs.House.{Told}
use Rattle.mesh_house.specs.Runs.{IsPrefixRun, IsRun}
use Rattle.mesh_io.specs.Told.{FolderTold}
use Rattle.mesh_layer.specs.Shows.{Tells}
use Rattle.mesh_cli_print.specs.declared.printed.refusals.Refusal.{Refusal}
use Rattle.mesh_cli_print.specs.declared.printed.refusals.Refusal.TheVariants.{Warehouse, Memory, Input, ObjectMissing}

-- a warehouse's failure, as a command tells it
abbrev pub as_refusal : WhFail → Refusal
as_refusal fails.Failed = Warehouse
as_refusal fails.Memory = Memory

-- the warehouse or the outside failed, or memory was wanting: no world says when
abbrev pub is_fault : Refusal → Bool
is_fault Warehouse = true
is_fault Memory = true
is_fault Input = true
is_fault other = false

-- a refusal before any change: all but these, and but an object that may be found missing once changes are made
abbrev pub is_early : Refusal → Bool
is_early Warehouse = false
is_early Memory = false
is_early (ObjectMissing object) = false
is_early other = true

-- nothing was changed
pub record IsAlone (old new : Told) : Type 0 where
  pub world : new.world ≡ old.world
  pub calls : new.calls ≡ old.calls

-- all of a list that the command has for the world was made, one call each; where it is refused, nothing or a prefix
-- of it
abbrev pub IsMade : {T : Type 0} → (List Change → Type 0) → World → Told → Told → Result T Refusal → Type 0
IsMade makes w old new (Ok x) = (list : List Change) × makes list × IsRun list w old.calls new
IsMade makes w old new (Err r) = IsAlone old new ⊎ ((list : List Change) × makes list × IsPrefixRun list w old.calls new)

-- what is answered is what there is to answer, unless something failed or memory was wanting
abbrev pub IsGiven : {T : Type 0} → (Result T Refusal → Type 0) → Result T Refusal → Type 0
IsGiven gives (Ok x) = gives (Ok x)
IsGiven gives (Err r) = is_fault r ≡ false → gives (Err r)

-- A command that makes such a list of changes of the world that the house tells, and gives such an answer there. The
-- warehouse is told to have failed only where its count of faults rose, and the outside only where this stands.
pub record Answers {T : Type 0} (outside : Type 0) (makes : World → List Change → Type 0) (gives : World → Result T Refusal → Type 0) (old new : Told) (result : Result T Refusal) : Type 0 where
  pub faults : old.faults ≤ new.faults
  pub failed : IsErrOf result Warehouse → Rose old.faults new.faults
  pub beyond : IsErrOf result Input → outside
  pub early : IfErr result (λ r. is_early r ≡ true → IsAlone old new)
  pub made : (w : World) → Tells old w → IsMade (makes w) w old new result
  pub given : (w : World) → Tells old w → IsGiven (gives w) result

-- the folder stays as it is, and a count of its faults never falls
pub record IsAsked (old new : FolderTold) : Type 0 where
  pub files : new.files ≡ old.files
  pub faults : old.faults ≤ new.faults

-- a command that changes nothing
abbrev pub no_changes : World → List Change → Type 0
no_changes w list = list ≡ []
