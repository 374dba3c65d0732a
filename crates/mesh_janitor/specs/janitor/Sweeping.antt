-- What a call of the janitor leaves of a house.
use Rattle.std.specs.Prelude.{ℤ, List, length, Result, OnOk, OnErr, IsErrOf}
use Rattle.mesh_list.specs.Counts.{Rose}
use Rattle.mesh_house_book.specs.declared.book.Book.{Book}
use Rattle.mesh_house.specs.declared.world.Change.{Change}
use Rattle.mesh_house.specs.declared.house.WhFail.{WhFail}
use Rattle.mesh_house.specs.declared.house.WhFail.TheVariants.{Failed, Memory}
use Rattle.mesh_house.specs.House.{Told}
use Rattle.mesh_house.specs.Runs.{Ran, Stopped}
use Rattle.mesh_spec_changes.specs.Kept.{gone_snapshots, gone_tables, leaving, sweeps}
use Rattle.mesh_janitor.specs.declared.janitor.faults.Swept.{Swept}
use Rattle.mesh_janitor.specs.declared.janitor.faults.SweepFault.{SweepFault}
use Rattle.mesh_janitor.specs.declared.janitor.faults.SweepFault.TheVariants.{Warehouse, Memory as NoMemory}

-- a warehouse's failure, as the janitor tells it
abbrev pub as_fault : WhFail → SweepFault
as_fault Failed = Warehouse
as_fault Memory = NoMemory

-- how much goes of each kind, and how many changes that takes
abbrev pub numbers : Book → ℤ → Swept
numbers b t = record {
  environments = length (leaving t b.environments);
  objects = length (gone_tables b t);
  snapshots = length (gone_snapshots b t);
  changes = length (sweeps b t);
}

-- a call of the janitor that is to make a list of changes
pub record Sweeps {T : Type 0} (list : List Change) (old new : Told) (result : Result T SweepFault) : Type 0 where
  pub ok : OnOk result (Ran (λ w. list) old new)
  pub err : OnErr result (Stopped (λ w. list) old new)
  pub failed : IsErrOf result Warehouse → Rose old.faults new.faults
