-- What the models of a plan make of a house, one after another.
use Rattle.std.specs.Prelude.{◌≡◌, ◌<◌, ◌≤◌, ℕ, List, [], ◌∷◌, ◌++◌, length, take, Some, None, Err, Result, OnOk, OnErr, IfOk, IsErrOf}
use Rattle.std.specs.Option.{ForSome}
use Rattle.std.specs.declared.option.Option.{Option}
use Rattle.mesh_list.specs.Counts.{risen, Rose}
use Rattle.mesh_base_values.specs.declared.values.Name.{Name}
use Rattle.mesh_base.specs.declared.rules.plans.Plan.{Plan}
use Rattle.mesh_query_tokens.specs.declared.faults.FaultKind.{FaultKind}
use Rattle.mesh_house.specs.declared.world.Change.{Change}
use Rattle.mesh_house.specs.declared.world.World.{World}
use Rattle.mesh_house.specs.House.{Told}
use Rattle.mesh_house.specs.Runs.{IsRun, IsPrefixRun}
use Rattle.mesh_house.specs.Step.{run}
use Rattle.mesh_spec_changes.specs.due.Plans.{Planned}
use Rattle.mesh_layer.specs.Shows.{IsUntouched, Tells}
use Rattle.mesh_exec_works.specs.Lost.{lost_part}
use Rattle.mesh_exec_works.specs.Plain.{making, models, opened}
use Rattle.mesh_exec_works.specs.Works.{Part, parts}
use Rattle.mesh_exec.specs.declared.faults.ExecFault.{ExecFault}
use Rattle.mesh_exec.specs.declared.faults.ExecFault.TheVariants as fault
use Rattle.mesh_exec.specs.declared.making.Next.{Next}
use Rattle.mesh_exec.specs.Executed.{executed, executes, outline, part_outline, parts_outline}
use Rattle.mesh_exec.specs.Sources.{first_lack}

-- all of a list, where there is one
abbrev pub or_nothing : Option (List Change) → List Change
or_nothing None = []
or_nothing (Some list) = list

-- all of a list was made, where there is one; it has so many changes, and leaves the sources
pub record IsTried (list : Option (List Change)) (number : ℕ) (w : World) (before : ℕ) (new : Told) : Type 0 where
  pub made : List Change
  pub is : list ≡ Some made
  pub ran : IsRun made w before new
  pub sources : (run w made).sources ≡ w.sources
  pub many : length made ≡ number

-- a call that is to make a list, of which there is none where an object is lost
pub record Tries (list : World → Option (List Change)) (lost : World → Option Name) (many : ℕ) (old new : Told) (result : Result ℕ ExecFault) : Type 0 where
  pub faults : old.faults ≤ new.faults
  pub ok : OnOk result ((w : World) → Tells old w → IsTried (list w) many w old.calls new)
  pub err : OnErr result ((w : World) → Tells old w → IsPrefixRun (or_nothing (list w)) w old.calls new)
  pub unmade : (name : Name) (kind : FaultKind) → result ≡ Err (fault.Model name kind) → ⊥
  pub dangling : (object : Name) → result ≡ Err (fault.Dangling object) → (w : World) → Tells old w → ForSome new.world (λ v. (v ≡ w) × (lost v ≡ Some object))
  pub failed : IsErrOf result fault.Warehouse → Rose old.faults new.faults
  pub number : IfOk result (λ made. made ≡ many)
  pub calls : IfOk result (λ made. new.calls ≡ risen made old.calls)

-- all of a model's changes were made, and those of the other models come next
pub record IsPartMade (all : List Planned) (p : Part) (w : World) (before : ℕ) (new : Told) : Type 0 where
  pub list : List Change
  pub first : (rest : List Part) → executes all (p ∷ rest) w ≡ list ++ executes all rest (run w list)
  pub made : IsRun list w before new
  pub sources : (run w list).sources ≡ w.sources
  pub many : length list ≡ length (part_outline all p)

-- A model reads an object that is lost in the world that is reached once the models before it were made and filled,
-- none of which read such an object, and its own object was made.
pub record IsLost (all : List Planned) (parts : List Part) (w v : World) (object : Name) : Type 0 where
  pub before : List Part
  pub part : Part
  pub after : List Part
  pub split : parts ≡ before ++ part ∷ after
  pub whole : length (executes all before w) ≡ length (parts_outline all before)
  pub world : v ≡ run w (executes all before w ++ making all part)
  pub lost : lost_part v all part ≡ Some object

-- a call that is to make and fill the object of a model, before the other ones
pub record MakesPart (all : List Planned) (p : Part) (old new : Told) (result : Result ℕ ExecFault) : Type 0 where
  pub faults : old.faults ≤ new.faults
  pub ok : OnOk result ((w : World) → Tells old w → IsPartMade all p w old.calls new)
  pub err : OnErr result ((w : World) → Tells old w → (rest : List Part) → IsPrefixRun (executes all (p ∷ rest) w) w old.calls new)
  pub unmade : (name : Name) (kind : FaultKind) → result ≡ Err (fault.Model name kind) → ⊥
  pub dangling : (object : Name) → result ≡ Err (fault.Dangling object) → (w : World) → Tells old w → ForSome new.world (λ v. (v ≡ run w (making all p)) × (lost_part v all p ≡ Some object))
  pub failed : IsErrOf result fault.Warehouse → Rose old.faults new.faults
  pub number : IfOk result (λ made. made ≡ length (part_outline all p))
  pub calls : IfOk result (λ made. new.calls ≡ risen made old.calls)

-- a call that is to make and fill the objects of some models
pub record MakesParts (all : List Planned) (parts : List Part) (old new : Told) (result : Result ℕ ExecFault) : Type 0 where
  pub faults : old.faults ≤ new.faults
  pub ok : OnOk result ((w : World) → Tells old w → IsRun (executes all parts w) w old.calls new × (length (executes all parts w) ≡ length (parts_outline all parts)))
  pub err : OnErr result ((w : World) → Tells old w → IsPrefixRun (executes all parts w) w old.calls new)
  pub unmade : (name : Name) (kind : FaultKind) → result ≡ Err (fault.Model name kind) → ⊥
  pub dangling : (object : Name) → result ≡ Err (fault.Dangling object) → (w : World) → Tells old w → ForSome new.world (λ v. IsLost all parts w v object)
  pub failed : IsErrOf result fault.Warehouse → Rose old.faults new.faults
  pub number : IfOk result (λ made. made ≡ length (parts_outline all parts))
  pub calls : IfOk result (λ made. new.calls ≡ risen made old.calls)

-- some models were made, and the others come next
pub record Reached (all : List Planned) (done : List Part) (w : World) (before : ℕ) (now : Told) : Type 0 where
  pub list : List Change
  pub first : (more : List Part) → executes all (done ++ more) w ≡ list ++ executes all more (run w list)
  pub made : IsRun list w before now
  pub sources : (run w list).sources ≡ w.sources
  pub many : length list ≡ length (parts_outline all done)

-- a call that is to make and fill the objects of the first of some models
pub record MakesNext (all : List Planned) (parts : List Part) (old new : Told) (result : Result Next ExecFault) : Type 0 where
  pub faults : old.faults ≤ new.faults
  pub any : IfOk result (λ next. 0 < next.models)
  pub within : IfOk result (λ next. next.models ≤ length parts)
  pub ok : IfOk result (λ next. (w : World) → Tells old w → Reached all (take next.models parts) w old.calls new)
  pub err : OnErr result ((w : World) → Tells old w → IsPrefixRun (executes all parts w) w old.calls new)
  pub unmade : (name : Name) (kind : FaultKind) → result ≡ Err (fault.Model name kind) → ⊥
  pub dangling : (object : Name) → result ≡ Err (fault.Dangling object) → (w : World) → Tells old w → ForSome new.world (λ v. IsLost all parts w v object)
  pub failed : IsErrOf result fault.Warehouse → Rose old.faults new.faults
  pub number : IfOk result (λ next. next.changes ≡ length (parts_outline all (take next.models parts)))
  pub calls : IfOk result (λ next. new.calls ≡ risen next.changes old.calls)

-- a call that is to look at the sources of some models
pub record Looks {T : Type 0} (parts : List Part) (old new : Told) (result : Result T ExecFault) : Type 0 where
  pub untouched : IsUntouched old new
  pub ok : OnOk result ((w : World) → Tells old w → first_lack w.sources parts ≡ None)
  pub lacking : (name : Name) (kind : FaultKind) → result ≡ Err (fault.Model name kind) → (w : World) → Tells old w → first_lack w.sources parts ≡ Some (record { model = name; kind = kind })
  pub dangling : (object : Name) → result ≡ Err (fault.Dangling object) → (w : World) → Tells old w → ⊥
  pub failed : IsErrOf result fault.Warehouse → Rose old.faults new.faults

-- a call that is to make all changes of a plan
pub record MakesPlan (p : Plan) (old new : Told) (result : Result ℕ ExecFault) : Type 0 where
  pub faults : old.faults ≤ new.faults
  pub ok : OnOk result ((w : World) → Tells old w → IsRun (executed p w) w old.calls new × (length (executed p w) ≡ length (outline p)))
  pub err : OnErr result ((w : World) → Tells old w → IsPrefixRun (executed p w) w old.calls new)
  pub unmade : (name : Name) (kind : FaultKind) → result ≡ Err (fault.Model name kind) → ⊥
  pub dangling : (object : Name) → result ≡ Err (fault.Dangling object) → (w : World) → Tells old w → ForSome new.world (λ v. IsLost (models p) (parts p) (run w (opened p)) v object)
  pub failed : IsErrOf result fault.Warehouse → Rose old.faults new.faults
  pub number : IfOk result (λ made. made ≡ length (outline p))
  pub calls : IfOk result (λ made. new.calls ≡ risen made old.calls)
