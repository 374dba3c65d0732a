-- What a call that makes a plan leaves of a house, and why it stops.
use Rattle.std.specs.Prelude.{◌≡◌, ◌⊎◌, ◌≤◌, ◌<◌, length, Some, None, Err, Result, OnOk, OnErr, IfOk, IsErrOf}
use Rattle.std.specs.List.{Contains}
use Rattle.std.specs.Option.{ForSome}
use Rattle.mesh_list.specs.Counts.{risen, Rose}
use Rattle.mesh_base_values.specs.declared.values.Name.{Name}
use Rattle.mesh_base.specs.declared.jobs.Done.{Done}
use Rattle.mesh_base.specs.declared.rules.plans.Plan.{Plan}
use Rattle.mesh_query_tokens.specs.declared.faults.FaultKind.{FaultKind}
use Rattle.mesh_house.specs.declared.house.WhFail.{WhFail}
use Rattle.mesh_house.specs.declared.house.WhFail.TheVariants as house
use Rattle.mesh_house.specs.declared.world.World.{World}
use Rattle.mesh_house.specs.House.{Told}
use Rattle.mesh_house.specs.Runs.{IsRun, IsPrefixRun}
use Rattle.mesh_house.specs.Step.{run}
use Rattle.mesh_layer.specs.Shows.{Tells}
use Rattle.mesh_layer.specs.declared.faults.ShowFault.{ShowFault}
use Rattle.mesh_layer.specs.declared.faults.ShowFault.TheVariants as show
use Rattle.mesh_exec_works.specs.Plain.{models, opened}
use Rattle.mesh_exec_works.specs.Works.{Part, parts}
use Rattle.mesh_exec.specs.declared.faults.ExecFault.{ExecFault}
use Rattle.mesh_exec.specs.declared.faults.ExecFault.TheVariants as fault
use Rattle.mesh_exec.specs.Executed.{executed, outline}
use Rattle.mesh_exec.specs.Sources.{first_lack}
use Rattle.mesh_exec.specs.Steps.{IsLost}

abbrev pub of_house : WhFail → ExecFault
of_house house.Failed = fault.Warehouse
of_house house.Memory = fault.Memory

abbrev pub of_show : ShowFault → ExecFault
of_show (show.Dangling object) = fault.Dangling object
of_show show.Warehouse = fault.Warehouse
of_show show.Memory = fault.Memory

-- nothing was changed
abbrev pub IsUnmade : Told → Told → Type 0
IsUnmade old new = (new.world ≡ old.world) × (new.calls ≡ old.calls)

-- nothing was changed, or no source lacks anything and a prefix of the plan's changes was made
abbrev pub IsCut : Plan → World → Told → Told → Type 0
IsCut p w old new = IsUnmade old new ⊎ ((first_lack w.sources (parts p) ≡ None) × IsPrefixRun (executed p w) w old.calls new)

-- An object that a model reads is lost, and all changes of the models of smaller rank were made before.
pub record IsLostIn (p : Plan) (w v : World) (object : Name) : Type 0 where
  pub reached : IsLost (models p) (parts p) (run w (opened p)) v object
  pub lower : (q : Part) → Contains (parts p) q → q.node.rank < reached.part.node.rank → Contains reached.before q

-- A call that is to make a plan. It is refused for a source before anything is changed; it stops at an object that
-- dangles in the world that the changes before have reached; and a fault of the warehouse is told only where its
-- count rose.
pub record Executes (p : Plan) (old new : Told) (result : Result Done ExecFault) : Type 0 where
  pub faults : old.faults ≤ new.faults
  pub ok : OnOk result ((w : World) → Tells old w → (first_lack w.sources (parts p) ≡ None) × IsRun (executed p w) w old.calls new × (length (executed p w) ≡ length (outline p)))
  pub err : OnErr result ((w : World) → Tells old w → IsCut p w old new)
  pub unmade : (name : Name) (kind : FaultKind) → result ≡ Err (fault.Model name kind) → IsUnmade old new
  pub lacking : (name : Name) (kind : FaultKind) → result ≡ Err (fault.Model name kind) → (w : World) → Tells old w → first_lack w.sources (parts p) ≡ Some (record { model = name; kind = kind })
  pub dangling : (object : Name) → result ≡ Err (fault.Dangling object) → (w : World) → Tells old w → (first_lack w.sources (parts p) ≡ None) × ForSome new.world (λ v. IsLostIn p w v object)
  pub failed : IsErrOf result fault.Warehouse → Rose old.faults new.faults
  pub number : IfOk result (λ done. done ≡ record { units = length p.dues; changes = length (outline p) })
  pub calls : IfOk result (λ done. new.calls ≡ risen done.changes old.calls)
