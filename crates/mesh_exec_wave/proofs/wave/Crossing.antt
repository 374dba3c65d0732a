-- Pools, jobs and a gate are shared by threads.
use denote.Ref.{NamedLft, ShrRef}
use denote.RattleType.{RattleType}
use denote.Param.Send.{IsSync, sendable, shr_sync, shr_slice_sync}
use denote.Param.SendFields.{declared_sync, as_row_sync}
use denote.Struct.Field.{row_field, shr_slice_field}
use Rattle.std.proofs.Crossing.{crosses}
use Rattle.std.proofs.alloc.Global.TheSendSync as allocators
use Rattle.std.proofs.vec.Vec.TheSendSync as vectors
use Rattle.mesh_list.proofs.boxes.Boxed.TheSendSync as boxes
use Rattle.mesh_list.proofs.seqs.Seq.TheSendSync as seqs
use Rattle.mesh_list.specs.contracts.seqs.Seq as Seq
use Rattle.mesh_base_values.proofs.times.Bounds.TheSendSync as intervals
use Rattle.mesh_base_values.proofs.values.Cell.TheSendSync as cells
use Rattle.mesh_base_values.proofs.values.ColType.TheSendSync as types
use Rattle.mesh_base_values.proofs.values.Name.TheSendSync as names
use Rattle.mesh_base.proofs.expressions.AggKind.TheSendSync as aggregates
use Rattle.mesh_base.proofs.expressions.Expr.TheLaws.TheKnot as knot
use Rattle.mesh_base.proofs.expressions.Func.TheSendSync as functions
use Rattle.mesh_base.proofs.expressions.Op.TheSendSync as operators
use Rattle.mesh_base.proofs.expressions.Var.TheSendSync as macros
use Rattle.mesh_base.proofs.jobs.Input.TheSendSync as inputs
use Rattle.mesh_base.proofs.queries.Join.TheSendSync as joins
use Rattle.mesh_base.proofs.queries.Rel.TheSendSync as relations
use Rattle.mesh_base.specs.contracts.jobs.Input as Input
use Rattle.mesh_base.specs.contracts.jobs.Job as Job
use Rattle.mesh_exec_wave.specs.contracts.wave.units.Guarded.{the_row, the_type}

ruleset plain = (
  allocators.the_field_sync,
  allocators.the_sync,
  intervals.the_field_sync,
  intervals.the_sync,
  cells.the_field_sync,
  cells.the_sync,
  types.the_field_sync,
  types.the_sync,
  names.the_field_sync,
  names.the_sync,
  aggregates.the_field_sync,
  aggregates.the_sync,
  functions.the_field_sync,
  functions.the_sync,
  operators.the_field_sync,
  operators.the_sync,
  macros.the_field_sync,
  macros.the_sync,
  joins.the_field_sync,
  joins.the_sync,
  relations.the_field_sync,
  relations.the_sync,
)

jobs : IsSync Job.the_row
jobs = search (plain, seqs.the_sync, boxes.the_sync, vectors.the_sync, crosses, knot.crosses, sendable) depth 60 fits 20000

pub guarded_sync : (κ : NamedLft) (G : RattleType) → IsSync G → IsSync (the_row κ G)
guarded_sync κ G s = declared_sync (the_type κ G) (
  as_row_sync (shr_slice_field κ (Seq.the_row Input.the_row) tt) (shr_slice_sync κ.mir κ.lft (Seq.the_row Input.the_row) (seqs.the_sync Input.the_row inputs.the_sync)),
  (as_row_sync (shr_slice_field κ Job.the_row tt) (shr_slice_sync κ.mir κ.lft Job.the_row jobs), (as_row_sync (row_field (ShrRef κ.mir κ.lft G)) (shr_sync κ.mir κ.lft G s), tt)),
)
