use Rattle.std.proofs.Common.{Err, List, sym, subst}
use Rattle.mesh_base.specs.declared.definitions.Decl.{Decl}
use Rattle.mesh_cli_print.specs.declared.printed.refusals.Refusal.{Refusal}
use Rattle.mesh_cli_apply.specs.Tracing.{ImpactGives, ImpactOf, ReadsFolder, Says}
use Rattle.mesh_cli_apply.proofs.Traced.{impact_loaded, impact_unsourced}
use Rattle.mesh_cli_apply.proofs.tracing.affected_beside.Goals as goal

pub returns-in-Err : goal.returns-in-Err
returns-in-Err g c = λ before loads.
    subst (λ (r : Refusal). ReadsFolder (λ files. ImpactGives files c.args.dir.now c.args.name.now c.args.column.now) before (g.F.Folder.told c.read_sources.new.folder) (Err r))
    (sym c.of_load.ensures) (impact_unsourced c.args.dir.now c.args.name.now c.args.column.now before _ _ c.args.project.now loads c.in-Err.fault c.in-Err.ensures)

pub returns-in-Ok : goal.returns-in-Ok
returns-in-Ok g c = λ before loads. impact_loaded c.args.dir.now c.args.name.now c.args.column.now before _ _ c.args.project.now loads c.in-Ok.sources c.affected.result c.in-Ok.ensures
    (subst (λ (ds : List Decl). Says (ImpactOf ds c.args.project.now.nodes c.args.name.now c.args.column.now) c.affected.result) c.as_slice.ensures c.affected.ensures)
