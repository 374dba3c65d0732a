use Rattle.std.proofs.Common.{List, Ok, Err, refl, subst}
use Rattle.mesh_project_files.specs.Project.{AreFiles}
use Rattle.mesh_project_files.specs.declared.project.ModelFile.{ModelFile}
use Rattle.mesh_project_files.proofs.Asking.{asks_err, asks_then}
use Rattle.mesh_audit_files.specs.Sets.{AuditsIn, AuditsOf}
use Rattle.mesh_audit_files.proofs.Walking.{gives_itself}
use Rattle.mesh_audit_files.proofs.reading.read_audits.Goals as goal

pub returns-in_err-files : goal.returns-in_err-files
returns-in_err-files g c =
    let dir = c.args.dir.now in
    let p = c.args.p.now in
    let fault = c.in_err-files.field-0.0 in
    asks_err (λ fs. AreFiles fs dir) (λ fs. AuditsOf fs dir p) _ _ fault c.from_residual.result c.in_err-files.ensures.says c.from_residual.ensures.1 (λ fs read. (Err fault, read, gives_itself (Err fault)))

pub returns : goal.returns
returns g c =
    let dir = c.args.dir.now in
    let p = c.args.p.now in
    asks_then (λ fs. AreFiles fs dir) (λ fs. AuditsIn fs dir c.as_slice.result.now p) (λ fs. AuditsOf fs dir p) _ _ _ c.in_ok-files.files c.audits_in.result c.in_ok-files.ensures.says c.audits_in.ensures
    (λ fs read given. (Ok c.in_ok-files.files, read, subst (λ (models : List ModelFile). AuditsIn fs dir models p c.audits_in.result) c.as_slice.ensures given))
