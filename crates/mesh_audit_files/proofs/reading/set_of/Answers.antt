use Rattle.std.proofs.Common.{List, Ok, Err, map, refl, subst}
use Rattle.mesh_audit_files.specs.declared.files.AuditFile.{AuditFile}
use Rattle.mesh_audit_files.specs.Files.{AreAuditFiles}
use Rattle.mesh_audit_files.specs.Listing.{plain}
use Rattle.mesh_audit_files.specs.Sets.{AreTaken, IsSetOf}
use Rattle.mesh_audit_files.proofs.Walking.{gives_itself}
use Rattle.mesh_project_files.proofs.Asking.{asks_alone, asks_err}
use Rattle.mesh_audit_files.proofs.reading.set_of.Goals as goal

pub returns-in-Ok : goal.returns-in-Ok
returns-in-Ok g c =
    let dir = c.args.dir.now in
    let known = c.args.known.now in
    let all = map plain c.args.all.now in
    asks_alone (λ fs. AreAuditFiles fs dir known all) (λ fs. IsSetOf fs dir known all) _ _ c.in-Ok.files c.take_all.result c.in-Ok.ensures c.take_all.ensures.alone
    (λ fs read. (Ok c.in-Ok.files, read, subst (λ (files : List AuditFile). AreTaken known all files c.take_all.result) c.as_slice.ensures c.take_all.ensures.says))

pub returns-in-Err : goal.returns-in-Err
returns-in-Err g c =
    let dir = c.args.dir.now in
    let known = c.args.known.now in
    let all = map plain c.args.all.now in
    asks_err (λ fs. AreAuditFiles fs dir known all) (λ fs. IsSetOf fs dir known all) _ _ c.in-Err.fault (Err c.in-Err.fault) c.in-Err.ensures refl (λ fs read. (Err c.in-Err.fault, read, gives_itself (Err c.in-Err.fault)))
