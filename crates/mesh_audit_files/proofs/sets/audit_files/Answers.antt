use Rattle.std.proofs.Common.{◌≡◌, List, [], Ok, Err, map, sym, ap, subst, ◌∙◌}
use Rattle.mesh_project_files.specs.Loading.{Gives}
use Rattle.mesh_project_files.proofs.Asking.{asks_err, asks_then}
use Rattle.mesh_audit_files.specs.Files.{AreAuditFiles, IsFileAdded, audit_paths}
use Rattle.mesh_audit_files.specs.Listing.{plain}
use Rattle.mesh_audit_files.specs.Walks.{Along}
use Rattle.mesh_audit_files.proofs.Unknown.{paths_refused}
use Rattle.mesh_audit_files.proofs.sets.audit_files.Goals as goal

pub returns-in_err-paths : goal.returns-in_err-paths
returns-in_err-paths g c =
    let dir = c.args.dir.now in
    let known = c.args.known.now in
    let all = map plain c.args.all.now in
    let fault = c.in_err-paths.field-0.0 in
    asks_err (λ fs r. Gives r (Ok (audit_paths fs dir))) (λ fs. AreAuditFiles fs dir known all) _ _ fault c.from_residual.result c.in_err-paths.ensures c.from_residual.ensures.1
    (λ fs is. paths_refused fs dir known all (audit_paths fs dir) fault is)

pub returns : goal.returns
returns g c =
    let dir = c.args.dir.now in
    let known = c.args.known.now in
    let all = map plain c.args.all.now in
    asks_then (λ fs r. Gives r (Ok (audit_paths fs dir))) (λ fs. Along (IsFileAdded fs dir known all) [] c.as_slice.result.now) (λ fs. AreAuditFiles fs dir known all) _ _ _
    c.in_ok-paths.paths c.files_at.result c.in_ok-paths.ensures c.files_at.ensures
    (λ fs is walked.
    let listed : audit_paths fs dir ≡ c.in_ok-paths.paths = cc is in
    subst (λ paths. Along (IsFileAdded fs dir known all) [] paths c.files_at.result) (c.as_slice.ensures ∙ sym listed) walked)
