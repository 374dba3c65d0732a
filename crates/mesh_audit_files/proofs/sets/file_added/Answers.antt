use Rattle.std.proofs.Common.{◌≡◌, List, Ok, Err, Result, map, sym, ap, subst, ◌∙◌}
use Rattle.std.specs.Prelude.{codes}
use Rattle.mesh_project_files.specs.Loading.{Gives}
use Rattle.mesh_project_files.specs.Models.{file_within}
use Rattle.mesh_project_files.specs.Places.{under}
use Rattle.mesh_project_files.proofs.Asking.{asks_alone, asks_err, asks_memory}
use Rattle.mesh_audit_files.specs.Files.{IsContentAdded, IsFileAdded}
use Rattle.mesh_audit_files.specs.Listing.{plain}
use Rattle.mesh_audit_files.specs.Walks.{Then}
use Rattle.mesh_audit_files.proofs.Unknown.{file_refused, file_unknown}
use Rattle.mesh_audit_files.proofs.sets.file_added.Goals as goal

pub returns-in_err-file : goal.returns-in_err-file
returns-in_err-file g c =
    let dir = c.args.dir.now in
    let known = c.args.known.now in
    let all = map plain c.args.all.now in
    asks_memory (λ fs. IsFileAdded fs dir known all c.args.done c.args.path.now) _ c.from_residual.result c.from_residual.ensures.1 (λ fs. file_unknown fs dir known all c.args.done c.args.path.now)

pub returns-in_err-content : goal.returns-in_err-content
returns-in_err-content g c =
    let dir = c.args.dir.now in
    let known = c.args.known.now in
    let all = map plain c.args.all.now in
    let fault = c.in_err-content.field-0.0 in
    let here : c.in_ok-file.file ≡ under (codes "audits") c.args.path.now = c.in_ok-file.ensures ∙ ap (under (codes "audits")) c.as_slice.ensures in
    asks_err (λ fs r. Gives r (file_within fs dir c.in_ok-file.file (codes "file") 1048576)) (λ fs. IsFileAdded fs dir known all c.args.done c.args.path.now) _ _ fault c.from_residual-in_err-content.result c.in_err-content.ensures c.from_residual-in_err-content.ensures.1
    (λ fs is. file_refused fs dir known all c.args.done c.args.path.now fault (subst (λ file. Gives (Err fault) (file_within fs dir file (codes "file") 1048576)) here is))

pub returns : goal.returns
returns g c =
    let dir = c.args.dir.now in
    let known = c.args.known.now in
    let all = map plain c.args.all.now in
    let done = c.args.done in
    let here : c.in_ok-file.file ≡ under (codes "audits") c.args.path.now = c.in_ok-file.ensures ∙ ap (under (codes "audits")) c.as_slice.ensures in
    asks_alone (λ fs r. Gives r (file_within fs dir c.in_ok-file.file (codes "file") 1048576)) (λ fs. IsFileAdded fs dir known all done c.args.path.now) _ _ c.in_ok-content.content c.content_added.result c.in_ok-content.ensures c.content_added.ensures.alone
    (λ fs is.
    subst (λ file. Then (file_within fs dir file (codes "file") 1048576) (λ content. IsContentAdded known all done file content c.content_added.result) c.content_added.result) here
    (subst (λ (r : Result _ _). Then r (λ content. IsContentAdded known all done c.in_ok-file.file content c.content_added.result) c.content_added.result) (sym is) c.content_added.ensures.says))
