use Rattle.std.proofs.Common.{List, map, sym, ap, subst, ◌∙◌}
use Rattle.mesh_resolve.specs.declared.known.Known.{Known}
use Rattle.mesh_project_files.specs.Loading.{AsksAs}
use Rattle.mesh_project_files.proofs.Asking.{asks_memory}
use Rattle.mesh_audit_files.specs.Listing.{plain}
use Rattle.mesh_audit_files.specs.Listings.{Listed, all_listed}
use Rattle.mesh_audit_files.specs.Queries.{known_in}
use Rattle.mesh_audit_files.specs.Sets.{AuditsIn, IsSetOf}
use Rattle.mesh_audit_files.proofs.Unknown.{set_unknown}
use Rattle.mesh_audit_files.proofs.reading.audits_in.Goals as goal

pub returns-in_err-known : goal.returns-in_err-known
returns-in_err-known g c =
    let dir = c.args.dir.now in
    let p = c.args.p.now in
    let models = c.args.models.now in
    asks_memory (λ fs. AuditsIn fs dir models p) _ c.from_residual.result c.from_residual.ensures.1 (λ fs. set_unknown fs dir (known_in p.nodes) (all_listed models p.nodes))

pub returns-in_err-all : goal.returns-in_err-all
returns-in_err-all g c =
    let dir = c.args.dir.now in
    let p = c.args.p.now in
    let models = c.args.models.now in
    asks_memory (λ fs. AuditsIn fs dir models p) _ c.from_residual-in_err-all.result c.from_residual-in_err-all.ensures.1 (λ fs. set_unknown fs dir (known_in p.nodes) (all_listed models p.nodes))
