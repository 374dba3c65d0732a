use Rattle.std.proofs.Common.{List, Err, map, ap, subst, ◌∙◌}
use Rattle.mesh_query_tokens.specs.declared.faults.ReadFault.TheVariants as faults
use Rattle.mesh_audit_files.specs.text.Texts.{IsAuditRead}
use Rattle.mesh_audit_files.specs.Files.{audit_name}
use Rattle.mesh_audit_files.specs.Listing.{plain}
use Rattle.mesh_audit_files.proofs.Unknown.{text_refused}
use Rattle.mesh_audit_files.proofs.Walking.{memory_gives}
use Rattle.mesh_audit_files.proofs.sets.text_added.Goals as goal

pub returns-in_err-taken-clause-says : goal.returns-in_err-taken-clause-says
returns-in_err-taken-clause-says c = (Err faults.Memory, (Err faults.Memory, tt, tt), memory_gives _ _ c.from_residual.ensures.1)

pub returns-in-Err-clause-says : goal.returns-in-Err-clause-says
returns-in-Err-clause-says c =
    text_refused c.args.known.now (map plain c.args.all.now) c.args.done c.args.file c.args.bytes.now c.in-Err.fault c.read_audit.result
    (subst (λ (bytes : List _). IsAuditRead (map audit_name c.args.done) bytes c.read_audit.result) c.as_slice-3.ensures
    (subst (λ (taken : List (List _)). IsAuditRead taken c.as_slice-3.result.now c.read_audit.result) (c.as_slice-2.ensures ∙ c.in_ok-taken.ensures ∙ ap (map audit_name) c.as_slice.ensures) c.read_audit.ensures))
    c.in-Err.ensures.gives
