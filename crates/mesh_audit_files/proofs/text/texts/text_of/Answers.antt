use Rattle.std.proofs.Common.{Err, sym, subst}
use Rattle.mesh_query_tokens.specs.Gives.{Refuses}
use Rattle.mesh_query_tokens.specs.declared.faults.ReadFault.{ReadFault}
use Rattle.mesh_query_tokens.specs.declared.faults.ReadFault.TheVariants as faults
use Rattle.mesh_audit_files.specs.text.Statement.{statement}
use Rattle.mesh_audit_files.specs.text.Texts.{text_of, whole}
use Rattle.mesh_audit_files.proofs.text.Refusing.{statement_refused}
use Rattle.mesh_audit_files.proofs.text.texts.text_of.Goals as goal

pub returns-in-Err : goal.returns-in-Err
returns-in-Err c =
    let taken = c.args.taken.now in
    let ts = c.args.tokens.now in (
      Err faults.Memory,
      tt,
      subst (λ (x : ReadFault). Refuses x (text_of taken ts c.args.token (Err faults.Memory))) (sym c.or_token.ensures)
          (statement_refused ts c.args.token c.in-Err.fault (statement taken ts) (whole c.args.token (Err faults.Memory)) c.in-Err.ensures),
    )
