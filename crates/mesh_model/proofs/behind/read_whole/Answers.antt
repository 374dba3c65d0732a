use Rattle.std.proofs.Common.{Err}
use Rattle.mesh_model_statement.specs.Statement.{statement}
use Rattle.mesh_query_tokens.specs.declared.faults.ReadFault.TheVariants as faults
use Rattle.mesh_model.proofs.Refusing.{refused_on, query_refused}
use Rattle.mesh_model.proofs.behind.read_whole.Goals as goal

pub returns-in-Err : goal.returns-in-Err
returns-in-Err c = (Err faults.Memory, tt, refused_on c.in-Err.fault (statement c.args.file.now c.args.tokens.now) _ (rw c.as_slice.ensures at c.in-Err.ensures))

pub returns-in-Err-body : goal.returns-in-Err-body
returns-in-Err-body c =
    let body = c.in-Err-body.ensures in
    query_refused c.in-Err-body.fault c.args.file.now c.args.tokens.now _ body.0 (rw c.as_slice.ensures at c.in-Ok.ensures) body.1 (rw c.is_seed.ensures at body.2)
