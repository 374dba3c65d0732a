use Rattle.std.proofs.Common.{arith}
use Rattle.mesh_query.proofs.Steps.{started, noted, has_read, is_done}
use Rattle.mesh_query.proofs.Descent.{told, fails_in}
use Rattle.mesh_query.proofs.relations.relation.Goals as goal

pub returns-in_err-schema : goal.returns-in_err-schema
returns-in_err-schema c = λ n z.
    told _ _ c.from_residual.result c.from_residual.ensures (fails_in _ c.args.tokens.now _ (noted started) (c.in_err-schema.ensures n z))

pub returns-in_err-alias : goal.returns-in_err-alias
returns-in_err-alias c = λ n z.
    let name = c.in_ok-schema.ensures n z in
    told _ _ c.from_residual-in_err-alias.result c.from_residual-in_err-alias.ensures (fails_in _ c.args.tokens.now _ (has_read (c.in_ok-schema.schema, c.in_ok-schema.name) (noted started) name.1) (c.in_err-alias.ensures n z))

pub returns : goal.returns
returns c = λ n z.
    let name = c.in_ok-schema.ensures n z in
    let alias = c.in_ok-alias.ensures n z in
    rw c.place.ensures (omega (arith, name.0, alias.0), is_done (has_read c.in_ok-alias.alias (has_read (c.in_ok-schema.schema, c.in_ok-schema.name) (noted started) name.1) alias.1))
