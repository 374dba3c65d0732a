use Rattle.std.proofs.Common.{sym, subst}
use Rattle.mesh_lineage.specs.Alike.{IsAlike}
use Rattle.mesh_trace.specs.Traces.{listed}
use Rattle.mesh_trace.proofs.listed.listed.Goals as goal

pub returns-clause-exactly : goal.returns-clause-exactly
returns-clause-exactly c = subst (λ l. IsAlike l (listed c.args.all)) (sym c.in_ok-made.ensures) c.in_ok-set.ensures.exactly
