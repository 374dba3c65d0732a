use Rattle.std.proofs.Common.{Ok, Err, refl}
use Rattle.mesh_query_tokens.specs.declared.faults.ReadFault.TheVariants as faults
use Rattle.mesh_cli_look.specs.asking.Fetched.{fetched}
use Rattle.mesh_cli_look.proofs.asking.Looking.{later, stops}
use Rattle.mesh_cli_look.proofs.asking.fetched.fetchdf.Goals as goal

pub returns-in_err-b : goal.returns-in_err-b
returns-in_err-b g c = (
  Err faults.Memory,
  tt,
  stops (λ w. Ok w.book) (λ w b. fetched b c.args.env.now c.args.query.now (Err faults.Memory) w) _ _ _ _ c.in_err-b.ensures c.from_residual.ensures.1,
)

pub returns : goal.returns
returns g c = (
  c.fetched.ensures.0,
  c.fetched.ensures.1,
  later (λ w. Ok w.book) (λ w b. fetched b c.args.env.now c.args.query.now c.fetched.ensures.0 w) _ _ _ _ _ _ c.in_ok-b.ensures c.fetched.ensures.2 (λ w is. refl),
)
