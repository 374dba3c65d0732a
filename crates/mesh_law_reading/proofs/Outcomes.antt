-- A query or a fault, and never both.
use Rattle.std.proofs.Common.{◌≡◌, ℕ, Ok, Err}
use Rattle.mesh_base.specs.declared.queries.Query.{Query}
use Rattle.mesh_query_grammar.specs.declared.surface.queries.Surface.{Surface}
use Rattle.mesh_query_tokens.specs.Gives.{Gives}
use Rattle.mesh_query_tokens.specs.declared.faults.FaultKind.{FaultKind}
use Rattle.mesh_query_tokens.specs.declared.faults.ReadFault.TheVariants.{Fault}
use Rattle.mesh_resolve.specs.declared.known.Known.{Known}
use Rattle.mesh_resolve.specs.Queries.{resolved}

pub one_query : (known : Known) (surface : Surface) (a b : Query) → Gives (Ok a) (resolved known surface) → Gives (Ok b) (resolved known surface) → a ≡ b
one_query known surface a b p q = cc

pub one_fault : (known : Known) (surface : Surface) (at later : ℕ) (a b : FaultKind) → Gives (Err (Fault at a)) (resolved known surface) → Gives (Err (Fault later b)) (resolved known surface) → (at ≡ later) × (a ≡ b)
one_fault known surface at later a b p q = (cc, cc)

pub never_both : (known : Known) (surface : Surface) (query : Query) (at : ℕ) (kind : FaultKind) → Gives (Ok query) (resolved known surface) → Gives (Err (Fault at kind)) (resolved known surface) → ⊥
never_both known surface query at kind p q = cc
