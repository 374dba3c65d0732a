-- What may be wrong with the form of a statement, and where.
use Rattle.std.specs.Prelude.{ℕ, codes}
use Rattle.mesh_query_tokens.specs.declared.faults.FaultKind.TheVariants.{Syntax, TooLarge}
use Rattle.mesh_query_tokens.specs.declared.faults.ReadFault.{ReadFault}
use Rattle.mesh_query_tokens.specs.declared.faults.ReadFault.TheVariants.{Fault}

-- no model file goes on so behind the token that ends here
abbrev pub broken : ℕ → ReadFault
broken before = Fault before Syntax

-- the most parentheses that are open at once
abbrev pub deepest : ℕ
deepest = 64

abbrev pub too_deep : ReadFault
too_deep = Fault 0 (TooLarge (codes "nesting") deepest)
