use Rattle.std.proofs.Common.{◌≡◌, ℕ, [], List, take, drop, subst, ap, sym, ◌∙◌, inl}
use Rattle.mesh_query_grammar.specs.declared.surface.queries.Surface.{Surface}
use Rattle.mesh_query_tokens.specs.declared.tokens.Token.{Token}
use Rattle.mesh_query_grammar.specs.lookahead.Places.{deepest}
use Rattle.mesh_query_grammar.specs.Grammar.{Spells, query}
use Rattle.mesh_query_grammar.specs.Beginnings.{IsQuery}
use Rattle.mesh_query_grammar.proofs.Faults.{is_spelled, only_read, one_tree}
use Rattle.mesh_query.specs.Refusals.{IsAmiss, IsRefusal}
use Rattle.mesh_query.specs.Sizes.{is_within}
use Rattle.mesh_query.proofs.Descent.{both}
use Rattle.mesh_query.proofs.Refused.{expression_refused}
use Rattle.mesh_query.proofs.OneRefusal.{short, long}
use Rattle.mesh_query.proofs.Weights.{none_left, some_left}
use Rattle.mesh_query.proofs.reader.parse.Goals as goal

-- a query in which an expression has too many nodes
pub returns-then-are_too_many-clause-refused : goal.returns-then-are_too_many-clause-refused
returns-then-are_too_many-clause-refused c =
    expression_refused (take c.args.from c.args.tokens.now) (drop c.args.from c.args.tokens.now) c.too_large.result c.too_large.ensures
    (inl (
      c.in-Ok.surface,
      subst (λ (ts : List Token). Spells deepest (query c.in-Ok.surface) (drop c.args.from ts) []) c.as_slice-tokens.ensures (is_spelled c.in-Ok.ensures.0),
      none_left c.in-Ok.ensures (c.are_too_many.ensures.none c.if-are_too_many.true),
    ))

pub returns-then-are_too_many-clause-read : goal.returns-then-are_too_many-clause-read
returns-then-are_too_many-clause-read c = λ tree d w.
    short (take c.args.from c.args.tokens.now) (drop c.args.from c.args.tokens.now) c.too_large.result tree (returns-then-are_too_many-clause-refused c) d w

-- a query in which none has
pub returns-else-are_too_many-clause-found : goal.returns-else-are_too_many-clause-found
returns-else-are_too_many-clause-found c =
    subst (λ (ts : List Token). Spells deepest (query c.in-Ok.surface) (drop c.args.from ts) []) c.as_slice-tokens.ensures (is_spelled c.in-Ok.ensures.0)

pub returns-else-are_too_many-clause-within : goal.returns-else-are_too_many-clause-within
returns-else-are_too_many-clause-within c = some_left c.in-Ok.ensures (c.are_too_many.ensures.some c.if-are_too_many.false)

pub returns-else-are_too_many-clause-only : goal.returns-else-are_too_many-clause-only
returns-else-are_too_many-clause-only c = λ other d.
    only_read c.in-Ok.ensures.0 (subst (λ (ts : List Token). IsQuery other (drop c.args.from ts)) (sym c.as_slice-tokens.ensures) d).1

pub returns-else-are_too_many-clause-read : goal.returns-else-are_too_many-clause-read
returns-else-are_too_many-clause-read c = λ tree d w.
    one_tree (is_spelled c.in-Ok.ensures.0) (subst (λ (ts : List Token). Spells deepest (query tree) (drop c.args.from ts) []) (sym c.as_slice-tokens.ensures) d)

pub returns-else-are_too_many-clause-too_large : goal.returns-else-are_too_many-clause-too_large
returns-else-are_too_many-clause-too_large c = λ tree d w.
    let e : c.in-Ok.surface ≡ tree = one_tree (is_spelled c.in-Ok.ensures.0) (subst (λ (ts : List Token). Spells deepest (query tree) (drop c.args.from ts) []) (sym c.as_slice-tokens.ensures) d) in
    both (some_left c.in-Ok.ensures (c.are_too_many.ensures.some c.if-are_too_many.false)) (ap (λ (z : Surface). is_within z) e ∙ w)

-- where an expression had too many nodes before reading stopped
pub returns-then-are_too_many-2-clause-refused : goal.returns-then-are_too_many-2-clause-refused
returns-then-are_too_many-2-clause-refused c =
    let ts = c.as_slice-tokens.result.now in
    let d = subst (λ (z : ℕ). IsAmiss ts (drop c.args.from ts) z c.in-Err.fault) (c.are_too_many-in-Err.ensures.none c.if-are_too_many-2.true) c.in-Err.ensures in
    subst (λ (z : List Token). IsRefusal (take c.args.from z) (drop c.args.from z) c.crowded.result) c.as_slice-tokens.ensures (c.crowded.ensures ts (take c.args.from ts) (drop c.args.from ts) d)

pub returns-then-are_too_many-2-clause-read : goal.returns-then-are_too_many-2-clause-read
returns-then-are_too_many-2-clause-read c = λ tree d w.
    short (take c.args.from c.args.tokens.now) (drop c.args.from c.args.tokens.now) c.crowded.result tree (returns-then-are_too_many-2-clause-refused c) d w

pub returns-then-are_too_many-2-clause-too_large : goal.returns-then-are_too_many-2-clause-too_large
returns-then-are_too_many-2-clause-too_large c = λ tree d w.
    long (take c.args.from c.args.tokens.now) (drop c.args.from c.args.tokens.now) c.crowded.result tree (returns-then-are_too_many-2-clause-refused c) d

-- where none had
pub returns-else-are_too_many-2-clause-refused : goal.returns-else-are_too_many-2-clause-refused
returns-else-are_too_many-2-clause-refused c =
    let ts = c.as_slice-tokens.result.now in
    subst (λ (z : List Token). IsRefusal (take c.args.from z) (drop c.args.from z) c.refusal.result) c.as_slice-tokens.ensures (c.refusal.ensures c.args.from _ (c.are_too_many-in-Err.ensures.some c.if-are_too_many-2.false) c.in-Err.ensures)

pub returns-else-are_too_many-2-clause-read : goal.returns-else-are_too_many-2-clause-read
returns-else-are_too_many-2-clause-read c = λ tree d w.
    short (take c.args.from c.args.tokens.now) (drop c.args.from c.args.tokens.now) c.refusal.result tree (returns-else-are_too_many-2-clause-refused c) d w

pub returns-else-are_too_many-2-clause-too_large : goal.returns-else-are_too_many-2-clause-too_large
returns-else-are_too_many-2-clause-too_large c = λ tree d w.
    long (take c.args.from c.args.tokens.now) (drop c.args.from c.args.tokens.now) c.refusal.result tree (returns-else-are_too_many-2-clause-refused c) d
