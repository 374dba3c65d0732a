use Rattle.std.proofs.Common.{◌≡◌, ◌+◌, ℕ, codes, false, Some, drop, arith, sym, subst, ◌∙◌}
use Rattle.mesh_query_grammar.specs.declared.surface.expressions.Primary.TheVariants as the_primary
use Rattle.mesh_query_grammar.specs.Signs.{place}
use Rattle.mesh_query_grammar.specs.Rules.{named}
use Rattle.mesh_query_grammar.specs.Plans.{read, done, is_sign}
use Rattle.mesh_query_grammar.specs.Machine.{begins}
use Rattle.mesh_query.proofs.Steps.{past_name, past_sign, missed, without, is_done, counted}
use Rattle.mesh_query.proofs.Descent.{told, lacks, fails_in, closed, name_left}
use Rattle.mesh_query.proofs.literals.column.Goals as goal

pub returns-in_err-second : goal.returns-in_err-second
returns-in_err-second c = λ n s b I.
    let ts = c.args.tokens.now in
    let first = c.in_ok-first.ensures in
    let dot = c.is_sign.ensures.taken c.if-is_sign.true in
    let J = counted c.meet.ensures (past_name (λ x. read (named (place (drop c.args.from ts)) x) done) I first.2) in
    let shut : begins (is_sign (codes "(")) (drop c.in_ok-first.next ts) ≡ false = subst (λ (z : ℕ). begins (is_sign (codes "(")) (drop z ts) ≡ false) (sym first.0) c.requires.alone in
    let K = missed (name_left {n = n} {at = place (drop c.args.from ts)} ts c.args.from c.in_ok-first.next first.0 first.2 c.requires.undated) shut in
    told _ _ c.from_residual-in_err-second.result c.from_residual-in_err-second.ensures (fails_in _ ts _ J (lacks ts (c.in_ok-first.next + 1) _ (past_sign (codes ".") K dot.2) c.in_err-second.ensures))

pub returns-then-is_sign : goal.returns-then-is_sign
returns-then-is_sign c = λ n s b I.
    let ts = c.args.tokens.now in
    let at = place (drop c.args.from ts) in
    let first = c.in_ok-first.ensures in
    let second = c.in_ok-second.ensures in
    let dot = c.is_sign.ensures.taken c.if-is_sign.true in
    let J = counted c.meet.ensures (past_name (λ x. read (named at x) done) I first.2) in
    let shut : begins (is_sign (codes "(")) (drop c.in_ok-first.next ts) ≡ false = subst (λ (z : ℕ). begins (is_sign (codes "(")) (drop z ts) ≡ false) (sym first.0) c.requires.alone in
    let K = missed (name_left {n = n} {at = at} ts c.args.from c.in_ok-first.next first.0 first.2 c.requires.undated) shut in
    let L = past_name (λ y. done (the_primary.Column at (Some c.in_ok-first.first) y)) (past_sign (codes ".") K dot.2) second.2 in
    rw c.place-at.ensures (omega (arith, first.0, second.0), is_done (closed J L))

pub returns : goal.returns
returns c = λ n s b I.
    let ts = c.args.tokens.now in
    let at = place (drop c.args.from ts) in
    let first = c.in_ok-first.ensures in
    let J = counted c.meet.ensures (past_name (λ x. read (named at x) done) I first.2) in
    let shut : begins (is_sign (codes "(")) (drop c.in_ok-first.next ts) ≡ false = subst (λ (z : ℕ). begins (is_sign (codes "(")) (drop z ts) ≡ false) (sym first.0) c.requires.alone in
    let K = missed (name_left {n = n} {at = at} ts c.args.from c.in_ok-first.next first.0 first.2 c.requires.undated) shut in
    rw c.place-at.ensures (omega (arith, first.0), is_done (closed J (without K (sym c.is_sign.ensures.seen ∙ c.if-is_sign.false))))
