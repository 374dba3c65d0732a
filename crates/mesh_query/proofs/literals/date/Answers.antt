use Rattle.std.proofs.Common.{◌≡◌, ℕ, true, drop, rules, arith, FitsSigned, w32, sym, subst}
use Rattle.std.proofs.lemmas.Int.{to_z-of_z}
use Rattle.std.proofs.lemmas.Bool.{and_parts}
use Rattle.mesh_query_grammar.specs.Signs.{place}
use Rattle.mesh_query_grammar.specs.Rules.{named}
use Rattle.mesh_query_grammar.specs.Plans.{read, done, is_text}
use Rattle.mesh_query_grammar.specs.Machine.{begins}
use Rattle.mesh_query.proofs.Steps.{started, past_name, saw, is_done, counted}
use Rattle.mesh_query.proofs.Descent.{told, fails_in, has_day, has_no_day, closed, date_is_name}
use Rattle.mesh_query.proofs.literals.date.Goals as goal

pub returns-in_err-day : goal.returns-in_err-day
returns-in_err-day c = λ n s b I.
    let ts = c.args.tokens.now in
    let word = c.in_ok-next.ensures in
    let J = counted c.meet.ensures (past_name (λ x. read (named (place (drop c.args.from ts)) x) done) I (word.2, date_is_name)) in
    let text : begins is_text (drop c.in_ok-next.next ts) ≡ true = subst (λ (z : ℕ). begins is_text (drop z ts) ≡ true) (sym word.0) (and_parts _ _ c.requires.dated).1 in
    told _ _ c.from_residual-in_err-day.result c.from_residual-in_err-day.ensures (fails_in _ ts _ J (has_no_day ts c.in_ok-next.next _ (saw started text) c.in_err-day.ensures))

pub returns : goal.returns
returns c = λ n s b I.
    let ts = c.args.tokens.now in
    let word = c.in_ok-next.ensures in
    let day = c.in_ok-day.ensures in
    let J = counted c.meet.ensures (past_name (λ x. read (named (place (drop c.args.from ts)) x) done) I (word.2, date_is_name)) in
    let text : begins is_text (drop c.in_ok-next.next ts) ≡ true = subst (λ (z : ℕ). begins is_text (drop z ts) ≡ true) (sym word.0) (and_parts _ _ c.requires.dated).1 in
    let fits : FitsSigned w32 c.in_ok-day.day = search rules in
    rw c.place-at.ensures (omega (arith, word.0, day.0), simp to_z-of_z (is_done (closed J (has_day c.in_ok-day.day (saw started text) day.2))))
