use Rattle.std.proofs.Common.{codes, arith, drop, ap, refl}
use Rattle.mesh_query_tokens.specs.declared.tokens.TokenKind.TheVariants as the_kind
use Rattle.mesh_query_grammar.specs.declared.surface.expressions.Primary.TheVariants as the_primary
use Rattle.mesh_query_grammar.specs.Signs.{place}
use Rattle.mesh_query_grammar.specs.Plans.{done, number_in, bytes_of, kind_is_number, kind_is_text, kind_is_macro, kind_is_word}
use Rattle.mesh_query_grammar.proofs.lookahead.NextToken.{next_at, begins_past}
use Rattle.mesh_query.proofs.Steps.{without, is_done, counted}
use Rattle.mesh_query.proofs.Descent.{stuck_here, unlike, unnumbered, unworded, past_said}
use Rattle.mesh_query.proofs.literals.literal.Goals as goal

pub returns-then-from-tokens : goal.returns-then-from-tokens
returns-then-from-tokens c = λ n s b I.
    let ts = c.args.tokens.now in
    let at = c.args.from in
    let end = c.if-from-tokens.true in
    stuck_here ts at
    (unworded (unnumbered I (begins_past kind_is_number ts at end) (begins_past kind_is_text ts at end) (begins_past kind_is_macro ts at end))
    (begins_past (kind_is_word (codes "true")) ts at end) (begins_past (kind_is_word (codes "false")) ts at end) (begins_past (kind_is_word (codes "null")) ts at end))

pub returns-in-Number : goal.returns-in-Number
returns-in-Number c = λ n s b I.
    let h = next_at c.args.tokens.now c.args.from c.index-tokens-from.result (the_kind.Number c.in-Number.value) c.if-from-tokens.false cc in
    rw c.place-at.ensures
    (omega arith, is_done (counted c.meet.ensures (past_said (λ x. done (the_primary.Number (place (drop c.args.from c.args.tokens.now)) x)) c.in-Number.value h.0 I h.1 (ap kind_is_number h.2) (ap number_in h.2))))

pub returns-in_ok-text-in-Text : goal.returns-in_ok-text-in-Text
returns-in_ok-text-in-Text c = λ n s b I.
    let ts = c.args.tokens.now in
    let kind = the_kind.Text c.in-Text.text in
    let h = next_at ts c.args.from c.index-tokens-from.result kind c.if-from-tokens.false cc in
    let J = without I (unlike kind_is_number h refl) in
    rw (c.place-at.ensures, c.in_ok-text-in-Text.ensures)
    (omega arith, is_done (counted c.meet-in-Text.ensures (past_said (λ x. done (the_primary.Text (place (drop c.args.from ts)) x)) c.in-Text.text h.0 J h.1 (ap kind_is_text h.2) (ap bytes_of h.2))))

pub returns-in_ok-name-in-Macro : goal.returns-in_ok-name-in-Macro
returns-in_ok-name-in-Macro c = λ n s b I.
    let ts = c.args.tokens.now in
    let kind = the_kind.Macro c.in-Macro.name in
    let h = next_at ts c.args.from c.index-tokens-from.result kind c.if-from-tokens.false cc in
    let J = without I (unlike kind_is_number h refl) in
    let K = without J (unlike kind_is_text h refl) in
    rw (c.place-at.ensures, c.in_ok-name-in-Macro.ensures)
    (omega arith, is_done (counted c.meet-in-Macro.ensures (past_said (λ x. done (the_primary.Macro (place (drop c.args.from ts)) x)) c.in-Macro.name h.0 K h.1 (ap kind_is_macro h.2) (ap bytes_of h.2))))

pub returns-in-Ident : goal.returns-in-Ident
returns-in-Ident c = λ n s b I.
    let ts = c.args.tokens.now in
    let at = c.args.from in
    let d = c.index-tokens-from.result in
    let kind = the_kind.Ident c.in-Ident.field-0 in
    let h = next_at ts at d kind c.if-from-tokens.false cc in
    c.word_literal.ensures n s _ (unnumbered I (unlike kind_is_number h refl) (unlike kind_is_text h refl) (unlike kind_is_macro h refl))

pub returns-in-Sign : goal.returns-in-Sign
returns-in-Sign c = λ n s b I.
    let ts = c.args.tokens.now in
    let at = c.args.from in
    let d = c.index-tokens-from.result in
    let kind = the_kind.Sign c.in-Sign.field-0 in
    let h = next_at ts at d kind c.if-from-tokens.false cc in
    stuck_here ts at
    (unworded (unnumbered I (unlike kind_is_number h refl) (unlike kind_is_text h refl) (unlike kind_is_macro h refl))
    (unlike (kind_is_word (codes "true")) h refl) (unlike (kind_is_word (codes "false")) h refl) (unlike (kind_is_word (codes "null")) h refl))
