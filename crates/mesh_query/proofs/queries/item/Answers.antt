use Rattle.std.proofs.Common.{codes, drop, arith, sym, ◌∙◌, ap}
use Rattle.std.proofs.Common.{◌∷◌}
use Rattle.mesh_query_grammar.specs.declared.surface.queries.SurfaceItem.TheVariants as the_item
use Rattle.mesh_query_grammar.specs.Signs.{place}
use Rattle.mesh_query_grammar.specs.Plans.{done}
use Rattle.mesh_query_grammar.specs.Machine.{begins_star}
use Rattle.mesh_query_grammar.proofs.Takes.{starless_name, starless_dot, starless_times}
use Rattle.mesh_query.proofs.Steps.{started, noted, past_sign, without, has_read, no_star_here, is_done, read_from}
use Rattle.mesh_query.proofs.Descent.{told, fails_in, no_fault, both, all_of, failed_from}
use Rattle.mesh_query.proofs.queries.item.Goals as goal

pub returns-then-is_sign : goal.returns-then-is_sign
returns-then-is_sign c = rw c.place-at.ensures (omega arith, is_done (past_sign (codes "*") (noted started) (c.is_sign.ensures.taken c.if-is_sign.true).2))

pub returns-in_err-item : goal.returns-in_err-item
returns-in_err-item c = told _ _ c.from_residual.result c.from_residual.ensures (no_fault _ _ _ _ _ _ _ c.args.tokens.now c.args.from _ c.in_err-item.ensures (λ h. both (sym c.is_all_of.ensures ∙ c.if-is_all_of.true) (starless_name (drop c.args.from c.args.tokens.now) h)))

pub returns-in_err-next : goal.returns-in_err-next
returns-in_err-next c =
    let name = c.in_ok-item.ensures in
    told _ _ c.from_residual-in_err-next.result c.from_residual-in_err-next.ensures (no_fault _ _ _ _ _ _ _ c.args.tokens.now c.in_ok-item.next _ c.in_err-next.ensures (λ h. both (sym c.is_all_of.ensures ∙ c.if-is_all_of.true) (ap begins_star name.2.0.1 ∙ starless_dot name.2.0.0 _ h)))

pub returns-in_err-next-2 : goal.returns-in_err-next-2
returns-in_err-next-2 c =
    let name = c.in_ok-item.ensures in
    let dot = c.in_ok-next.ensures in
    told _ _ c.from_residual-in_err-next-2.result c.from_residual-in_err-next-2.ensures (no_fault _ _ _ _ _ _ _ c.args.tokens.now c.in_ok-next.next _ c.in_err-next-2.ensures (λ h. both (sym c.is_all_of.ensures ∙ c.if-is_all_of.true) (ap begins_star (name.2.0.1 ∙ ap (λ z. name.2.0.0 ∷ z) dot.2.1) ∙ starless_times name.2.0.0 dot.2.0 _ h)))

pub returns-then-is_all_of : goal.returns-then-is_all_of
returns-then-is_all_of c =
    let name = c.in_ok-item.ensures in
    let dot = c.in_ok-next.ensures in
    let last = c.in_ok-next-2.ensures in
    rw c.place-at.ensures (omega (arith, name.0, dot.0, last.0), is_done (all_of (λ x. done (the_item.AllOf (place (drop c.args.from c.args.tokens.now)) x)) (without (noted started) (sym c.is_sign.ensures.seen ∙ c.if-is_sign.false)) name.2 dot.2 last.2))

pub returns-in_err-value : goal.returns-in_err-value
returns-in_err-value c = told _ _ c.from_residual-in_err-value.result c.from_residual-in_err-value.ensures (fails_in _ c.args.tokens.now _ (no_star_here (without (noted started) (sym c.is_sign.ensures.seen ∙ c.if-is_sign.false)) (sym c.is_all_of.ensures ∙ c.if-is_all_of.false)) (failed_from _ _ _ _ _ _ _ c.begin.ensures c.in_err-value.ensures))

pub returns-in_err-alias : goal.returns-in_err-alias
returns-in_err-alias c =
    let value = c.in_ok-value.ensures in
    told _ _ c.from_residual-in_err-alias.result c.from_residual-in_err-alias.ensures (fails_in _ c.args.tokens.now _ (has_read c.in_ok-value.value (no_star_here (without (noted started) (sym c.is_sign.ensures.seen ∙ c.if-is_sign.false)) (sym c.is_all_of.ensures ∙ c.if-is_all_of.false)) (read_from c.begin.ensures value.1)) (c.in_err-alias.ensures c.args.depth _))

pub returns : goal.returns
returns c =
    let value = c.in_ok-value.ensures in
    let alias = c.in_ok-alias.ensures c.args.depth _ in
    rw c.place-at.ensures (omega (arith, value.0, alias.0), is_done (has_read c.in_ok-alias.alias (has_read c.in_ok-value.value (no_star_here (without (noted started) (sym c.is_sign.ensures.seen ∙ c.if-is_sign.false)) (sym c.is_all_of.ensures ∙ c.if-is_all_of.false)) (read_from c.begin.ensures value.1)) alias.1))
