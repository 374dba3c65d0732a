use Rattle.std.proofs.Common.{ℕ, List, Some, sym, ap, subst, ◌∙◌}
use Rattle.std.proofs.lemmas.Result.{err_from_is_err_and}
use Rattle.mesh_base_values.specs.declared.values.Pair.{Pair}
use Rattle.mesh_house.specs.declared.objects.Body.TheVariants.{Stored}
use Rattle.mesh_canon_reading.proofs.Exact.{some_is}
use Rattle.mesh_canon.specs.canon.Forms.{IsOwnText}
use Rattle.mesh_keep_records.proofs.Bodies.{stored_is}
use Rattle.mesh_keep_records.proofs.Refused.{still_refused}
use Rattle.mesh_keep_records.proofs.world_records.take_stored.Goals as goal

abbrev Fields : Type 0
Fields = List ℕ × (List Pair × Unit {0})

pub returns-in_err-definition-clause-only : goal.returns-in_err-definition-clause-only
returns-in_err-definition-clause-only c = λ b fit is.
    let p = err_from_is_err_and c.from_residual.result c.from_residual.ensures.1 in
    let r = stored_is c.args.texts.now b fit is in
    let f : Fields = (r.2, (r.1, tt)) in
    rw (p.1, p.2) (still_refused c.in_err-definition.field-0.0 f b (c.in_err-definition.ensures.only f r.5 r.7))

pub returns-in_err-own-clause-only : goal.returns-in_err-own-clause-only
returns-in_err-own-clause-only c = λ b fit is.
    let p = err_from_is_err_and c.from_residual-in_err-own.result c.from_residual-in_err-own.ensures.1 in
    let r = stored_is c.args.texts.now b fit is in
    let f : Fields = (r.2, (r.1, tt)) in
    let e = some_is f _ (c.in_ok-definition.ensures.only f r.5 r.7) in
    rw (p.1, p.2) (still_refused c.in_err-own.field-0.0 r.0 b (c.in_err-own.ensures.only r.0 r.4 (subst (λ t. IsOwnText t r.0) (ap (λ (g : Fields). g.0) e ∙ sym c.as_slice.ensures) r.6)))

pub returns-clause-only : goal.returns-clause-only
returns-clause-only c = λ b fit is.
    let r = stored_is c.args.texts.now b fit is in
    let f : Fields = (r.2, (r.1, tt)) in
    let e = some_is f _ (c.in_ok-definition.ensures.only f r.5 r.7) in
    let o = some_is r.0 c.in_ok-own.own (c.in_ok-own.ensures.only r.0 r.4 (subst (λ t. IsOwnText t r.0) (ap (λ (g : Fields). g.0) e ∙ sym c.as_slice.ensures) r.6)) in
    ap Some r.3 ∙ ap (λ (g : Fields). Some (Stored r.0 g.1.0)) e ∙ ap (λ m. Some (Stored m c.in_ok-definition.targets)) o
