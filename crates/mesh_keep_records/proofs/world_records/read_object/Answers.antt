use Rattle.std.proofs.Common.{ℕ, List, Some, sym, ap, ◌∙◌}
use Rattle.std.proofs.lemmas.Result.{err_from_is_err_and}
use Rattle.std.proofs.lemmas.Bool.{and_parts}
use Rattle.mesh_base_values.specs.declared.values.Column.{Column}
use Rattle.mesh_base_values.specs.declared.values.Name.{Name}
use Rattle.mesh_house.specs.declared.objects.Body.{Body}
use Rattle.mesh_house.specs.declared.objects.Object.{Object}
use Rattle.mesh_canon_text.specs.Text.{list_text}
use Rattle.mesh_canon_reading.proofs.Exact.{some_is}
use Rattle.mesh_keep_records.specs.Records.{body_parts, object_parts}
use Rattle.mesh_keep_records.proofs.Refused.{still_refused}
use Rattle.mesh_keep_records.proofs.world_records.read_object.Goals as goal

abbrev Fields : Type 0
Fields = Name × (List Column × (List ℕ × Unit {0}))

abbrev built : Fields → Body → Object
built f b = record { name = f.0; columns = f.1.0; body = b }

pub returns-in_err-name-clause-only : goal.returns-in_err-name-clause-only
returns-in_err-name-clause-only c = λ o fit is.
    let p = err_from_is_err_and c.from_residual.result c.from_residual.ensures.1 in
    let f : Fields = (o.name, (o.columns, (list_text (body_parts is.0 o.body), tt))) in
    rw (p.1, p.2) (still_refused c.in_err-name.field-0.0 f o (c.in_err-name.ensures.only f (and_parts _ _ fit).1 is.2))

pub returns-in_err-body-clause-only : goal.returns-in_err-body-clause-only
returns-in_err-body-clause-only c = λ o fit is.
    let p = err_from_is_err_and c.from_residual-in_err-body.result c.from_residual-in_err-body.ensures.1 in
    let f : Fields = (o.name, (o.columns, (list_text (body_parts is.0 o.body), tt))) in
    let e = some_is f _ (c.in_ok-name.ensures.only f (and_parts _ _ fit).1 is.2) in
    rw (p.1, p.2) (still_refused c.in_err-body.field-0.0 o.body o (c.in_err-body.ensures.only o.body (and_parts _ _ fit).0 (is.0, is.1, c.as_slice.ensures ∙ sym (ap (λ (g : Fields). g.1.1.0) e))))

pub returns-clause-found : goal.returns-clause-found
returns-clause-found c =
    let b = c.in_ok-body.ensures.found in
    (b.0, b.1, c.in_ok-name.ensures.found ∙ ap (λ t. list_text (object_parts t (record { name = c.in_ok-name.name; columns = c.in_ok-name.columns; body = c.in_ok-body.body }))) (sym c.as_slice.ensures ∙ b.2))

pub returns-clause-only : goal.returns-clause-only
returns-clause-only c = λ o fit is.
    let f : Fields = (o.name, (o.columns, (list_text (body_parts is.0 o.body), tt))) in
    let e = some_is f _ (c.in_ok-name.ensures.only f (and_parts _ _ fit).1 is.2) in
    let b = some_is o.body c.in_ok-body.body (c.in_ok-body.ensures.only o.body (and_parts _ _ fit).0 (is.0, is.1, c.as_slice.ensures ∙ sym (ap (λ (g : Fields). g.1.1.0) e))) in
    let n = c.in_ok-name in
    let g : Fields = (n.name, (n.columns, (n.kept, tt))) in
    ap (λ (k : Fields). Some (built k o.body)) e ∙ ap (λ m. Some (built g m)) b
