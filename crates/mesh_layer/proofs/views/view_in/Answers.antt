use Rattle.std.proofs.Common.{◌≡◌, Bool, false, cond, ◌++◌, codes, sym, ap, ◌∙◌, append_assoc}
use Rattle.mesh_base_values.specs.declared.values.Name.{Name}
use Rattle.mesh_base_values.specs.Picked.{same_text}
use Rattle.mesh_spec_changes.specs.Environments.{prod}
use Rattle.mesh_layer.proofs.views.view_in.Goals as goal

pub returns : goal.returns
returns c =
    let n : Name = c.args.name.now in
    let other : same_text c.args.env.now prod ≡ false = sym (c.same_text.ensures ∙ ap (λ e. same_text e prod) c.as_slice.ensures) ∙ c.if-same_text.false in
    let schema = c.in_ok-schema.ensures ∙ append_assoc n.schema (codes "__") c.args.env.now in
    (λ i. record { schema = schema i; model = c.in_ok-model.ensures i })
    ∙ sym (ap (λ (b : Bool). cond b n (record { schema = n.schema ++ (codes "__" ++ c.args.env.now); model = n.model })) other)
