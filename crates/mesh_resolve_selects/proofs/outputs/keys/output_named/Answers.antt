use Rattle.std.proofs.Common.{◌≡◌, ℕ, ◌+◌, ◌<◌, Bool, true, false, List, length, drop, get_or, Option, Some, sym, ap, ◌∙◌, if◌then◌else◌}
use Rattle.std.proofs.lemmas.List.{drop_all}
use Rattle.mesh_base.specs.declared.expressions.Expr.{Expr}
use Rattle.mesh_base_values.specs.Picked.{same_text}
use Rattle.mesh_resolve_selects.specs.declared.outputs.outputs.Output.{Output}
use Rattle.mesh_resolve_selects.specs.outputs.Keys.{output_named}
use Rattle.mesh_resolve_selects.proofs.outputs.Tests.{next_left}
use Rattle.mesh_resolve_selects.proofs.outputs.keys.output_named.Goals as goal

module _ (os : List Output) (i : ℕ) (o : Output) (name : List ℕ) (w : Option Expr) (lt : i < length os) (is : o ≡ get_or os i o) (before : output_named (drop i os) name ≡ w) where
  by_test : (b : Bool) → same_text o.name name ≡ b → (if b then Some o.typed.expr else output_named (drop (i + 1) os) name) ≡ w
  by_test b e =
      ap (λ (t : Bool). if t then Some o.typed.expr else output_named (drop (i + 1) os) name) (sym e) ∙ ap (λ (l : List Output). output_named l name) (next_left os i o lt is) ∙ before

pub returns-then-same_text : goal.returns-then-same_text
returns-then-same_text c =
    ap Some c.get.ensures
    ∙ by_test c.args.outputs.now c.loop-o.o-index c.o-item.result c.args.name.now (output_named c.args.outputs.now c.args.name.now) c.loop-o-test.true c.o-item.is c.loop-o.invariant true
    (sym (c.same_text.ensures ∙ ap (λ (l : List ℕ). same_text l c.as_slice-in-loop-o.result.now) c.as_slice.ensures ∙ ap (same_text c.o-item.result.name) c.as_slice-in-loop-o.ensures) ∙ c.if-same_text.true)

pub loop-o-preserved : goal.loop-o-preserved
loop-o-preserved c =
    by_test c.args.outputs.now c.loop-o.o-index c.o-item.result c.args.name.now (output_named c.args.outputs.now c.args.name.now) c.loop-o-test.true c.o-item.is c.loop-o.invariant false
    (sym (c.same_text.ensures ∙ ap (λ (l : List ℕ). same_text l c.as_slice-in-loop-o.result.now) c.as_slice.ensures ∙ ap (same_text c.o-item.result.name) c.as_slice-in-loop-o.ensures) ∙ c.if-same_text.false)

pub returns : goal.returns
returns c = ap (λ (l : List Output). output_named l c.args.name.now) (sym (drop_all c.loop-o.o-index c.args.outputs.now c.loop-o-test.false)) ∙ c.loop-o.invariant
