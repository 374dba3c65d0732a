use Rattle.std.proofs.Common.{ℕ, List, Ok, Err, Result, Some, cond, sym, ap, ◌∙◌}
use Rattle.std.specs.Prelude.{OnOk}
use Rattle.std.specs.BTreeMap.{get}
use Rattle.std.specs.Ordering.{is_eq}
use Rattle.mesh_base_values.specs.Names.{text_cmp}
use Rattle.mesh_category.specs.declared.versions.index.Told.{Told}
use Rattle.mesh_category.proofs.versions.Tells.{none_met, one_met}
use Rattle.mesh_category.proofs.versions.index.meet.Goals as goal

on_ok : {A E : Type 0} (r : Result A E) (P Q : Type 0) → (P → Q) → OnOk r P → OnOk r Q
on_ok (Ok x) P Q f is = f is
on_ok (Err e) P Q f is = tt

pub returns-in-None : goal.returns-in-None
returns-in-None c f = none_met c.args.print.now f c.args.at (get text_cmp c.args.prints.now) (sym c.get.ensures.value ∙ sym c.copied.ensures ∙ c.in-None.is)

pub returns-in-Some : goal.returns-in-Some
returns-in-Some c =
    let look : List ℕ → _ = get text_cmp c.args.prints.now in
    on_ok c.put.result _ _
    (λ is f. one_met c.args.print.now f c.args.at c.in-Some.told look (sym c.get.ensures.value ∙ sym c.copied.ensures ∙ c.in-Some.is) _
    (is f ∙ ap (λ (t : Told). cond (is_eq (text_cmp c.args.print.now f)) (Some t) (look f)) c.stored_too.ensures))
    c.put.ensures
