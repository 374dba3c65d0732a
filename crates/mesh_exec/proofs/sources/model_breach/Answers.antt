use Rattle.std.proofs.Common.{None, sym, ap, ◌∙◌, arith}
use Rattle.std.proofs.lemmas.List.Sums.{fold_more}
use Rattle.mesh_layer.proofs.Finding.{and_then, part_fails, told_later}
use Rattle.mesh_exec.specs.Sources.{first_by_name, with_source}
use Rattle.mesh_exec.proofs.sources.model_breach.Goals as goal

pub returns-in_err-next : goal.returns-in_err-next
returns-in_err-next g c =
    part_fails _ _ _ _ _ _ _ _ _ c.in_err-next.field-0.0 c.from_residual.result c.loop-decl.invariant.untouched c.in_err-next.ensures c.from_residual.ensures.1
    (λ w told plain. (plain, λ o is. is))

pub loop-decl-preserved : goal.loop-decl-preserved
loop-decl-preserved g c =
    let so_far = c.loop-decl.invariant in
    let there = c.in_ok-next.ensures in
    record {
      untouched = and_then _ _ _ so_far.untouched there.untouched;
      told = λ w told plain.
          c.first_by_name-found.ensures
          ∙ (λ i. first_by_name (so_far.told w told plain i) (there.ok w (told_later _ _ w so_far.untouched told) plain i))
          ∙ ap (with_source w.sources _) c.decl-item.is
          ∙ sym (fold_more (with_source w.sources) None c.args.decls.now c.loop-decl.decl-index c.decl-item.result (omega arith));
    }
