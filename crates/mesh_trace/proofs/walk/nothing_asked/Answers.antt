use Rattle.std.proofs.Common.{◌∷◌, [], List, length, ap, ◌∙◌, arith, length-append}
use Rattle.std.specs.declared.option.Option.TheVariants.{None}
use Rattle.mesh_trace.specs.Asks.{Ask, all_fed}
use Rattle.mesh_trace.proofs.Visiting.{none_more}
use Rattle.mesh_trace.proofs.walk.nothing_asked.Goals as goal

pub loop-at-preserved : goal.loop-at-preserved
loop-at-preserved c =
    let asks : List Ask = c.loop-at.asks.items in
    let pushed = c.in_ok-push.ensures.items in
    record {
      long = ap length pushed ∙ length-append asks (None ∷ []) ∙ omega (arith, c.loop-at.invariant.long);
      nothing = λ cs. ap (λ (l : List Ask). all_fed l cs) pushed ∙ none_more asks cs ∙ c.loop-at.invariant.nothing cs;
    }
