use Rattle.std.proofs.Common.{Err, refl, ap, subst}
use Rattle.mesh_cli_words.specs.Lines.{IsLine}
use Rattle.mesh_cli_words.specs.declared.line.UsageFault.{UsageFault}
use Rattle.mesh_cli_print.specs.declared.printed.refusals.Refusal.{Refusal}
use Rattle.mesh_cli_print.specs.printed.Printing.{Printed, sinks}
use Rattle.mesh_cli.specs.cli.Scripts.{asked, of_usage}
use Rattle.mesh_cli.proofs.cli.Asking.{asked_refused, of_usage_is, usage_is}
use Rattle.mesh_cli.proofs.cli.Fitting.{fits}
use Rattle.mesh_cli.proofs.promise.Promising.{call_promised}
use Rattle.mesh_cli.proofs.cli.top.mesh.Goals as goal

pub done-requires-clause-fit : goal.done-requires-clause-fit
done-requires-clause-fit g c = λ lifetimes bounds. fits _ c.in-Ok.line c.in-Ok.ensures.ok

pub returns-in-Err-clause-ends : goal.returns-in-Err-clause-ends
returns-in-Err-clause-ends g c = asked refl (record {
  answer = Err (of_usage c.in-Err.fault);
  answered = asked_refused (IsLine c.args.words.now) _ _ _ (of_usage_is c.in-Err.fault) (λ e. c.in-Err.ensures.usage (ap (λ (x : UsageFault). Err x) (usage_is c.in-Err.fault e)));
  said = subst (λ (r : Refusal). Printed (Err r) (sinks (g.O.Sink.told c.args.out.now) (g.E.Sink.told c.args.err.now)) (sinks (g.O.Sink.told c.printed.new.out) (g.E.Sink.told c.printed.new.err)) c.printed.result) c.of_usage.ensures c.printed.ensures;
})

pub returns-in-Err-clause-promise : goal.returns-in-Err-clause-promise
returns-in-Err-clause-promise g c = call_promised c.the_empty_world_is_sound.ensures _ _ _ _ _ _ _ _ (returns-in-Err-clause-ends g c)

pub returns-in-Ok-clause-ends : goal.returns-in-Ok-clause-ends
returns-in-Ok-clause-ends g c = c.done.ensures c.args.words.now c.in-Ok.ensures.ok

pub returns-in-Ok-clause-promise : goal.returns-in-Ok-clause-promise
returns-in-Ok-clause-promise g c = call_promised c.the_empty_world_is_sound.ensures _ _ _ _ _ _ _ _ (c.done.ensures c.args.words.now c.in-Ok.ensures.ok)
