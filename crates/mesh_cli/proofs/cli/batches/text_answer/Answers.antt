use Rattle.std.proofs.Common.{Err, ap}
use Rattle.mesh_cli_print.specs.declared.printed.refusals.Refusal.{Refusal}
use Rattle.mesh_cli.specs.cli.Scripts.{IsTextLine}
use Rattle.mesh_cli.proofs.cli.Asking.{asked_answered, asked_refused, not_batch}
use Rattle.mesh_cli.proofs.cli.batches.text_answer.Goals as goal

pub returns-in-Err : goal.returns-in-Err
returns-in-Err g c = asked_refused (IsTextLine c.args.text.now) _ _ c.in-Err.refusal c.in-Err.ensures.known (λ is. c.in-Err.ensures.usage (ap (λ (x : Refusal). Err x) is))

pub returns-in-Ok : goal.returns-in-Ok
returns-in-Ok g c = asked_answered (IsTextLine c.args.text.now) _ _ _ c.in-Ok.line _ c.in-Ok.ensures.ok (not_batch c.in-Ok.line (c.in-Ok.ensures.ok).may) c.line_answer.ensures
