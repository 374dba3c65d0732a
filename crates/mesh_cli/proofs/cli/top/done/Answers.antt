use Rattle.std.proofs.Common.{refl, sym, ◌∙◌}
use Rattle.mesh_cli_words.specs.Lines.{IsLine}
use Rattle.mesh_cli.specs.cli.Scripts.{asked, batch}
use Rattle.mesh_cli.proofs.cli.Asking.{asked_answered}
use Rattle.mesh_cli.proofs.cli.top.done.Goals as goal

pub returns-then-is_batch : goal.returns-then-is_batch
returns-then-is_batch g c = λ words is. batch c.args.line.now is (sym c.is_batch.ensures ∙ c.if-is_batch.true) c.scripted.ensures

pub returns-else-is_batch : goal.returns-else-is_batch
returns-else-is_batch g c = λ words is. asked refl (record {
  answer = c.asked-answer.result;
  answered = asked_answered (IsLine words) _ _ _ c.args.line.now _ is (sym c.is_batch.ensures ∙ c.if-is_batch.false) c.asked-answer.ensures;
  said = c.printed.ensures;
})
