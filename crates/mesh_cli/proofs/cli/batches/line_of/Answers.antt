use Rattle.std.proofs.Common.{List, ℕ, sym, ◌∙◌, ap, subst}
use Rattle.mesh_cli_words.specs.Lines.{IsLine}
use Rattle.mesh_cli_values.specs.scripts.Scripts.{words_of}
use Rattle.mesh_cli.proofs.cli.Fitting.{fits}
use Rattle.mesh_cli.proofs.cli.Lining.{line_fit, line_usage}
use Rattle.mesh_cli.proofs.cli.batches.line_of.Goals as goal

pub returns-clause-fit : goal.returns-clause-fit
returns-clause-fit c = line_fit c.in-Ok.line c.permitted.result (fits _ c.in-Ok.line c.in-Ok.ensures.ok) c.permitted.ensures.ok

pub returns-clause-usage : goal.returns-clause-usage
returns-clause-usage c = line_usage c.args.text.now c.in-Ok-Some.words c.in-Ok.line c.permitted.result
    (ap words_of (sym c.as_slice.ensures) ∙ sym c.in-Ok-Some.ensures ∙ c.in-Ok-Some.field-0-is)
    (subst (λ (ws : List (List ℕ)). IsLine ws c.in-Ok.line) c.as_slice-in-Ok-Some.ensures c.in-Ok.ensures.ok) c.permitted.ensures.usage
