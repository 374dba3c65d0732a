use Rattle.std.proofs.Common.{◌∙◌, refl, sym, subst}
use Rattle.clap.specs.Walk.{rows_of}
use Rattle.clap.specs.Matches.{found_of}
use Rattle.mesh_cli_words.specs.Lines.{IsCommandOf}
use Rattle.mesh_cli_values.specs.options.Values.{IsMomentOf}
use Rattle.mesh_cli_words.proofs.Asking.{both_of, refuses}
use Rattle.mesh_cli_words.proofs.read.line_of.Goals as goal

pub returns-in-None-clause-usage : goal.returns-in-None-clause-usage
returns-in-None-clause-usage c is line =
    refuses _ _ c.in-Some.name.now (rows_of (found_of c.in-Some.sub.now)) c.in-Some-moment_named.moment
    (both_of _ _ _ (λ b. refl) _ _ _ c.in-Some.ensures.name c.in-Some.ensures.rows) (sym c.in-None.is ∙ c.in_ok-command_given.ensures) line

pub returns-in-Some-2-clause-ok : goal.returns-in-Some-2-clause-ok
returns-in-Some-2-clause-ok c = record {
  paths = c.in_ok-paths.ensures;
  warehouse = c.in_ok-warehouse.ensures;
  command = subst (λ s. IsCommandOf s c.in-Some-2.command) (sym (both_of _ _ _ (λ b. refl) _ _ _ c.in-Some.ensures.name c.in-Some.ensures.rows)) (record {
    moment = c.in-Some-moment_named.moment;
    at = subst (λ o. IsMomentOf o c.in-Some-moment_named.moment) c.given.ensures c.in-Some-moment_named.ensures;
    is = sym c.in_ok-command_given.ensures ∙ c.in-Some-2.is;
  });
}
