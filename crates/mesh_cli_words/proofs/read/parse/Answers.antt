use Rattle.std.proofs.Common.{◌≡◌, ◌∙◌, refl, ap, true, map, subst}
use Rattle.clap.specs.Simple.{App}
use Rattle.clap.specs.Words.{FailsBy, fault_of, is_simple_and_free}
use Rattle.mesh_cli_words.specs.Words.{mesh_app}
use Rattle.mesh_cli_words.proofs.read.parse.Goals as goal

free : is_simple_and_free mesh_app ≡ true
free = refl

pub returns-clause-fails : goal.returns-clause-fails
returns-clause-fails c =
    let e = c.in_ok-command.ensures.app in
    let known = c.try_get_matches_from.ensures.kinds (ap is_simple_and_free e ∙ free) in
    subst (λ (a : App). FailsBy (fault_of a (map (λ s. s.now) c.args.words.now)) c.try_get_matches_from.result) e known
