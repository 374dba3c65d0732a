use Rattle.std.proofs.Common.{◌∙◌, ap}
use Rattle.mesh_cli_words.specs.Words.{needed}
use Rattle.mesh_cli_words.proofs.apps.needed_place.Goals as goal

pub returns-clause-rule : goal.returns-clause-rule
returns-clause-rule c = c.needed.ensures.rule ∙ ap needed c.place.ensures.rule

pub returns-clause-local : goal.returns-clause-local
returns-clause-local c = c.needed.ensures.local
