use Rattle.mesh_cli_words.specs.Lines.{IsLine}
use Rattle.mesh_cli.specs.cli.Scripts.{IsTextLine}
use Rattle.mesh_cli.proofs.promise.Calls.{line_leaves}
use Rattle.mesh_cli.proofs.promise.laws.lines_at_status_0_leave_what_they_promise.Goals as goal

pub returns-clause-words : goal.returns-clause-words
returns-clause-words c words dir old new sinks printed ends x w told sound settled =
    let (line, as_asked, left) = line_leaves (IsLine words) dir old new sinks printed ends x w told sound settled in
    (line, as_asked, left.0, left.1, left.2, left.3, left.4, left.5)

pub returns-clause-script : goal.returns-clause-script
returns-clause-script c text dir old new sinks printed ends x w told sound settled =
    let (line, as_asked, left) = line_leaves (IsTextLine text) dir old new sinks printed ends x w told sound settled in
    (line, as_asked, left.0, left.1, left.2, left.3, left.4, left.5)
