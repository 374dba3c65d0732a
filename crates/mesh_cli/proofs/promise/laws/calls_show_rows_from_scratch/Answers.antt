use Rattle.mesh_cli_words.specs.Lines.{IsLine}
use Rattle.mesh_cli.specs.cli.Scripts.{IsTextLine}
use Rattle.mesh_cli.specs.cli.Sides.{here}
use Rattle.mesh_cli.proofs.promise.Reached.{reached_leaves}
use Rattle.mesh_cli.proofs.promise.laws.calls_show_rows_from_scratch.Goals as goal

pub returns-clause-words : goal.returns-clause-words
returns-clause-words c w x events words old new sinks printed at ends settled =
    let (line, as_asked, left) = reached_leaves c.the_empty_world_is_sound.ensures (IsLine words) w x events here old new sinks printed at ends settled in
    (line, as_asked, left.0, left.1, left.2, left.3, left.4, left.5)

pub returns-clause-script : goal.returns-clause-script
returns-clause-script c w x events text dir old new sinks printed at ends settled =
    let (line, as_asked, left) = reached_leaves c.the_empty_world_is_sound.ensures (IsTextLine text) w x events dir old new sinks printed at ends settled in
    (line, as_asked, left.0, left.1, left.2, left.3, left.4, left.5)
