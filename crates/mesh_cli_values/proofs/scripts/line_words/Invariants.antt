use Rattle.std.proofs.Common.{◌≡◌, drop}
use Rattle.mesh_cli_values.specs.scripts.Scripts.{words_of}
use Rattle.mesh_cli_values.specs.scripts.Splitting.{resumed}
use Rattle.mesh_cli_values.proofs.scripts.line_words.Given as goal

-- what was split and what is left give the words of the line
abbrev pub invariant-loop-b : goal.invariant-loop-b
invariant-loop-b l = resumed l.splitting (drop l.b-index l.line) ≡ words_of l.line
