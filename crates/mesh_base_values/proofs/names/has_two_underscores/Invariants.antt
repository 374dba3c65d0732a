use Rattle.std.proofs.Common.{◌≡◌, ◌&&◌, ◌||◌, drop}
use Rattle.mesh_base_values.specs.Names.{begins_with, has_two_underscores}
use Rattle.mesh_base_values.proofs.names.has_two_underscores.Given as goal

-- what is left has them, or goes on from an underscore
abbrev pub invariant-loop-byte : goal.invariant-loop-byte
invariant-loop-byte l =
    ((l.after_one && begins_with 95 (drop l.byte-index l.text)) || has_two_underscores (drop l.byte-index l.text)) ≡ has_two_underscores l.text
