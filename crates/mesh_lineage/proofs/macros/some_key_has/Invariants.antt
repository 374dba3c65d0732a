use Rattle.std.proofs.Common.{◌≡◌, take}
use Rattle.std.specs.List.{list_any}
use Rattle.mesh_lineage.specs.Joinable.{has_macro}
use Rattle.mesh_lineage.proofs.macros.some_key_has.Given as goal

abbrev pub invariant-loop-key : goal.invariant-loop-key
invariant-loop-key l = l.found ≡ list_any has_macro (take l.key-index l.keys)
