use Rattle.std.proofs.Common.{◌≡◌, true, take}
use Rattle.std.specs.List.{list_all}
use Rattle.mesh_keep_records.proofs.lists.SeqPart.rule.Given as goal

abbrev pub invariant-loop-value : goal.invariant-loop-value
invariant-loop-value g l = list_all g.T.Part.fits (take l.value-index l.self) ≡ true
