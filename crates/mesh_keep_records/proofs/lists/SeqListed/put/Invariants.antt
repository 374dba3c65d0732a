use Rattle.std.proofs.Common.{◌≡◌, ◌++◌, map, take}
use Rattle.mesh_keep_records.proofs.lists.SeqListed.put.Given as goal

abbrev pub invariant-loop-value : goal.invariant-loop-value
invariant-loop-value g l = l.out ≡ l.fn.out ++ map g.T.Part.text (take l.value-index l.self)
