use Rattle.std.proofs.Common.{◌≡◌, ◌++◌, take}
use Rattle.mesh_canon_text.specs.Text.{spaced}
use Rattle.mesh_canon_text.proofs.written.put_spaced.Given as goal

abbrev pub invariant-loop-item : goal.invariant-loop-item
invariant-loop-item g l = l.out.items ≡ l.fn.out.items ++ spaced g.T.Written.text (take l.item-index l.all)
