use Rattle.std.proofs.Common.{◌≡◌, drop}
use Rattle.mesh_house_book.specs.moves.Held.{all_forgotten, settled}
use Rattle.mesh_house_book.proofs.moves.forgets.forget_all.Given as goal

abbrev pub invariant-loop-item : goal.invariant-loop-item
invariant-loop-item l = all_forgotten (settled l.held l.versions) (drop l.item-index l.list) ≡ all_forgotten l.initial.versions l.list
