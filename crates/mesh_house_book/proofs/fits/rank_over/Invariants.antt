use Rattle.std.proofs.Common.{◌≡◌, drop}
use Rattle.mesh_base.specs.rules.Relations.{rank_over}
use Rattle.mesh_house_book.specs.WellFormed.{parents_of}
use Rattle.mesh_house_book.proofs.fits.rank_over.Given as goal

abbrev pub invariant-loop-parent : goal.invariant-loop-parent
invariant-loop-parent l = rank_over l.rank (parents_of l.all (drop l.parent-index l.parents)) ≡ rank_over 0 (parents_of l.all l.parents)
