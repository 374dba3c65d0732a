use Rattle.std.proofs.Common.{◌≡◌, take}
use Rattle.mesh_house_book.specs.WellFormed.{are_kept}
use Rattle.mesh_house_book.proofs.fits.are_kept.Given as goal

abbrev pub invariant-loop-r : goal.invariant-loop-r
invariant-loop-r l = l.each ≡ are_kept l.all (take l.r-index l.refs)
