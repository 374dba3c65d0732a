use Rattle.std.proofs.Common.{◌≡◌, take}
use Rattle.mesh_house_book.specs.WellFormed.{have_parents}
use Rattle.mesh_house_book.proofs.fits.have_parents.Given as goal

abbrev pub invariant-loop-entry : goal.invariant-loop-entry
invariant-loop-entry l = l.each ≡ have_parents l.all l.list (take l.entry-index l.list)
