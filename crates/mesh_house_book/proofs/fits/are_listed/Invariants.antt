use Rattle.std.proofs.Common.{◌≡◌, take}
use Rattle.std.specs.List.{list_all}
use Rattle.mesh_house_book.specs.WellFormed.{is_listed}
use Rattle.mesh_house_book.proofs.fits.are_listed.Given as goal

abbrev pub invariant-loop-r : goal.invariant-loop-r
invariant-loop-r l = l.each ≡ list_all (is_listed l.list) (take l.r-index l.refs)
