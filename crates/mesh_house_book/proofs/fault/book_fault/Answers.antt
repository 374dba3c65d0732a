use Rattle.mesh_house_book.proofs.Breaches.{without_fault}
use Rattle.mesh_house_book.proofs.fault.book_fault.Goals as goal

pub returns-clause-none : goal.returns-clause-none
returns-clause-none c = without_fault c.args.b.now c.first_fault.result c.first_fault.ensures
