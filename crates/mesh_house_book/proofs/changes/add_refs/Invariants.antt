use Rattle.std.proofs.Common.{◌≡◌, drop}
use Rattle.mesh_house_book.specs.Changes.{with_refs}
use Rattle.mesh_house_book.proofs.changes.add_refs.Given as goal

abbrev pub invariant-loop-r : goal.invariant-loop-r
invariant-loop-r l = with_refs l.all (drop l.r-index l.refs) ≡ with_refs l.initial.all l.refs
