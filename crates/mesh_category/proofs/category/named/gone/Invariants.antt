use Rattle.std.proofs.Common.{◌≡◌, take}
use Rattle.mesh_spec_changes.specs.reuse.Categories.{removed}
use Rattle.mesh_category.specs.category.Gone.{names_of}
use Rattle.mesh_category.proofs.category.named.gone.Given as goal

abbrev pub invariant-loop-node : goal.invariant-loop-node
invariant-loop-node l = l.made ≡ removed (names_of (take l.node-index l.olds)) (names_of l.news)
