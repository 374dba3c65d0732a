use Rattle.std.proofs.Common.{◌≡◌, ◌≤◌, ℕ, List, length, drop, map}
use Rattle.std.specs.BTreeMap.{get}
use Rattle.std.specs.Option.{option_map}
use Rattle.mesh_base_values.specs.Names.{text_cmp}
use Rattle.mesh_category.specs.versions.Index.{again, given_as, node_print, told_from}
use Rattle.mesh_category.proofs.versions.index.told_each.Given as goal

abbrev pub invariant-loop-left : goal.invariant-loop-left
invariant-loop-left l =
    (l.left ≤ length l.all)
    × ((f : List ℕ) → get text_cmp l.prints f ≡ option_map (λ twice. told_from l.left (drop l.left l.all) f (given_as twice)) (again (map node_print l.nodes) f))

abbrev pub decreases-loop-left : goal.decreases-loop-left
decreases-loop-left l = l.left
