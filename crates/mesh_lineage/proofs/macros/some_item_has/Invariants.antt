use Rattle.std.proofs.Common.{◌≡◌, take}
use Rattle.std.specs.List.{list_any}
use Rattle.mesh_base.specs.declared.queries.Item.{Item}
use Rattle.mesh_lineage.specs.Joinable.{has_macro}
use Rattle.mesh_lineage.proofs.macros.some_item_has.Given as goal

abbrev pub invariant-loop-i : goal.invariant-loop-i
invariant-loop-i l = l.found ≡ list_any (λ (i : Item). has_macro i.expr) (take l.i-index l.items)
