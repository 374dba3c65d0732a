use Rattle.std.proofs.Common.{◌≡◌, take}
use Rattle.std.specs.List.{list_any}
use Rattle.mesh_base.specs.declared.queries.FromItem.{FromItem}
use Rattle.mesh_lineage.specs.Joinable.{has_macro_in}
use Rattle.mesh_lineage.proofs.macros.some_on_has.Given as goal

abbrev pub invariant-loop-f : goal.invariant-loop-f
invariant-loop-f l = l.found ≡ list_any (λ (f : FromItem). has_macro_in f.on) (take l.f-index l.from)
