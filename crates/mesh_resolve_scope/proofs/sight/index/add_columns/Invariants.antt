use Rattle.std.proofs.Common.{◌≡◌, ℕ, List, take}
use Rattle.std.specs.BTreeMap.{get}
use Rattle.std.specs.List.{flat_map}
use Rattle.mesh_base_values.specs.Names.{text_cmp}
use Rattle.mesh_resolve_scope.specs.sight.Sight.{meant_column}
use Rattle.mesh_resolve_scope.specs.sight.Sole.{sole, sole_of_both}
use Rattle.mesh_resolve_scope.proofs.sight.index.add_columns.Given as goal

abbrev pub invariant-loop-c : goal.invariant-loop-c
invariant-loop-c l = (name : List ℕ) → get text_cmp l.index name ≡ sole_of_both (get text_cmp l.initial.index name) (sole (flat_map (meant_column name l.seen) (take l.c-index l.c-items)))
