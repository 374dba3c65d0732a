use Rattle.std.proofs.Common.{◌≡◌, take, map}
use Rattle.std.specs.List.{filter}
use Rattle.mesh_base.specs.Keys.{ref_name}
use Rattle.mesh_base.specs.declared.definitions.Defn.TheVariants.{Sql}
use Rattle.mesh_base.specs.rules.Proper.{defn_names, is_among}
use Rattle.mesh_layer.proofs.names.named.Given as goal

abbrev pub invariant-loop-r : goal.invariant-loop-r
invariant-loop-r l = l.names ≡ filter (is_among (defn_names (Sql l.q))) (map ref_name (take l.r-index l.list))
