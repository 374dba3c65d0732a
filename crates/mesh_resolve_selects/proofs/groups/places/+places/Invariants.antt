use Rattle.std.proofs.Common.{◌≡◌, ◌++◌, take, map}
use Rattle.std.specs.List.{sum}
use Rattle.mesh_resolve_selects.specs.groups.Grouping.{placed_all, placed_whens}
use Rattle.mesh_resolve_selects.specs.groups.Sizes.{counted, size, when_size}
use Rattle.mesh_resolve_selects.proofs.groups.places.+places.Given as goal

abbrev pub invariant-place_all-loop-e : goal.invariant-place_all-loop-e
invariant-place_all-loop-e l = record {
  placed : l.breaches ≡ l.initial.breaches ++ placed_all l.keys (take l.e-index l.es) l.free;
  counted : l.count ≡ counted l.before (sum (map size (take l.e-index l.es)));
}

abbrev pub invariant-place_whens-loop-w : goal.invariant-place_whens-loop-w
invariant-place_whens-loop-w l = record {
  placed : l.breaches ≡ l.initial.breaches ++ placed_whens l.keys (take l.w-index l.whens) l.free;
  counted : l.count ≡ counted l.before (sum (map when_size (take l.w-index l.whens)));
}
