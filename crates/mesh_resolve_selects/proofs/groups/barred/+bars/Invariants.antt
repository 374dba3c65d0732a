use Rattle.std.proofs.Common.{◌≡◌, ◌++◌, take, map}
use Rattle.mesh_resolve_selects.specs.groups.Grouping.{all_together, barred, barred_when}
use Rattle.mesh_resolve_selects.proofs.groups.barred.+bars.Given as goal

abbrev pub invariant-bar_all-loop-e : goal.invariant-bar_all-loop-e
invariant-bar_all-loop-e l = l.breaches ≡ l.initial.breaches ++ all_together (map barred (take l.e-index l.es))

abbrev pub invariant-bar_whens-loop-w : goal.invariant-bar_whens-loop-w
invariant-bar_whens-loop-w l = l.breaches ≡ l.initial.breaches ++ all_together (map barred_when (take l.w-index l.whens))
