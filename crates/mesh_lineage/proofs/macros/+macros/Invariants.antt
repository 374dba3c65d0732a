use Rattle.std.proofs.Common.{◌≡◌, take, map}
use Rattle.std.specs.List.{list_any}
use Rattle.mesh_lineage.specs.Joinable.{has_macro, macro_when}
use Rattle.mesh_lineage.proofs.macros.+macros.Given as goal

abbrev pub invariant-some_has-loop-e : goal.invariant-some_has-loop-e
invariant-some_has-loop-e l = l.found ≡ list_any (λ b. b) (map has_macro (take l.e-index l.es))

abbrev pub invariant-some_when_has-loop-w : goal.invariant-some_when_has-loop-w
invariant-some_when_has-loop-w l = l.found ≡ list_any (λ b. b) (map macro_when (take l.w-index l.whens))
