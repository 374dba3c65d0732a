use Rattle.std.proofs.Common.{◌≡◌, ◌||◌, take}
use Rattle.std.specs.List.{list_any}
use Rattle.mesh_base_values.specs.Picked.{same_text}
use Rattle.mesh_trace.proofs.hits.has.Given as goal

abbrev pub invariant-loop-c : goal.invariant-loop-c
invariant-loop-c l = l.found ≡ (l.h.all || list_any (λ n. same_text n l.column) (take l.c-index l.h.columns))
