use Rattle.std.proofs.Common.{◌≡◌, ◌||◌, ◌∷◌, []}
use Rattle.std.specs.List.{filter}
use Rattle.mesh_trace.specs.Impacts.{is_fed}
use Rattle.mesh_trace.proofs.hits.fed_columns.Given as goal

abbrev pub invariant-loop-column : goal.invariant-loop-column
invariant-loop-column l = l.made ≡ filter (λ column. l.all || is_fed l.nodes l.hits l.n l.source (column ∷ [])) l.yielded
