use Rattle.std.proofs.Common.{◌≡◌, ◌++◌, take, map}
use Rattle.std.specs.List.{flat_map}
use Rattle.mesh_spec_query.specs.Named.{columns, when_columns}
use Rattle.mesh_lineage.proofs.columns.+columns.Given as goal

abbrev pub invariant-add_all_columns-loop-e : goal.invariant-add_all_columns-loop-e
invariant-add_all_columns-loop-e l = l.places ≡ l.initial.places ++ flat_map (λ x. x) (map columns (take l.e-index l.es))

abbrev pub invariant-add_whens_columns-loop-w : goal.invariant-add_whens_columns-loop-w
invariant-add_whens_columns-loop-w l = l.places ≡ l.initial.places ++ flat_map (λ x. x) (map when_columns (take l.w-index l.whens))
