-- How the due parts of one model are filled from rows that were computed for each run of them.
use Rattle.std.specs.Prelude.{List, [], ◌∷◌, ◌++◌}
use Rattle.std.specs.List.{flat_map, slice_index_or}
use Rattle.mesh_base_values.specs.declared.values.Cell.{Cell}
use Rattle.mesh_base.specs.declared.jobs.Input.{Input}
use Rattle.mesh_base.specs.declared.plans.Due.{Due}
use Rattle.mesh_house.specs.declared.world.Change.{Change}
use Rattle.mesh_spec_changes.specs.due.Plans.{Planned}
use Rattle.mesh_spec_changes.specs.Changes.{ascending}
use Rattle.mesh_exec_works.specs.Cuts.{run_fills}
use Rattle.mesh_exec_works.specs.Written.{written}
use Rattle.mesh_exec.specs.declared.runs.Run.{Run}
use Rattle.mesh_exec.specs.Executed.{filled, part_rows}
use Rattle.mesh_exec.specs.Runs.{dues_in, spanned}

-- each run with the rows at its place
abbrev pub zipped : Planned → List Run → List (List (List Cell)) → List Change
zipped p [] made = []
zipped p (r ∷ rs) [] = []
zipped p (r ∷ rs) (rows ∷ made) = run_fills p (dues_in r) rows ++ zipped p rs made

-- each due part with these same rows
abbrev pub each_with : Planned → List Due → List (List Cell) → List Change
each_with p dues rows = flat_map (λ d. written p p.node.own.kind d rows) dues

-- what fills some due parts over the tables that the model reads
abbrev pub fillings : Planned → List Input → List Due → List Change
fillings p tables dues = flat_map (filled p tables) dues

abbrev pub run_fillings : Planned → List Input → List Run → List Change
run_fillings p tables runs = flat_map (λ r. fillings p tables (dues_in r)) runs

-- the rows of a run as of one part
abbrev pub span_rows : Planned → List Input → List Due → List (List Cell)
span_rows p tables [] = []
span_rows p tables (d ∷ ds) = ascending (part_rows p tables (spanned d ds))

abbrev pub run_rows : Planned → List Input → Run → List (List Cell)
run_rows p tables r = span_rows p tables (dues_in r)

abbrev pub first_pool : List (List Input) → List Input
first_pool pools = slice_index_or pools 0 []
