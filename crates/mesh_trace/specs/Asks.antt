-- What is asked of the models of a project, while a trace goes from a model down to its ancestors.
use Rattle.std.specs.Prelude.{ℕ, List, [], ◌∷◌, ◌++◌, slice_index_or, slice_set}
use Rattle.std.specs.List.{fold, slice_get}
use Rattle.std.specs.declared.option.Option.{Option}
use Rattle.std.specs.declared.option.Option.TheVariants.{None, Some}
use Rattle.mesh_base.specs.declared.definitions.Reading.{Reading}
use Rattle.mesh_base.specs.declared.snapshots.Node.{Node}
use Rattle.mesh_spec_model.specs.Closures.{Closure}
use Rattle.mesh_trace.specs.Feeds.{feeds, needed_of}
use Rattle.mesh_trace.specs.declared.traces.Trace.{Trace}

-- some columns, or nothing yet
abbrev pub Ask : Type 0
Ask = Option (List (List ℕ))

abbrev pub ask_more : Ask → List (List ℕ) → Ask
ask_more None more = Some more
ask_more (Some asked) more = Some (asked ++ more)

-- more columns are asked of the model at a place
abbrev pub asked_at : List Ask → ℕ → List (List ℕ) → List Ask
asked_at asks place more = slice_set asks place (ask_more (slice_index_or asks place None) more)

-- of a parent those that are needed of it
abbrev pub asked_of : List Ask → ℕ → Option Node → List Reading → List Ask
asked_of asks place None needed = asks
asked_of asks place (Some n) needed = asked_at asks place (needed_of n.own.name needed)

abbrev pub asked_parent : List Node → List Reading → List Ask → ℕ → List Ask
asked_parent nodes needed asks place = asked_of asks place (slice_get nodes place) needed

-- and so of each parent
abbrev pub asked_parents : List Node → List Reading → List Ask → List ℕ → List Ask
asked_parents nodes needed asks places = fold (asked_parent nodes needed) asks places

-- what is fed to a model of which some columns are asked
abbrev pub fed : Ask → Closure → List Trace
fed None c = []
fed (Some wanted) c = feeds c wanted

-- and to all of those of which some are
abbrev pub all_fed : List Ask → List Closure → List Trace
all_fed [] cs = []
all_fed (a ∷ asks) [] = []
all_fed (a ∷ asks) (c ∷ cs) = fed a c ++ all_fed asks cs
