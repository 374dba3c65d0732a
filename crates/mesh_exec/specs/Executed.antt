-- The changes that a plan makes of a world, up to those of the environment's views.
use Rattle.std.specs.Prelude.{List, [], ◌∷◌, ◌++◌, Some}
use Rattle.std.specs.List.{flat_map}
use Rattle.std.specs.Option.{option_map}
use Rattle.std.specs.declared.option.Option.{Option}
use Rattle.mesh_base_values.specs.declared.values.Cell.{Cell}
use Rattle.mesh_base.specs.declared.jobs.Input.{Input}
use Rattle.mesh_base.specs.declared.plans.Due.{Due}
use Rattle.mesh_base.specs.declared.plans.Due.TheVariants.{Whole, Unit}
use Rattle.mesh_base.specs.declared.rules.plans.Plan.{Plan}
use Rattle.mesh_spec_model.specs.Scratch.{no_bounds, defn_rows, piece_over}
use Rattle.mesh_house.specs.declared.world.World.{World}
use Rattle.mesh_house.specs.declared.world.Change.{Change}
use Rattle.mesh_house.specs.Step.{run}
use Rattle.mesh_spec_changes.specs.due.Plans.{Planned}
use Rattle.mesh_spec_changes.specs.Changes.{ascending, followed, tables_for}
use Rattle.mesh_exec_works.specs.Plain.{making, model_of, models, opened}
use Rattle.mesh_exec_works.specs.Works.{Part, parts}
use Rattle.mesh_exec_works.specs.Written.{written}

-- the rows of a due part over the tables that its model reads: those of a unit that lie in it, or all
abbrev pub part_rows : Planned → List Input → Due → List (List Cell)
part_rows p tables (Unit place start end) = piece_over p.node.own tables (record { start = start; end = end })
part_rows p tables (Whole place marks) = defn_rows p.node.own.defn tables no_bounds

abbrev pub filled : Planned → List Input → Due → List Change
filled p tables d = written p p.node.own.kind d (ascending (part_rows p tables d))

-- what fills the due parts of a model; none where a parent dangles
abbrev pub fills : World → List Planned → Planned → List Due → Option (List Change)
fills w all p [] = Some []
fills w all p (d ∷ ds) = option_map (λ tables. flat_map (filled p tables) (d ∷ ds)) (tables_for w all p p.node.own.kind)

abbrev pub part_fills : World → List Planned → Part → Option (List Change)
part_fills w all p = fills w all (model_of p.node p.entry) p.dues

-- the objects of some models are made and filled, one model after another, each over the world that those before it
-- leave
abbrev pub executes : List Planned → List Part → World → List Change
executes all [] w = []
executes all (p ∷ ps) w = making all p ++ followed (run w (making all p)) (part_fills (run w (making all p)) all p) (executes all ps)

abbrev pub executed : Plan → World → List Change
executed p w = opened p ++ executes (models p) (parts p) (run w (opened p))

-- the changes of a plan without rows, which no world decides: there are as many where nothing dangles
abbrev pub part_filling : Part → List Change
part_filling p = flat_map (λ d. written (model_of p.node p.entry) p.node.own.kind d []) p.dues

abbrev pub part_outline : List Planned → Part → List Change
part_outline all p = making all p ++ part_filling p

abbrev pub parts_outline : List Planned → List Part → List Change
parts_outline all ps = flat_map (part_outline all) ps

abbrev pub outline : Plan → List Change
outline p = opened p ++ parts_outline (models p) (parts p)
