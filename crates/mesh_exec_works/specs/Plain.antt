-- The models of a plan by their places: what they stand on is read by these, so their closures are left out.
use Rattle.std.specs.Prelude.{ℕ, ℤ, if◌then◌else◌, List, [], ◌∷◌, ◌++◌, map}
use Rattle.std.specs.List.{flat_map, slice_get}
use Rattle.std.specs.Option.{option_to_list}
use Rattle.mesh_base.specs.declared.plans.Entry.{Entry}
use Rattle.mesh_base.specs.declared.snapshots.Node.{Node}
use Rattle.mesh_base.specs.declared.rules.plans.Plan.{Plan}
use Rattle.mesh_spec_model.specs.Closures.{Model, Alone}
use Rattle.mesh_house.specs.declared.world.Change.{Change}
use Rattle.mesh_house.specs.declared.world.Change.TheVariants.{Moment, PutSnapshot}
use Rattle.mesh_spec_changes.specs.due.Plans.{Planned}
use Rattle.mesh_spec_changes.specs.Changes.{forgetting, makes, snapshot_of}
use Rattle.mesh_exec_works.specs.declared.works.Work.{Work}
use Rattle.mesh_exec_works.specs.Dues.{is_any}
use Rattle.mesh_exec_works.specs.Works.{Part}

-- a model with its object
abbrev pub model_of : Node → Entry → Planned
model_of n e = record { node = n; closure = Model n.own Alone; object = e.object }

abbrev pub plain_models : List Node → List Entry → List Planned
plain_models [] es = []
plain_models (n ∷ ns) [] = []
plain_models (n ∷ ns) (e ∷ es) = model_of n e ∷ plain_models ns es

abbrev pub work_model : Work → Planned
work_model w = model_of w.node.now w.entry.now

-- the models at some places
abbrev pub parents_at : List Planned → List ℕ → List Planned
parents_at all places = flat_map (λ i. option_to_list (slice_get all i)) places

-- what makes a model's object, where that isn't made; a view's is made again where it is due
abbrev pub making : List Planned → Part → List Change
making all p = makes p.entry.made all (model_of p.node p.entry) p.node.own.kind (is_any p.dues)

-- all models of a plan
abbrev pub models : Plan → List Planned
models p = plain_models p.project.nodes p.entries

abbrev pub puts_of : ℤ → List Planned → List Planned → List Change
puts_of t all some_ = map (λ p. PutSnapshot (snapshot_of t all p)) some_

-- the moment, the snapshots where it is no run, and what is forgotten
abbrev pub opened : Plan → List Change
opened p = Moment p.moment ∷ ((if p.run then [] else puts_of p.moment (models p) (models p)) ++ forgetting p.forgets)
