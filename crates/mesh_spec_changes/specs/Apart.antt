-- Plans whose objects don't get in one another's way.
use Rattle.std.specs.Prelude.{◌≡◌, ◌<◌, true, ℕ, zero, suc, List, [], ◌∷◌}
use Rattle.std.specs.List.{AllByRecursion, AllPairs, Contains, flat_map}
use Rattle.std.specs.declared.option.Option.{Option}
use Rattle.std.specs.declared.option.Option.TheVariants.{None, Some}
use Rattle.mesh_base_values.specs.declared.values.Name.{Name}
use Rattle.mesh_base_values.specs.declared.values.Pair.{Pair}
use Rattle.mesh_house.specs.declared.objects.Body.{Body}
use Rattle.mesh_house.specs.declared.world.World.{World}
use Rattle.mesh_house.specs.World.{object_at, body_of, version_of}
use Rattle.mesh_spec_changes.specs.shown.Shown.{targets_of}
use Rattle.mesh_spec_changes.specs.due.Plans.{Planned, is_made}

-- what a stored query reads, each name with its object; a table reads nothing
abbrev pub targets_behind : Option Body → List Pair
targets_behind None = []
targets_behind (Some b) = targets_of b

-- the objects that are looked at for the rows behind an object, through at most so many stored queries
abbrev pub looks : ℕ → World → Name → List Name
looks zero w name = name ∷ []
looks (suc depth) w name = name ∷ flat_map (λ (t : Pair). looks depth w t.second) (targets_behind (body_of (object_at w name)))

-- an object is that of a model of smaller rank
pub record IsBelow (models : List Planned) (rank : ℕ) (object : Name) : Type 0 where
  pub model : Planned
  pub listed : Contains models model
  pub lower : model.node.rank < rank
  pub is : model.object ≡ object

-- what is looked at for a made object, beside itself, are such
abbrev pub LooksDown : World → List Planned → Planned → Type 0
LooksDown w models p = is_made (version_of w.book p.object) ≡ true → (name : Name) → Contains (looks 4096 w p.object) name → ¬ (name ≡ p.object) → IsBelow models p.node.rank name

pub record IsApart (w : World) (models : List Planned) : Type 0 where
  pub distinct : AllPairs (λ (p q : Planned). ¬ (p.object ≡ q.object)) models
  pub down : AllByRecursion (LooksDown w models) models
