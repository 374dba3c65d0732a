-- The changes that give an environment its list and its views, by the book as it was read before.
use Rattle.std.specs.Prelude.{ℕ, ℤ, Bool, List, [], ◌∷◌, ◌++◌, map}
use Rattle.std.specs.List.{filter}
use Rattle.std.specs.Option.{is_none}
use Rattle.mesh_list.specs.Keyed.{found}
use Rattle.mesh_base_values.specs.Names.{name_cmp}
use Rattle.mesh_base_values.specs.declared.values.Name.{Name}
use Rattle.mesh_base_values.specs.declared.values.Pair.{Pair}
use Rattle.mesh_base.specs.Keys.{ref_name}
use Rattle.mesh_base.specs.declared.snapshots.Ref.{Ref}
use Rattle.mesh_house_book.specs.Changes.{previous_of}
use Rattle.mesh_house_book.specs.declared.book.Book.{Book}
use Rattle.mesh_house.specs.declared.world.Change.{Change}
use Rattle.mesh_house.specs.declared.world.Change.TheVariants.{SetPending, Finalize}
use Rattle.mesh_spec_changes.specs.Changes.{drops, expiry, name_itself, names_by_order, points}
use Rattle.mesh_spec_changes.specs.Environments.{env_at}

-- each model of a list with the object that has its rows
abbrev pub paired : List Ref → List Name → List Pair
paired [] objects = []
paired (r ∷ rs) [] = []
paired (r ∷ rs) (o ∷ os) = record { first = r.name; second = o } ∷ paired rs os

-- none of these names is that one
abbrev pub is_absent : List Name → Name → Bool
is_absent names n = is_none (found name_cmp name_itself n names)

-- the models that the environment had and the list doesn't have, by name
abbrev pub left_out : Book → List ℕ → List Ref → List Name
left_out b env list = filter (is_absent (map ref_name list)) (names_by_order (map ref_name (previous_of (env_at b env))))

-- The environment gets its list, the view of each model points at its object, the views of the models that it loses go,
-- and only then it is finalized.
abbrev pub promotion : Book → List ℕ → List Ref → List Name → ℤ → List Change
promotion b env list objects t =
    SetPending env list (expiry env t)
    ∷ (map (points env) (paired list objects) ++ (map (drops env) (left_out b env list) ++ Finalize env ∷ []))
