-- A model with all that it stands on.
use Rattle.std.specs.Prelude.{ℕ, List, [], ◌∷◌, ◌++◌}
use Rattle.std.specs.List.{fold, slice_get}
use Rattle.std.specs.declared.option.Option.{Option}
use Rattle.std.specs.declared.option.Option.TheVariants.{None, Some}
use Rattle.mesh_base.specs.declared.definitions.Own.{Own}
use Rattle.mesh_base.specs.declared.snapshots.Node.{Node}

-- A closure is a model's own definition with its parents' closures.
mutual
  pub data Closure : Type 0 where
    Model : Own → Closures → Closure

  pub data Closures : Type 0 where
    Alone : Closures
    With : Closure → Closures → Closures

-- what a model itself says
abbrev pub own_of : Closure → Own
own_of (Model own parents) = own

-- the models that it reads, each with all above it
abbrev pub parents_of : Closure → Closures
parents_of (Model own parents) = parents

-- the closures as a list
abbrev pub each_of : Closures → List Closure
each_of Alone = []
each_of (With c cs) = c ∷ each_of cs

-- a closure and all that it stands on, as often as each is reached
abbrev mutual
  pub standing : Closure → List Closure
  standing (Model own parents) = Model own parents ∷ ancestors parents

  pub ancestors : Closures → List Closure
  ancestors Alone = []
  ancestors (With c cs) = standing c ++ ancestors cs

-- one more parent, where there is one
abbrev pub with_parent : Option Closure → Closures → Closures
with_parent None cs = cs
with_parent (Some c) cs = With c cs

-- the closures at these places, as parents
abbrev pub parents_at : List Closure → List ℕ → Closures
parents_at done [] = Alone
parents_at done (i ∷ is) = with_parent (slice_get done i) (parents_at done is)

-- the closures so far, and that of one more model
abbrev pub with_model : List Closure → Node → List Closure
with_model done n = done ++ Model n.own (parents_at done n.parents) ∷ []

-- a project as a list of closures, one for each model, each behind those of its parents
abbrev pub closures : List Node → List Closure
closures nodes = fold with_model [] nodes
