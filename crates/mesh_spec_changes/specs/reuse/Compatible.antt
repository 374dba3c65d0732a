-- Models that only add columns to others.
use Rattle.std.specs.Prelude.{◌≡◌, false, ◌⊎◌, List, [], ◌∷◌}
use Rattle.mesh_base.specs.declared.queries.Item.{Item}
use Rattle.mesh_base.specs.declared.queries.Select.{Select}
use Rattle.mesh_base.specs.declared.definitions.Defn.TheVariants.{Sql}
use Rattle.mesh_base.specs.declared.definitions.Own.{Own}
use Rattle.mesh_spec_model.specs.Closures.{Closure, Closures, Model, Alone, With, own_of}

-- the items of the first list stand in the second, in the same order
pub data AreAmong : List Item → List Item → Type 0 where
  no_more : AreAmong [] []
  keep : {x : Item} {xs ys : List Item} → AreAmong xs ys → AreAmong (x ∷ xs) (x ∷ ys)
  skip : {y : Item} {xs ys : List Item} → AreAmong xs ys → AreAmong xs (y ∷ ys)

-- Both are one SELECT without DISTINCT, and the new one is the old one with more items. Nothing else differs.
pub record IsAdditive (old new : Own) : Type 0 where
  pub ctes : List (List Select)
  pub select : Select
  pub items : List Item
  pub plain : select.distinct ≡ false
  pub was : old.defn ≡ Sql (record { ctes = ctes; selects = select ∷ [] })
  pub more : AreAmong select.items items
  pub is : new ≡ record old { defn = Sql (record { ctes = ctes; selects = record select { items = items } ∷ [] }) }

-- The new definition is the old one or adds columns to it, the parents have the same names, and each is so compatible
-- with the old one of its name.
abbrev mutual
  pub IsCompatible : Closure → Closure → Type 0
  IsCompatible (Model old parents) (Model new parents') = ((old ≡ new) ⊎ IsAdditive old new) × AreCompatible parents parents'

  pub AreCompatible : Closures → Closures → Type 0
  AreCompatible Alone Alone = Unit {0}
  AreCompatible (With c cs) (With d ds) = ((own_of c).name ≡ (own_of d).name) × IsCompatible c d × AreCompatible cs ds
  AreCompatible Alone (With d ds) = ⊥
  AreCompatible (With c cs) Alone = ⊥
