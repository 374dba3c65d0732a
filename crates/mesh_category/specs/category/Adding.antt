-- A definition that adds columns to another, part by part.
use Rattle.std.specs.Prelude.{◌≡◌, false, List, [], ◌∷◌}
use Rattle.mesh_base.specs.declared.queries.Query.{Query}
use Rattle.mesh_base.specs.declared.queries.Select.{Select}
use Rattle.mesh_base.specs.declared.definitions.Own.{Own}
use Rattle.mesh_spec_changes.specs.reuse.Compatible.{AreAmong}

-- two SELECTs that differ in nothing but their items
abbrev pub AreAlikeButItems : Select → Select → Type 0
AreAlikeButItems old new = new ≡ record old { items = new.items }

-- a SELECT without DISTINCT, and the same with more items
abbrev pub AddsItems : Select → Select → Type 0
AddsItems old new = (old.distinct ≡ false) × AreAlikeButItems old new × AreAmong old.items new.items

-- one SELECT each
abbrev pub AddsToOne : List Select → List Select → Type 0
AddsToOne [] news = ⊥
AddsToOne (old ∷ more) [] = ⊥
AddsToOne (old ∷ []) (new ∷ []) = AddsItems old new
AddsToOne (old ∷ []) (new ∷ n ∷ news) = ⊥
AddsToOne (old ∷ o ∷ olds) (new ∷ news) = ⊥

-- two queries of one SELECT each, over the same CTEs
abbrev pub AddsColumns : Query → Query → Type 0
AddsColumns old new = (old.ctes ≡ new.ctes) × AddsToOne old.selects new.selects

-- two models that differ in nothing but their bodies
abbrev pub AreAlikeButDefn : Own → Own → Type 0
AreAlikeButDefn old new = new ≡ record old { defn = new.defn }
