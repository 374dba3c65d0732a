-- What the own definition of a model asks of its file, its seed and its parents.
use Rattle.std.specs.Prelude.{◌≡◌, true, not, List, [], ◌∷◌, Some, map}
use Rattle.std.specs.List.{AllByRecursion, filter}
use Rattle.std.specs.Option.{ForSome, is_some}
use Rattle.std.specs.declared.option.Option.{Option}
use Rattle.mesh_list.specs.Keyed.{ascends, placed}
use Rattle.mesh_base_values.specs.Crons.{is_cron}
use Rattle.mesh_base_values.specs.Kinds.{is_incremental}
use Rattle.mesh_base_values.specs.Names.{name_cmp}
use Rattle.mesh_base_values.specs.declared.values.Name.{Name}
use Rattle.mesh_base_values.specs.declared.values.Seed.{Seed}
use Rattle.mesh_base.specs.declared.definitions.Own.{Own}
use Rattle.mesh_base.specs.declared.rules.relations.Parent.{Parent}
use Rattle.mesh_base.specs.rules.Proper.{is_among, is_plain_schema}
use Rattle.mesh_base.specs.rules.Relations.{is_parent, parent_name, relation_columns}
use Rattle.mesh_base.specs.rules.Seen.{are_distinct}
use Rattle.mesh_model_statement.specs.declared.model.model.ModelText.{ModelText}
use Rattle.mesh_resolve.specs.Owns.{is_seed}
use Rattle.mesh_resolve.specs.declared.known.Known.{Known}
use Rattle.mesh_law_reading.specs.Sight.{model_relation}

-- A model's file, as reading leaves it, with the seed that is there exactly for a SEED.
pub record IsReadModel (m : ModelText) (seed : Option Seed) : Type 0 where
  pub schema : is_plain_schema m.name.schema ≡ true
  pub cron : is_cron m.cron ≡ true
  pub start : is_incremental m.kind ≡ true → is_some m.start ≡ true
  pub written : is_some m.query ≡ not (is_seed m.kind)
  pub seeded : is_some seed ≡ is_seed m.kind
  pub distinct : ForSome seed (λ (s : Seed). are_distinct s.columns ≡ true)

-- The parents are the known models among these names, with their columns: each of them and no other, ascending by name.
pub record AreParentsAmong (known : Known) (names : List Name) (parents : List Parent) : Type 0 where
  pub ascend : ascends name_cmp parent_name parents ≡ true
  pub named : AllByRecursion (λ (p : Parent). is_among names p.name ≡ true) parents
  pub models : AllByRecursion (λ (p : Parent). relation_columns (map model_relation known.models) p.name ≡ Some p.columns) parents
  pub each : (name : Name) → is_among names name ≡ true → is_some (relation_columns (map model_relation known.models) name) ≡ true → is_parent parents name ≡ true

-- models by their names, the first of two of one name counting
abbrev pub by_name : List Parent → List Parent
by_name [] = []
by_name (p ∷ ps) = placed name_cmp parent_name p (by_name ps)

-- those among these names, ascending by name
abbrev pub parents_among : List Name → List Parent → List Parent
parents_among names models = by_name (filter (λ (p : Parent). is_among names p.name) models)

-- what a definition says beside its query is what its file says
pub record SaysAsItsFile (m : ModelText) (definition : Own) : Type 0 where
  pub name : definition.name ≡ m.name
  pub kind : definition.kind ≡ m.kind
  pub cron : definition.cron ≡ m.cron
  pub unit : definition.unit ≡ m.unit
  pub start : definition.start ≡ m.start
