-- When a fingerprint doesn't stand for one model, and the first model of a project at which that shows.
use Rattle.std.specs.Prelude.{◌≡◌, ◌⊎◌, ℕ, Bool, true, not, ◌&&◌, List, [], ◌∷◌, map, take, None, Some}
use Rattle.std.specs.List.{All, Contains, find, flat_map, slice_get}
use Rattle.std.specs.Option.{is_some, option_and_then, option_map, option_to_list}
use Rattle.std.specs.declared.option.Option.{Option}
use Rattle.mesh_list.specs.Keyed.{found}
use Rattle.mesh_base_values.specs.Names.{name_cmp}
use Rattle.mesh_base_values.specs.Picked.{same_text}
use Rattle.mesh_base_values.specs.declared.values.Name.{Name}
use Rattle.mesh_base.specs.Keys.{ref_name}
use Rattle.mesh_base.specs.declared.plans.Category.{Category}
use Rattle.mesh_base.specs.declared.snapshots.Node.{Node}
use Rattle.mesh_base.specs.declared.snapshots.Ref.{Ref}
use Rattle.mesh_base.specs.declared.snapshots.Snapshot.{Snapshot}
use Rattle.mesh_query_tokens.specs.declared.faults.FaultKind.{FaultKind}
use Rattle.mesh_query_tokens.specs.declared.faults.FaultKind.TheVariants.{FingerprintClash}
use Rattle.mesh_house_book.specs.WellFormed.{snapshot_at}
use Rattle.mesh_spec_changes.specs.listed.Closing.{IsSnapshot}
use Rattle.mesh_spec_changes.specs.due.Parts.{same_name}
use Rattle.mesh_spec_changes.specs.due.Versions.{node_ref, table_name, version}
use Rattle.mesh_category.specs.declared.versions.faults.PlanFault.{PlanFault}
use Rattle.mesh_category.specs.declared.versions.faults.PlanFault.TheVariants.{Model, Moment, EnvUnknown, EnvPending, Memory}

-- the snapshot that a list has of a model
abbrev pub compared_in : List Snapshot → List Ref → Name → Option Snapshot
compared_in all base name = option_and_then (snapshot_at all) (found name_cmp ref_name name base)

-- the object of each model of a project, by its category beside what the list has of it
abbrev pub versions : List Snapshot → List Ref → List Node → List Category → List (Option Name)
versions all base [] categories = []
versions all base (n ∷ ns) [] = []
versions all base (n ∷ ns) (k ∷ ks) = version all (compared_in all base n.own.name) k n ∷ versions all base ns ks

-- the references of the models at some places, and of a model's parents
abbrev pub refs_at : List Node → List ℕ → List Ref
refs_at nodes places = map node_ref (flat_map (λ i. option_to_list (slice_get nodes i)) places)

abbrev pub parent_refs : List Node → Node → List Ref
parent_refs nodes n = refs_at nodes n.parents

-- A fingerprint is made of a definition and the parents with their fingerprints, so one that stands for two of these
-- clashes. A snapshot is of a model where it has its definition and its parents, and two models are one likewise.
abbrev pub IsOf : List Node → Node → Snapshot → Type 0
IsOf nodes n s = (s.own ≡ n.own) × (s.parents ≡ parent_refs nodes n)

abbrev pub AreOne : List Node → Node → Node → Type 0
AreOne nodes n m = (m.own ≡ n.own) × (parent_refs nodes m ≡ parent_refs nodes n)

-- each stored snapshot of the model's fingerprint is of it, or some isn't
abbrev pub SuitsBook : List Snapshot → List Node → Node → Type 0
SuitsBook all nodes n = (s : Snapshot) → IsSnapshot all s → s.fingerprint ≡ n.fingerprint → IsOf nodes n s

abbrev pub ClashesWithBook : List Snapshot → List Node → Node → Type 0
ClashesWithBook all nodes n = (s : Snapshot) × IsSnapshot all s × (s.fingerprint ≡ n.fingerprint) × (¬ IsOf nodes n s)

-- each model of the project at the model's fingerprint is the same, or some isn't
abbrev pub SuitsProject : List Node → Node → Type 0
SuitsProject nodes n = (m : Node) → Contains nodes m → m.fingerprint ≡ n.fingerprint → AreOne nodes n m

abbrev pub ClashesWithProject : List Node → Node → Type 0
ClashesWithProject nodes n = (m : Node) × Contains nodes m × (m.fingerprint ≡ n.fingerprint) × (¬ AreOne nodes n m)

-- a model's fingerprint stands for it alone
pub record IsAlone (all : List Snapshot) (nodes : List Node) (n : Node) : Type 0 where
  pub book : SuitsBook all nodes n
  pub project : SuitsProject nodes n

-- the first snapshot of another fingerprint that has the last of a model's four names
abbrev pub has_last : Node → Snapshot → Bool
has_last n s = not (same_text s.fingerprint n.fingerprint) && same_name s.object (table_name n.own.name n.fingerprint 3)

abbrev pub taker : List Snapshot → Node → Option Snapshot
taker all n = find (has_last n) all

-- a fresh name is looked for, and snapshots of other fingerprints have all four; the first that has the last is of
-- this one
pub record AreAllTaken (all : List Snapshot) (base : List Ref) (category : Category) (n : Node) (stored : List ℕ) : Type 0 where
  pub none : version all (compared_in all base n.own.name) category n ≡ None
  pub by_ : option_map (λ (s : Snapshot). s.fingerprint) (taker all n) ≡ Some stored

-- A model clashes with a stored fingerprint: with its own, which stands for something else in the book or the
-- project, or else with that of a snapshot that has a name which it needs.
abbrev pub Clashes : List Snapshot → List Node → List Ref → Category → Node → List ℕ → Type 0
Clashes all nodes base category n stored =
    ((ClashesWithBook all nodes n ⊎ ClashesWithProject nodes n) × (stored ≡ n.fingerprint))
    ⊎ (IsAlone all nodes n × AreAllTaken all base category n stored)

-- why a model gets no object
abbrev pub RefusesModel : List Snapshot → List Node → List Ref → Category → Node → PlanFault → Type 0
RefusesModel all nodes base category n (Model name kind) = (stored : List ℕ) × Clashes all nodes base category n stored × (name ≡ n.own.name) × (kind ≡ FingerprintClash stored n.fingerprint)
RefusesModel all nodes base category n (Moment given kept) = ⊥
RefusesModel all nodes base category n EnvUnknown = ⊥
RefusesModel all nodes base category n EnvPending = ⊥
RefusesModel all nodes base category n Memory = Unit {0}

-- a clash with a stored fingerprint, as it is told where there is memory for it
abbrev pub TellsClash : List ℕ → Node → PlanFault → Type 0
TellsClash stored n (Model name kind) = (name ≡ n.own.name) × (kind ≡ FingerprintClash stored n.fingerprint)
TellsClash stored n (Moment given kept) = ⊥
TellsClash stored n EnvUnknown = ⊥
TellsClash stored n EnvPending = ⊥
TellsClash stored n Memory = Unit {0}

-- a clash is told of the first model, by rank and name, that has one
pub record IsFirstClash (all : List Snapshot) (nodes : List Node) (base : List Ref) (categories : List Category) (name : Name) (kind : FaultKind) : Type 0 where
  pub at : ℕ
  pub model : Node
  pub category : Category
  pub stored : List ℕ
  pub is : slice_get nodes at ≡ Some model
  pub its : slice_get categories at ≡ Some category
  pub clashes : Clashes all nodes base category model stored
  pub alone : All (IsAlone all nodes) (take at nodes)
  pub placed : All (λ object. is_some object ≡ true) (take at (versions all base nodes categories))
  pub named : name ≡ model.own.name
  pub said : kind ≡ FingerprintClash stored model.fingerprint

-- why a project gets no objects
abbrev pub Refuses : List Snapshot → List Node → List Ref → List Category → PlanFault → Type 0
Refuses all nodes base categories (Model name kind) = IsFirstClash all nodes base categories name kind
Refuses all nodes base categories (Moment given kept) = ⊥
Refuses all nodes base categories EnvUnknown = ⊥
Refuses all nodes base categories EnvPending = ⊥
Refuses all nodes base categories Memory = Unit {0}
