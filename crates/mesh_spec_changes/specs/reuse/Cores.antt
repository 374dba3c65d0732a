-- What a model needs of its ancestors, and models that need the same.
use Rattle.std.specs.Prelude.{◌≡◌, ℕ, Bool, false, ◌||◌, if◌then◌else◌, List, [], ◌∷◌}
use Rattle.std.specs.List.{filter, list_any}
use Rattle.std.specs.declared.option.Option.{Option}
use Rattle.std.specs.declared.option.Option.TheVariants.{None, Some}
use Rattle.mesh_base_values.specs.Kinds.{time_column}
use Rattle.mesh_base_values.specs.Picked.{same_text}
use Rattle.mesh_base.specs.declared.queries.Item.{Item}
use Rattle.mesh_base.specs.declared.queries.Select.{Select}
use Rattle.mesh_base.specs.declared.definitions.Defn.{Defn}
use Rattle.mesh_base.specs.declared.definitions.Defn.TheVariants.{Seed, Sql}
use Rattle.mesh_base.specs.declared.definitions.Own.{Own}
use Rattle.mesh_spec_model.specs.Closures.{Closure, Closures, Model, Alone, With, own_of}
use Rattle.mesh_law_query.specs.Reads.{reads}

-- a name is that of the time column, where there is one
abbrev pub is_time : Option (List ℕ) → List ℕ → Bool
is_time None name = false
is_time (Some time) name = same_text time name

-- an item is wanted, or is the time column
abbrev pub is_wanted : List (List ℕ) → Option (List ℕ) → Item → Bool
is_wanted wanted time i = list_any (λ n. same_text n i.name) wanted || is_time time i.name

-- a SELECT with only these items; one with DISTINCT keeps all
abbrev pub pruned_select : List (List ℕ) → Option (List ℕ) → Select → Select
pruned_select wanted time s = if s.distinct then s else record s { items = filter (is_wanted wanted time) s.items }

-- one SELECT alone loses items; a UNION ALL keeps all
abbrev pub pruned_selects : List (List ℕ) → Option (List ℕ) → List Select → List Select
pruned_selects wanted time [] = []
pruned_selects wanted time (s ∷ []) = pruned_select wanted time s ∷ []
pruned_selects wanted time (s ∷ t ∷ more) = s ∷ t ∷ more

-- so does a query, whose CTEs stay; a seed keeps all its columns
abbrev pub pruned_defn : List (List ℕ) → Option (List ℕ) → Defn → Defn
pruned_defn wanted time (Seed columns rows) = Seed columns rows
pruned_defn wanted time (Sql q) = Sql (record q { selects = pruned_selects wanted time q.selects })

-- a model without the columns that nothing asks for
abbrev pub pruned_own : List (List ℕ) → Own → Own
pruned_own wanted own = record own { defn = pruned_defn wanted (time_column own.kind) own.defn }

-- a model with only the items that are wanted, and each parent with only those that the rest reads
abbrev mutual
  pub pruned : List (List ℕ) → Closure → Closure
  pruned wanted (Model own parents) = Model (pruned_own wanted own) (pruned_for (pruned_own wanted own) parents)

  pub pruned_for : Own → Closures → Closures
  pruned_for own Alone = Alone
  pruned_for own (With c cs) = With (pruned (reads own (own_of c).name) c) (pruned_for own cs)

-- a model as it is, each parent with only what it reads
abbrev pub core : Closure → Closure
core (Model own parents) = Model own (pruned_for own parents)

-- models that need the same
abbrev pub IsTwin : Closure → Closure → Type 0
IsTwin a b = core a ≡ core b
