-- How a model of a project stands to the model of its name that it is compared with.
use Rattle.std.specs.Prelude.{◌≡◌, ℕ, Bool, not, List}
use Rattle.std.specs.List.{filter, list_any}
use Rattle.std.specs.Ordering.{is_eq}
use Rattle.std.specs.declared.option.Option.{Option}
use Rattle.std.specs.declared.option.Option.TheVariants.{None, Some}
use Rattle.mesh_base_values.specs.declared.values.Name.{Name}
use Rattle.mesh_base_values.specs.Names.{name_cmp}
use Rattle.mesh_base.specs.declared.plans.Category.{Category}
use Rattle.mesh_base.specs.declared.plans.Category.TheVariants.{Unchanged, Added, Breaking, NonBreaking, IndirectBreaking, IndirectNonBreaking}
use Rattle.mesh_spec_model.specs.Closures.{Closure, own_of}
use Rattle.mesh_spec_changes.specs.reuse.Compatible.{IsCompatible}

-- a model at a fingerprint, with all that it stands on
pub record Stated : Type 0 where
  pub fingerprint : List ℕ
  pub closure : Closure

-- the definitions by themselves are equal
abbrev pub IsOwnSame : Stated → Stated → Type 0
IsOwnSame old new = own_of old.closure ≡ own_of new.closure

-- nothing but columns was added, to the model or above it
abbrev pub AddsOnly : Stated → Stated → Type 0
AddsOnly old new = IsCompatible old.closure new.closure

-- the category of a model whose fingerprint is another one now
abbrev pub Changed : Stated → Stated → Category → Type 0
Changed old new Unchanged = ⊥
Changed old new Added = ⊥
Changed old new Breaking = (¬ IsOwnSame old new) × (¬ AddsOnly old new)
Changed old new NonBreaking = (¬ IsOwnSame old new) × AddsOnly old new
Changed old new IndirectBreaking = IsOwnSame old new × (¬ AddsOnly old new)
Changed old new IndirectNonBreaking = IsOwnSame old new × AddsOnly old new

-- the category is that of an equal fingerprint
abbrev pub IsUnchanged : Category → Type 0
IsUnchanged Unchanged = Unit {0}
IsUnchanged other = ⊥

-- the category is that of a model which was not there
abbrev pub IsAdded : Category → Type 0
IsAdded Added = Unit {0}
IsAdded other = ⊥

-- the one category of a model, beside what it is compared with
abbrev pub HasCategory : Option Stated → Stated → Category → Type 0
HasCategory None new category = IsAdded category
HasCategory (Some old) new category =
    (old.fingerprint ≡ new.fingerprint → IsUnchanged category) × (¬ (old.fingerprint ≡ new.fingerprint) → Changed old new category)

-- a name is one of these
abbrev pub is_among : List Name → Name → Bool
is_among names name = list_any (λ n. is_eq (name_cmp n name)) names

-- the models that the compared list has and the project doesn't have any more
abbrev pub removed : List Name → List Name → List Name
removed compared project = filter (λ n. not (is_among project n)) compared
