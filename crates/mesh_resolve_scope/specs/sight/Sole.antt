-- Whether there is none, one or more of something, as the indexes of a `Sight` keep it for each name.
use Rattle.std.specs.Prelude.{◌≡◌, ℕ, suc, List, [], ◌∷◌, Result, Ok, Err, if◌then◌else◌}
use Rattle.std.specs.BTreeMap.{BTreeMap, get}
use Rattle.std.specs.declared.option.Option.{Option}
use Rattle.std.specs.declared.option.Option.TheVariants.{None, Some}
use Rattle.mesh_base_values.specs.Names.{text_cmp}
use Rattle.mesh_base_values.specs.Picked.{same_text}
use Rattle.mesh_query_tokens.specs.declared.faults.ReadFault.{ReadFault}
use Rattle.mesh_resolve_types.specs.Faults.{unknown_column, ambiguous}
use Rattle.mesh_resolve_scope.specs.declared.sight.sight.Seen.{Seen}
use Rattle.mesh_resolve_scope.specs.declared.sight.sight.Meant.{Meant}
use Rattle.mesh_resolve_scope.specs.sight.Sight.{meant}

-- none, the only one, or `Some None` for several
abbrev pub sole : {A : Type 0} → List A → Option (Option A)
sole [] = None
sole (x ∷ []) = Some (Some x)
sole (x ∷ y ∷ zs) = Some None

-- the same of two lists together
abbrev pub sole_of_both : {A : Type 0} → Option (Option A) → Option (Option A) → Option (Option A)
sole_of_both None more = more
sole_of_both (Some x) None = Some x
sole_of_both (Some x) (Some y) = Some None

-- the meaning of a name, by what it may mean
abbrev pub the_one_by : ℕ → List ℕ → Option (Option Meant) → Result Meant ReadFault
the_one_by at name None = Err (unknown_column at name)
the_one_by at name (Some None) = Err (ambiguous at name)
the_one_by at name (Some (Some m)) = Ok m

-- where the FROM items of that name stand, counted from n
abbrev pub places_from : ℕ → List ℕ → List Seen → List ℕ
places_from n name [] = []
places_from n name (d ∷ ds) = if same_text d.name name then n ∷ places_from (suc n) name ds else places_from (suc n) name ds

-- the indexes have each name
pub record IsIndexed (from : List Seen) (columns : BTreeMap (List ℕ) (Option Meant)) (places : BTreeMap (List ℕ) (Option ℕ)) : Type 0 where
  pub by_column : (name : List ℕ) → get text_cmp columns name ≡ sole (meant None name from)
  pub by_item : (name : List ℕ) → get text_cmp places name ≡ sole (places_from 0 name from)
