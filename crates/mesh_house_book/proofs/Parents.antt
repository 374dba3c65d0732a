-- Parents as references and as relations are the relations of a definition alike.
use Rattle.std.proofs.Common.{◌≡◌, Bool, ◌&&◌, ◌||◌, List, [], ◌∷◌, refl, ap}
use Rattle.std.specs.Ordering.{is_eq}
use Rattle.mesh_list.specs.Keyed.{ascends, below_first}
use Rattle.mesh_base_values.specs.declared.values.Name.{Name}
use Rattle.mesh_base.specs.declared.definitions.Own.{Own}
use Rattle.mesh_base.specs.declared.snapshots.Ref.{Ref}
use Rattle.mesh_base.specs.declared.snapshots.Snapshot.{Snapshot}
use Rattle.mesh_base_values.specs.Names.{name_cmp}
use Rattle.mesh_base.specs.rules.Relations.{parent_name, is_declared, is_parent as is_parent_model}
use Rattle.mesh_base.specs.rules.Proper.{defn_names, are_its_parents, are_named as are_named_relations, are_known as are_known_relations}
use Rattle.mesh_base.specs.Keys.{ref_name}
use Rattle.mesh_house_book.specs.Named.{is_parent, are_known, is_named, are_named, are_parents}
use Rattle.mesh_house_book.specs.WellFormed.{parents_of}

module _ (all : List Snapshot) where
  declared : (refs : List Ref) (name : Name) → is_parent refs name ≡ is_parent_model (parents_of all refs) name
  declared [] name = refl
  declared (r ∷ rs) name = ap (λ (b : Bool). is_eq (name_cmp r.name name) || b) (declared rs name)

  below : (name : Name) (refs : List Ref) → below_first name_cmp ref_name name refs ≡ below_first name_cmp parent_name name (parents_of all refs)
  below name [] = refl
  below name (r ∷ rs) = refl

  ascending : (refs : List Ref) → ascends name_cmp ref_name refs ≡ ascends name_cmp parent_name (parents_of all refs)
  ascending [] = refl
  ascending (r ∷ rs) = λ i. below r.name rs i && ascending rs i

  named : (refs : List Ref) (own : Own) → are_named own refs ≡ are_named_relations (parents_of all refs) own (defn_names own.defn)
  named [] own = refl
  named (r ∷ rs) own = ap (λ (b : Bool). is_named own r && b) (named rs own)

  known : (refs : List Ref) (own : Own) (names : List Name) → are_known refs own names ≡ are_known_relations (parents_of all refs) own names
  known refs own [] = refl
  known refs own (n ∷ ns) = λ i. (is_declared own.sources n || declared refs n i) && known refs own ns i

  pub parents_alike : (refs : List Ref) (own : Own) → are_parents refs own ≡ are_its_parents (parents_of all refs) own
  parents_alike refs own = λ i. ascending refs i && (named refs own i && known refs own (defn_names own.defn) i)
