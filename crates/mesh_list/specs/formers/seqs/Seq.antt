-- Where a `Seq` keeps its elements, so that the elements may hold a `Seq` of their own kind: in the vector that is
-- its only field, one after another. What a `Seq` has beside its elements is their number.
use mathlib.Core.Former.{Former, this, list, via, children}
use mathlib.Core.List.{List, []}
use mathlib.Core.Path.{◌≡◌, refl, sym}
use base.Stored.{code_map}
use denote.Hole.Carrier.{listed, list-listed}
use denote.Hole.Fix.{over}
use denote.HoleLaws.{Alike}
use denote.HolePlaces.{Recodes, struct_places, laid}
use denote.Model.Placed.{view_places}
use denote.Param.Weighed.{Weighed, w_list}
use denote.RattleType.{RattleType}
use Rattle.std.specs.contracts.alloc.Global as global
use Rattle.std.specs.contracts.impls.GlobalAllocator.TheImpl.{ghosts}
use Rattle.std.specs.declared.alloc.Global.{Global}
use Rattle.std.specs.contracts.vec.Vec as vectors
use Rattle.std.specs.declared.vec.Vec.{Vec}
use Rattle.std.specs.formers.vec.Vec as vector
use Rattle.mesh_list.specs.contracts.seqs.Seq as seq
use Rattle.mesh_list.specs.contracts.seqs.Seq.TheInside as fields
use Rattle.mesh_list.specs.declared.seqs.Seq.TheInside.{Inside}
use Rattle.mesh_list.specs.declared.seqs.Seq.TheView.{view, invariant}

-- as contracts see it, a `Seq` is the list of its elements
abbrev pub the_former : Former {0} → Former {0}
the_former element = list element

abbrev pub the_weighed : {element : Former {0}} → Weighed element → Weighed (the_former element)
the_weighed weight = w_list weight

pub the_empty : List ⊥
the_empty = []

abbrev pub the_items : (X : Type 0) → List X → List X
the_items X elements = elements

pub the_items_listed : (X : Type 0) (elements : List X) → listed _ (children (the_former this) X elements) ≡ the_items X elements
the_items_listed X elements = list-listed X elements

-- as it lies in memory, it is its vector and nothing else
abbrev vector_of : (X : Type 0) → Inside X → Vec X Global
vector_of X s = s.items

abbrev from_vector : (X : Type 0) → Vec X Global → Inside X
from_vector X v = record { items = v }

abbrev in_memory : Former {0}
in_memory = via (vector.the_former this Global) Inside vector_of from_vector (λ X s. refl) (λ X v. refl)

module _ (R S : RattleType) (h : R.Denot → S.Denot) where
  -- a vector of the one kind of elements lies as a vector of the other
  vectors_alike : Alike R S h → Alike (vectors.the_row R global.the_row ghosts) (vectors.the_row S global.the_row ghosts) (vector.mapped h)
  vectors_alike alike = vector.the_places global.the_row ghosts R S h alike

  pub the_places : Alike R S h → Alike (seq.the_row R) (seq.the_row S) ((the_former this).map R.Denot S.Denot h)
  the_places alike = view_places in_memory (list this) view (λ X Y k s. refl) (λ X s. refl) R.Denot S.Denot h
      (seq.the_row R).coded (seq.the_row S).coded (invariant R.Denot) (invariant S.Denot)
      (λ s p q. refl) (λ s p q. refl) (λ s p. tt) (λ s p. tt)
      (over (fields.the_row R)) (over (fields.the_row S))
      (struct_places (fields.the_type R) (fields.the_type S) (vector.mapped h, tt) _ (λ s. refl) refl
      (laid _ _ _ (vectors_alike alike), tt))

  pub the_codes_placed : Recodes R S h → Recodes (seq.the_row R) (seq.the_row S) ((the_former this).map R.Denot S.Denot h)
  the_codes_placed same_code elements = sym (code_map R.coded.code S.coded.code h (λ x. sym (same_code x)) elements)
