-- Where a `Boxed` keeps its value, so that the value may hold a `Boxed` of its own kind: behind the box that is its
-- only field.
use mathlib.Core.Former.{Former, this, const, pair, via}
use mathlib.Core.Path.{refl}
use base.Fml.{ftrue}
use base.Stored.{gnil}
use denote.Hole.Fix.{over}
use denote.HoleLaws.{Alike}
use denote.HolePlaces.{Recodes, struct_places, laid, one_value}
use denote.Memory.{part_of}
use denote.Model.Placed.{view_places}
use denote.Param.Weighed.{Weighed}
use denote.RattleType.{RattleType}
use denote.RawPtr.{Ptr}
use denote.Sharing.{nothing}
use Rattle.std.specs.contracts.alloc.Global as global
use Rattle.std.specs.contracts.boxed.Box as boxes
use Rattle.std.specs.contracts.impls.GlobalAllocator.TheImpl.{ghosts}
use Rattle.std.specs.declared.alloc.Global.{Global}
use Rattle.std.specs.declared.boxed.Box.{Box}
use Rattle.mesh_list.specs.contracts.boxes.Boxed as boxed
use Rattle.mesh_list.specs.contracts.boxes.Boxed.TheInside as fields
use Rattle.mesh_list.specs.declared.boxes.Boxed.TheInside.{Inside}
use Rattle.mesh_list.specs.declared.boxes.Boxed.TheView.{view, invariant}

-- as contracts see it, a `Boxed` is its value
abbrev pub the_former : Former {0} → Former {0}
the_former held = held

abbrev pub the_weighed : {held : Former {0}} → Weighed held → Weighed (the_former held)
the_weighed weight = weight

-- a box of `R`'s values in the memory of the program
abbrev box_type : RattleType → RattleType
box_type R = boxes.the_row R global.the_row ghosts

-- the same block of memory with another value in it
abbrev holding : {X Y : Type 0} → Box X Global → Y → Box Y Global
holding b value = record { ptr = b.ptr; alloc = b.alloc; value = value }

-- as it lies in memory, it is an address, an allocator and the value behind the address
abbrev taken_apart : (X : Type 0) → Inside X → (Ptr × Global) × X
taken_apart X b = ((b.inner.ptr, b.inner.alloc), b.inner.value)

abbrev put_together : (X : Type 0) → (Ptr × Global) × X → Inside X
put_together X parts = record { inner = record { ptr = parts.0.0; alloc = parts.0.1; value = parts.1 } }

abbrev in_memory : Former {0}
in_memory = via (pair (const (Ptr × Global)) this) Inside taken_apart put_together (λ X b. refl) (λ X parts. refl)

module _ (R S : RattleType) (h : R.Denot → S.Denot) where
  abbrev moved : Box R.Denot Global → Box S.Denot Global
  moved b = holding b (h b.value)

  -- a box of the one kind of values lies as a box of the other: what it owns and lends is read with the value left open
  boxes_alike : Alike R S h → Alike (box_type R) (box_type S) moved
  unfolding part_of
  boxes_alike alike = record {
    mir_same = λ i. (box_type (one_value R (alike.mir_same i) (λ _. ftrue) (λ _ _. nothing) gnil)).mir;
    own_same = λ b i. (box_type (one_value R (alike.mir_same i) (alike.own_same b.value i) (alike.shr_same b.value i) gnil)).own_val (holding b tt);
    shr_same = λ b i. (box_type (one_value R (alike.mir_same i) (alike.own_same b.value i) (alike.shr_same b.value i) gnil)).shr_at (holding b tt);
  }

  pub the_places : Alike R S h → Alike (boxed.the_row R) (boxed.the_row S) ((the_former this).map R.Denot S.Denot h)
  the_places alike = view_places in_memory this view (λ X Y k b. refl) (λ X b. refl) R.Denot S.Denot h
      (boxed.the_row R).coded (boxed.the_row S).coded (invariant R.Denot) (invariant S.Denot)
      (λ b p q. refl) (λ b p q. refl) (λ b p. tt) (λ b p. tt)
      (over (fields.the_row R)) (over (fields.the_row S))
      (struct_places (fields.the_type R) (fields.the_type S) (moved, tt) _ (λ b. refl) refl
      (laid _ _ _ (boxes_alike alike), tt))

  pub the_codes_placed : Recodes R S h → Recodes (boxed.the_row R) (boxed.the_row S) ((the_former this).map R.Denot S.Denot h)
  the_codes_placed same_code value = same_code value
