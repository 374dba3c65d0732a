-- What is known along a list of changes.
use Rattle.std.proofs.Common.{◌≡◌, Bool, true, false, List, [], ◌∷◌, ◌++◌, map, refl, sym, ap, ◌∙◌, subst}
use Rattle.std.specs.Prelude.{not, ◌&&◌, ◌||◌}
use Rattle.std.specs.List.{list_any}
use Rattle.mesh_base.specs.declared.forgets.Forget.{Forget}
use Rattle.mesh_house.specs.declared.world.Change.{Change}
use Rattle.mesh_house.specs.declared.world.World.{World}
use Rattle.mesh_house.specs.Step.{run, step}
use Rattle.mesh_spec_changes.specs.due.Parts.{Parts}
use Rattle.mesh_spec_promise.specs.Histories.{left, taken_by}
use Rattle.mesh_spec_promise.specs.Sound.{Sound}
use Rattle.mesh_spec_promise.proofs.Doubts.{doubted}
use Rattle.mesh_law_changes.proofs.Lefts.{left_appended}
use Rattle.mesh_law_changes.specs.along.Along.{StaysAlong}

-- no part leaves doubt by no change, and none comes into doubt by any
pub left_none : (x : Parts) (q : Forget) → left [] x q ≡ false → x q ≡ false
left_none x q h = go (x q) h
  where
    go : (b : Bool) → (b && not false) ≡ false → b ≡ false
    go true h = absurd (let clash : true ≡ false = h in cc)
    go false h = refl

pub left_fewer : (made : List Change) (x : Parts) (q : Forget) → x q ≡ false → left made x q ≡ false
left_fewer made x q h = ap (λ (b : Bool). b && not (list_any (λ c. taken_by c q) made)) h

pub left_more : (made : List Change) (x y : Parts) → ((q : Forget) → y q ≡ false → x q ≡ false) → (q : Forget) → left made y q ≡ false → left made x q ≡ false
left_more made x y more q h = go (x q) (y q) (list_any (λ c. taken_by c q) made) (more q) h
  where
    go : (a b t : Bool) → (b ≡ false → a ≡ false) → (b && not t) ≡ false → (a && not t) ≡ false
    go false b t f h = refl
    go true false t f h = absurd (let clash : true ≡ false = f refl in cc)
    go true true t f h = h

-- the parts in doubt after a list and one more are those of both as one
pub left_both : (made more : List Change) (x : Parts) → left (made ++ more) x ≡ left more (left made x)
left_both made more x = λ i q. left_appended made more x q i

-- a world is sound where it stays so along a list, and after it
pub along_begin : (x : Parts) (w : World) (list : List Change) → StaysAlong x w list → Sound x w
along_begin x w [] h = h
along_begin x w (c ∷ cs) h = h.0

-- along a list and then another one
pub along_append : (x : Parts) (w : World) (list more : List Change) → StaysAlong x w list → StaysAlong (left list x) (run w list) more → StaysAlong x w (list ++ more)
along_append x w [] more h k = go more k
  where
    go : (more : List Change) → StaysAlong (left [] x) w more → StaysAlong x w more
    go more k = subst (λ (y : Parts). StaysAlong y w more) same k
      where
        and_true : (b : Bool) → (b && not false) ≡ b
        and_true true = refl
        and_true false = refl

        same : left [] x ≡ x
        same = λ i q. and_true (x q) i
along_append x w (c ∷ cs) more h k =
    (h.0, along_append (left (c ∷ []) x) (step w c) cs more h.1 (subst (λ (y : Parts). StaysAlong y (run w (c ∷ cs)) more) (left_both (c ∷ []) cs x) k))

-- one change, after which the world is sound
pub along_one : (x : Parts) (w : World) (c : Change) → Sound x w → Sound (left (c ∷ []) x) (step w c) → StaysAlong x w (c ∷ [])
along_one x w c h k = (h, k)

-- a world that is sound after a change that takes nothing out of doubt, or not for sure
pub along_kept : (x : Parts) (w : World) (c : Change) → Sound x w → Sound x (step w c) → ((q : Forget) → taken_by c q ≡ false) → StaysAlong x w (c ∷ [])
along_kept x w c h k none = (h, subst (λ (y : Parts). Sound y (step w c)) (sym same) k)
  where
    kept : (a t : Bool) → t ≡ false → (a && not (t || false)) ≡ a
    kept true false e = refl
    kept false t e = refl
    kept true true e = absurd (let clash : true ≡ false = e in cc)

    same : left (c ∷ []) x ≡ x
    same = λ i q. kept (x q) (taken_by c q) (none q) i

-- such a change, and then more
pub along_then : (x : Parts) (w : World) (c : Change) (cs : List Change) → Sound x w → ((q : Forget) → taken_by c q ≡ false) → StaysAlong x (step w c) cs → StaysAlong x w (c ∷ cs)
along_then x w c cs h none k = (h, subst (λ (y : Parts). StaysAlong y (step w c) cs) (sym same) k)
  where
    kept : (a t : Bool) → t ≡ false → (a && not (t || false)) ≡ a
    kept true false e = refl
    kept false t e = refl
    kept true true e = absurd (let clash : true ≡ false = e in cc)

    same : left (c ∷ []) x ≡ x
    same = λ i q. kept (x q) (taken_by c q) (none q) i

-- changes that take nothing out of doubt leave all in doubt that was
pub left_same : {A : Type 0} (f : A → Change) → ((a : A) (q : Forget) → taken_by (f a) q ≡ false) → (items : List A) (x : Parts) → left (map f items) x ≡ x
left_same {A} f none items x = λ i q. kept (x q) (list_any (λ c. taken_by c q) (map f items)) (none_of items q) i
  where
    none_of : (bs : List A) (q : Forget) → list_any (λ c. taken_by c q) (map f bs) ≡ false
    none_of [] q = refl
    none_of (c ∷ cs) q = ap (λ (t : Bool). t || list_any (λ d. taken_by d q) (map f cs)) (none c q) ∙ none_of cs q

    kept : (a t : Bool) → t ≡ false → (a && not t) ≡ a
    kept true false e = refl
    kept false t e = refl
    kept true true e = absurd (let clash : true ≡ false = e in cc)

-- along changes that take nothing out of doubt, and then more
pub along_and_then : (x : Parts) (w : World) (list more : List Change) → left list x ≡ x → StaysAlong x w list → StaysAlong x (run w list) more → StaysAlong x w (list ++ more)
along_and_then x w list more same h k = along_append x w list more h (subst (λ (y : Parts). StaysAlong y (run w list) more) (sym same) k)

-- along a front of a list
pub along_front : (x : Parts) (w : World) (made rest : List Change) → StaysAlong x w (made ++ rest) → Sound (left made x) (run w made)
along_front x w [] rest h = doubted x (left [] x) w (λ q e. left_none x q e) (along_begin x w rest h)
along_front x w (c ∷ cs) rest h = subst (λ (y : Parts). Sound y (run w (c ∷ cs))) (sym (left_both (c ∷ []) cs x)) (along_front (left (c ∷ []) x) (step w c) cs rest h.1)

-- after the whole list
pub along_end : (x : Parts) (w : World) (list : List Change) → StaysAlong x w list → Sound (left list x) (run w list)
along_end x w [] h = doubted x (left [] x) w (λ q e. left_none x q e) h
along_end x w (c ∷ cs) h = subst (λ (y : Parts). Sound y (run w (c ∷ cs))) (sym (left_both (c ∷ []) cs x)) (along_end (left (c ∷ []) x) (step w c) cs h.1)

-- with more in doubt
pub along_more : (x y : Parts) (w : World) (list : List Change) → ((q : Forget) → y q ≡ false → x q ≡ false) → StaysAlong x w list → StaysAlong y w list
along_more x y w [] more h = doubted x y w more h
along_more x y w (c ∷ cs) more h = (doubted x y w more h.0, along_more (left (c ∷ []) x) (left (c ∷ []) y) (step w c) cs (left_more (c ∷ []) x y more) h.1)
