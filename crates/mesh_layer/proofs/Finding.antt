-- Calls that look for something, one after another.
use Rattle.std.proofs.Common.{◌≡◌, ◌⊎◌, ⊎_elim, ℕ, ◌+◌, ◌<◌, List, [], ◌∷◌, ◌++◌, length, map, take, get_or, Some, Ok, Err, Result, refl, sym, ◌∙◌, ap, arith}
use Rattle.std.proofs.lemmas.List.{map_more}
use Rattle.std.specs.Result.{IsErrAnd}
use Rattle.std.specs.declared.option.Option.{Option}
use Rattle.mesh_list.specs.Counts.{Rose}
use Rattle.mesh_base_values.specs.declared.values.Name.{Name}
use Rattle.mesh_house.specs.declared.world.World.{World}
use Rattle.mesh_house.specs.declared.house.WhFail.{WhFail}
use Rattle.mesh_house.specs.declared.house.WhFail.TheVariants as house
use Rattle.mesh_house.specs.House.{Told, Reads}
use Rattle.mesh_layer.specs.declared.faults.ShowFault.{ShowFault}
use Rattle.mesh_layer.specs.declared.faults.ShowFault.TheVariants as fault
use Rattle.mesh_layer.specs.Shows.{IsUntouched, Finds, of_house}

-- one more of what is made of a list
pub one_more : {A B : Type 0} (f : A → B) (xs : List A) (i : ℕ) (x : A) (ys : List B) (y : B) → i < length xs → x ≡ get_or xs i x → ys ≡ map f (take i xs) → y ≡ f x → ys ++ y ∷ [] ≡ map f (take (i + 1) xs)
one_more f xs i x ys y lt here all is = (λ k. all k ++ (is ∙ ap f here) k ∷ []) ∙ sym (map_more f xs i x lt)

-- something is so of the world that a house told at first, where something else is given
pub record Has (given fact : World → Type 0) (old new : Told) : Type 0 where
  pub untouched : IsUntouched old new
  pub told : (w : World) → old.world ≡ Some w → given w → fact w

pub stays : (a : Told) → IsUntouched a a
stays a = record { world = refl; calls = refl; faults = omega arith }

pub by_read : {X : Type 0} (answer : World → X) (a b : Told) (r : Result X WhFail) → Reads answer a b r → IsUntouched a b
by_read answer a b r h = record { world = h.world; calls = h.calls; faults = h.faults }

pub and_then : (a b c : Told) → IsUntouched a b → IsUntouched b c → IsUntouched a c
and_then a b c p q = record { world = q.world ∙ p.world; calls = q.calls ∙ p.calls; faults = omega (arith, p.faults, q.faults) }

pub told_later : (a b : Told) (w : World) → IsUntouched a b → a.world ≡ Some w → b.world ≡ Some w
told_later a b w p is = p.world ∙ is

-- what was read is what the world has
pub read_is : {X : Type 0} (answer : World → X) (a b : Told) (x : X) → Reads answer a b (Ok x) → (w : World) → a.world ≡ Some w → x ≡ answer w
read_is answer a b x h w is = rw is at h.ok

-- a reading fails where an earlier one failed
pub read_fails : {X Y : Type 0} (answer : World → X) (wanted : World → Y) (a b : Told) (e : WhFail) (r : Result Y WhFail) → Reads answer a b (Err e) → IsErrAnd r (λ y. y ≡ e) → Reads wanted a b r
read_fails answer wanted a b e (Ok x) h is = absurd is
read_fails answer wanted a b e (Err y) h is = record {
  world = h.world;
  calls = h.calls;
  faults = h.faults;
  failed = λ y_is. let e_is : Err e ≡ Err house.Failed = cc in h.failed e_is;
  ok = tt;
}

-- or where memory ran out behind it
pub read_wants : {X Y : Type 0} (answer : World → X) (wanted : World → Y) (a b : Told) (q : Result X WhFail) (r : Result Y WhFail) → Reads answer a b q → IsErrAnd r (λ y. y ≡ house.Memory) → Reads wanted a b r
read_wants answer wanted a b q (Ok x) h is = absurd is
read_wants answer wanted a b q (Err y) h is = record {
  world = h.world;
  calls = h.calls;
  faults = h.faults;
  failed = λ y_is. absurd (cc);
  ok = tt;
}

rose_later : (a b c : Told) → IsUntouched a b → Rose b.faults c.faults → Rose a.faults c.faults
rose_later a b c p rose = omega (arith, p.faults, rose)

module _ {T : Type 0} (given : World → Type 0) (found : World → T → Type 0) (lost : World → Option Name) where
  -- an answer
  pub answers : (a b : Told) (x : T) → IsUntouched a b → ((w : World) → a.world ≡ Some w → given w → found w x) → Finds given found lost a b (Ok x)
  answers a b x p is = record { untouched = p; ok = is; dangling = λ o e. absurd (cc); failed = λ e. absurd (cc) }

  -- memory ran out
  pub wants : (a b : Told) (r : Result T ShowFault) → IsUntouched a b → IsErrAnd r (λ y. y ≡ fault.Memory) → Finds given found lost a b r
  wants a b (Ok x) p is = absurd is
  wants a b (Err y) p is = record { untouched = p; ok = tt; dangling = λ o e. absurd (cc); failed = λ e. absurd (cc) }

  -- a call of the house failed
  pub house_fails : {X : Type 0} (answer : World → X) (a b c : Told) (e : WhFail) (r : Result T ShowFault) → IsUntouched a b → Reads answer b c (Err e) → IsErrAnd r (λ y. y ≡ of_house e) → Finds given found lost a c r
  house_fails answer a b c e (Ok x) p h is = absurd is
  house_fails answer a b c house.Memory (Err y) p h is = wants a c (Err y) (and_then a b c p (by_read answer b c (Err house.Memory) h)) is
  house_fails answer a b c house.Failed (Err y) p h is = record {
    untouched = and_then a b c p (by_read answer b c (Err house.Failed) h);
    ok = tt;
    dangling = λ o e. absurd (let w : y ≡ fault.Warehouse = is in cc);
    failed = λ e. rose_later a b c p (h.failed refl);
  }

  -- an earlier part failed
  pub part_fails : {S : Type 0} (given' : World → Type 0) (found' : World → S → Type 0) (lost' : World → Option Name) (a b c : Told) (e : ShowFault) (r : Result T ShowFault) → IsUntouched a b → Finds given' found' lost' b c (Err e) → IsErrAnd r (λ y. y ≡ e)
      → ((w : World) → a.world ≡ Some w → given w → given' w × ((o : Name) → lost' w ≡ Some o → lost w ≡ Some o)) → Finds given found lost a c r
  part_fails given' found' lost' a b c e (Ok x) p h is more = absurd is
  part_fails given' found' lost' a b c e (Err y) p h is more = record {
    untouched = and_then a b c p h.untouched;
    ok = tt;
    dangling = λ o y_is w told g.
        let e_is : Err e ≡ Err (fault.Dangling o) = cc in
        let here = more w told g in
        here.1 o (h.dangling o e_is w (told_later a b w p told) here.0);
    failed = λ y_is. let e_is : Err e ≡ Err fault.Warehouse = cc in rose_later a b c p (h.failed e_is);
  }

  -- a last part answers
  pub passes_on : (given' : World → Type 0) (found' : World → T → Type 0) (lost' : World → Option Name) (a b c : Told) (r : Result T ShowFault) → IsUntouched a b → Finds given' found' lost' b c r
      → ((w : World) → a.world ≡ Some w → given w → given' w × ((x : T) → found' w x → found w x) × ((o : Name) → lost' w ≡ Some o → lost w ≡ Some o)) → Finds given found lost a c r
  passes_on given' found' lost' a b c (Ok x) p h more =
      answers a c x (and_then a b c p h.untouched) (λ w told g. let here = more w told g in here.1 x (h.ok w (told_later a b w p told) here.0))
  passes_on given' found' lost' a b c (Err e) p h more =
      part_fails given' found' lost' a b c e (Err e) p h refl (λ w told g. let here = more w told g in (here.0, here.2))

  -- an object dangles
  pub dangles : (a b : Told) (f : ShowFault) (n : Name) → IsUntouched a b → (f ≡ fault.Dangling n) ⊎ (f ≡ fault.Memory) → ((w : World) → a.world ≡ Some w → given w → lost w ≡ Some n) → Finds given found lost a b (Err f)
  dangles a b f n p is here = record {
    untouched = p;
    ok = tt;
    dangling = λ o f_is w told g. ⊎_elim
        (λ d. let same : n ≡ o = (let ff : Err f ≡ Err (fault.Dangling o) = f_is in cc) in here w told g ∙ ap Some same)
        (λ m. absurd (let ff : Err f ≡ Err (fault.Dangling o) = f_is in cc)) is;
    failed = λ f_is. ⊎_elim
        (λ d. absurd (let ff : Err f ≡ Err fault.Warehouse = f_is in cc))
        (λ m. absurd (let ff : Err f ≡ Err fault.Warehouse = f_is in cc)) is;
  }
