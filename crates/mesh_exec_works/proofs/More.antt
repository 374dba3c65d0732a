-- One place more, and what was read as what is made of it.
use Rattle.std.proofs.Common.{◌≡◌, ℕ, ◌+◌, ◌<◌, List, [], ◌++◌, length, take, get_or, map, Some, None, Ok, refl, sym, ap, ◌∙◌}
use Rattle.std.specs.Prelude.{IfSome}
use Rattle.std.specs.List.{flat_map}
use Rattle.std.specs.declared.option.Option.{Option}
use Rattle.std.proofs.lemmas.List.{flat_map_more, map-append, take_more}
use Rattle.mesh_house.specs.House.{Reads, Told}
use Rattle.mesh_house.specs.declared.world.World.{World}

-- what stands at one place more comes behind
pub one_place : {X : Type 0} (get : ℕ → List X) (places : List ℕ) (i : ℕ) (was new : List X) → i < length places → was ≡ flat_map get (take i places) → new ≡ was ++ get (get_or places i 0) → new ≡ flat_map get (take (i + 1) places)
one_place {X} get places i was new lt before pushed =
    pushed
    ∙ ap (λ (l : List X). l ++ get (get_or places i 0)) before
    ∙ flat_map_more get [] (take i places) (get_or places i 0)
    ∙ ap (flat_map get) (sym (take_more places i 0 lt))

-- and so does what is made of it
pub one_made : {X Y : Type 0} (f : X → Y) (get : ℕ → List X) (places : List ℕ) (i : ℕ) (was new : List Y) → i < length places → was ≡ map f (flat_map get (take i places)) → new ≡ was ++ map f (get (get_or places i 0)) → new ≡ map f (flat_map get (take (i + 1) places))
one_made {X} {Y} f get places i was new lt before pushed =
    pushed
    ∙ ap (λ (l : List Y). l ++ map f (get (get_or places i 0))) before
    ∙ sym (map-append f (flat_map get (take i places)) (get (get_or places i 0)))
    ∙ ap (map f) (one_place get places i (flat_map get (take i places)) (flat_map get (take i places) ++ get (get_or places i 0)) lt refl refl)

-- what was read tells what is made of it
pub reads_made : {X Y : Type 0} (answer : World → X) (wanted : World → Y) (a b : Told) (x : X) (y : Y) → Reads {T = X} answer a b (Ok x) → ((w : World) → x ≡ answer w → y ≡ wanted w) → Reads {T = Y} wanted a b (Ok y)
reads_made {X} {Y} answer wanted a b x y h is = record {
  world = h.world;
  calls = h.calls;
  faults = h.faults;
  failed = λ e. absurd (cc);
  ok = of_it a.world h.ok;
}
  where
    of_it : (o : Option World) → IfSome o (λ w. x ≡ answer w) → IfSome o (λ w. y ≡ wanted w)
    of_it None k = tt
    of_it (Some w) k = is w k

-- nothing is there where it isn't something
pub absent : {X : Type 0} (o : Option X) → ((x : X) → o ≡ Some x → ⊥) → o ≡ None
absent None h = refl
absent (Some x) h = absurd (h x refl)
