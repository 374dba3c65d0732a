-- What a refusal says of what is there, and what a test says of two values.
use Rattle.std.proofs.Common.{◌≡◌, Bool, true, false, Option, Some, ap}
use Rattle.std.specs.Option.{option_map}
use Rattle.std.specs.Prelude.{IsTrue, ◌↔◌}
use Rattle.mesh_canon_words.specs.declared.fault.CanonFault.{CanonFault}
use Rattle.mesh_canon_words.specs.declared.fault.CanonFault.TheVariants as faults
use Rattle.mesh_canon_words.specs.Words.{Refuses}

-- what is refused though it is there is refused for want of memory
pub still_refused : {A B : Type 0} (fault : CanonFault) (x : A) (y : B) → Refuses fault (Some x) → Refuses fault (Some y)
still_refused faults.NotCanonical x y e = absurd cc
still_refused faults.Memory x y e = e

pub unlike : {A : Type 0} (same : Bool) (a b : A) → (IsTrue same ↔ (a ≡ b)) → same ≡ false → a ≡ b → ⊥
unlike true a b iff t e = absurd cc
unlike false a b iff t e = let h = iff.1 e in absurd cc

-- what is there is there by a function of it
pub mapped : {A B : Type 0} (f : A → B) {a b : A} → ◌≡◌ {A = Option A} (Some a) (Some b) → ◌≡◌ {A = Option B} (Some (f a)) (Some (f b))
mapped f e = ap (option_map f) e
