-- Reading that undoes writing: one text has one value, and what is written again the same is what was read.
use Rattle.std.proofs.Common.{◌≡◌, ℕ, Bool, true, false, List, Option, Some, None, sym, ap, subst, ◌∙◌}
use Rattle.std.specs.Prelude.{IsTrue, ◌↔◌}
use Rattle.mesh_canon_words.specs.declared.fault.CanonFault.{CanonFault}
use Rattle.mesh_canon_words.specs.Words.{Refuses}

pub some_is : {A : Type 0} (x y : A) → ◌≡◌ {A = Option A} (Some x) (Some y) → x ≡ y
some_is x y e = cc

pub none_is_not : {A : Type 0} (x : A) → ◌≡◌ {A = Option A} None (Some x) → ⊥
none_is_not x e = cc

-- values of one text are one
pub one_value : {A : Type 0} (spell : A → List ℕ) (read : List ℕ → Option A) (a b : A) → read (spell a) ≡ Some a → read (spell b) ≡ Some b → spell a ≡ spell b → a ≡ b
one_value spell read a b p q e = some_is a b (sym p ∙ ap read e ∙ q)

-- what reading refuses has no value
pub refused : {A : Type 0} (fault : CanonFault) (read : Option A) (x : A) → Refuses fault read → read ≡ Some x → Refuses fault (Some x)
refused fault read x r is = subst (λ (o : Option _). Refuses fault o) is r

differ : (same : Bool) (again text : List ℕ) → (IsTrue same ↔ (again ≡ text)) → same ≡ false → again ≡ text → ⊥
differ true again text iff t e = absurd cc
differ false again text iff t e = let h = iff.1 e in absurd cc

-- a text that isn't written again the same is no value's
pub differs : {A : Type 0} (spell : A → List ℕ) (read : List ℕ → Option A) (made x : A) (text again : List ℕ) (same : Bool) → read (spell x) ≡ Some x → text ≡ spell x → read text ≡ Some made → again ≡ spell made → (IsTrue same ↔ (again ≡ text)) → same ≡ false → ⊥
differs spell read made x text again same p is q e iff t =
    differ same again text iff t (e ∙ ap spell (some_is made x (sym q ∙ ap read is ∙ p)) ∙ sym is)
