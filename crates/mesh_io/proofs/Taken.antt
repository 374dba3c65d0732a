-- Bytes that are moved out of a source, one piece after another.
use Rattle.std.proofs.Common.{◌≡◌, ◌↔◌, ℕ, zero, suc, ◌+◌, ◌-◌, ◌<◌, ◌≤◌, List, [], ◌∷◌, ◌++◌, length, Some, None, Ok, Err, Result, IfSome, OnErr, IsErrOf, refl, subst, sym, ◌∙◌, ap, arith, append_assoc, length-append}
use Rattle.std.specs.declared.option.Option.{Option}
use Rattle.std.specs.Option.{option_map}
use Rattle.std.specs.Result.{IsErrAnd}
use Rattle.mesh_list.specs.Counts.{Rose}
use Rattle.mesh_io.specs.declared.fails.IoFail.{IoFail}
use Rattle.mesh_io.specs.declared.fails.IoFail.TheVariants.{Failed, Memory}
use Rattle.mesh_io.specs.Told.{SourceTold, SourceTakes, SourceGives}

-- these bytes were moved out so far, in at most as many calls
pub record Taken (most turns : ℕ) (all : List ℕ) (old now : SourceTold) : Type 0 where
  pub left : old.left ≡ option_map (λ rest. all ++ rest) now.left
  pub most_bytes : length all ≤ most
  pub turns_bytes : turns ≤ length all
  pub faults : old.faults ≤ now.faults

whole_again : (o : Option (List ℕ)) → o ≡ option_map (λ (rest : List ℕ). [] ++ rest) o
whole_again None = refl
whole_again (Some bytes) = refl

then_more : (a b : List ℕ) (n : Option (List ℕ)) → option_map (λ rest. a ++ rest) (option_map (λ rest. b ++ rest) n) ≡ option_map (λ rest. (a ++ b) ++ rest) n
then_more a b None = refl
then_more a b (Some bytes) = ap Some (sym (append_assoc a b bytes))

both : (a b : List ℕ) (o m n : Option (List ℕ)) → o ≡ option_map (λ rest. a ++ rest) m → m ≡ option_map (λ rest. b ++ rest) n → o ≡ option_map (λ rest. (a ++ b) ++ rest) n
both a b o m n h k = h ∙ ap (option_map (λ rest. a ++ rest)) k ∙ then_more a b n

pub nothing_taken : (most : ℕ) (t : SourceTold) → Taken most 0 [] t t
nothing_taken most t = record { left = whole_again t.left; most_bytes = omega arith; turns_bytes = omega arith; faults = omega arith }

at_least_one : (piece : List ℕ) → (piece ≡ [] → ⊥) → 0 < length piece
at_least_one [] h = absurd (h refl)
at_least_one (x ∷ xs) h = omega arith

module _ (most turns room : ℕ) (all : List ℕ) (old now next : SourceTold) (so_far : Taken most turns all old now) (within : room + length all ≤ most) where
  pub one_more : (piece : List ℕ) → SourceTakes room now next (Ok piece) → (piece ≡ [] → ⊥) → Taken most (turns + 1) (all ++ piece) old next
  one_more piece h some =
      let one : 0 < length piece = at_least_one piece some in
      let up_to : length piece ≤ room = h.most_bytes in
      record {
        left = both all piece old.left now.left next.left so_far.left h.ok;
        most_bytes = omega (arith, within, up_to, length-append all piece);
        turns_bytes = omega (arith, so_far.turns_bytes, one, length-append all piece);
        faults = omega (arith, so_far.faults, h.counts.kept);
      }

  at_its_end : (o n : Option (List ℕ)) (piece : List ℕ) → piece ≡ [] → o ≡ option_map (λ rest. piece ++ rest) n → IfSome o (λ bytes. (piece ≡ []) ↔ (bytes ≡ [])) → IfSome n (λ rest. rest ≡ [])
  at_its_end o None piece e h end = tt
  at_its_end o (Some rest) piece e h end =
      let same : o ≡ Some rest = h ∙ ap (λ (l : List ℕ). Some (l ++ rest)) e in
      (subst (λ (p : Option (List ℕ)). IfSome p (λ bytes. (piece ≡ []) ↔ (bytes ≡ []))) same end).0 e

  pub ends : (piece : List ℕ) → SourceTakes room now next (Ok piece) → piece ≡ [] → SourceGives most old next (Ok all)
  ends piece h none = record {
    counts = record { kept = omega (arith, so_far.faults, h.counts.kept); risen = λ e. absurd (let no : Ok all ≡ Err Failed = e in cc) };
    ok = so_far.left ∙ ap (option_map (λ rest. all ++ rest)) (h.ok ∙ ap (λ (l : List ℕ). option_map (λ rest. l ++ rest) next.left) none ∙ sym (whole_again next.left));
    most_bytes = so_far.most_bytes;
    whole = λ short. at_its_end now.left next.left piece none h.ok h.at_end;
    refused = tt;
  }

  pub refuses : (e : IoFail) (r : Result (List ℕ) IoFail) → SourceTakes room now next (Err e) → IsErrAnd r (λ y. y ≡ e) → SourceGives most old next r
  refuses e (Ok x) h is = absurd is
  refuses e (Err y) h is = record {
    counts = record { kept = omega (arith, so_far.faults, h.counts.kept); risen = λ y_is. let rose = h.counts.risen (let s : Err e ≡ Err Failed = cc in s) in omega (arith, rose, so_far.faults) };
    ok = tt;
    most_bytes = tt;
    whole = tt;
    refused = (all, so_far.left ∙ ap (option_map (λ rest. all ++ rest)) (sym h.refused));
  }

module _ (most turns : ℕ) (all : List ℕ) (old now : SourceTold) (so_far : Taken most turns all old now) where
  pub full : most ≤ length all → SourceGives most old now (Ok all)
  full enough = record {
    counts = record { kept = so_far.faults; risen = λ e. absurd (let no : Ok all ≡ Err Failed = e in cc) };
    ok = so_far.left;
    most_bytes = so_far.most_bytes;
    whole = λ short. absurd (omega (arith, short, enough));
    refused = tt;
  }

  -- memory ran out behind a piece
  pub lost : (room : ℕ) (piece : List ℕ) (next : SourceTold) (r : Result (List ℕ) IoFail) → SourceTakes room now next (Ok piece) → IsErrAnd r (λ y. y ≡ Memory) → SourceGives most old next r
  lost room piece next (Ok x) h is = absurd is
  lost room piece next (Err y) h is = record {
    counts = record { kept = omega (arith, so_far.faults, h.counts.kept); risen = λ y_is. absurd (let no : Memory ≡ Failed = cc in cc) };
    ok = tt;
    most_bytes = tt;
    whole = tt;
    refused = (all ++ piece, both all piece old.left now.left next.left so_far.left h.ok);
  }
