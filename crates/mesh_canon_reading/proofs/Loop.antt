-- Reading the members of a list one after the other, as a loop does.
use Rattle.std.proofs.Common.{◌≡◌, ℕ, zero, suc, ◌-◌, ◌+◌, ◌≤◌, ◌<◌, List, [], ◌∷◌, ◌++◌, Option, Some, None, refl, sym, ap, ◌∙◌, append_assoc, arith}
use Rattle.std.proofs.lemmas.List.{append-nil}
use Rattle.std.specs.Prelude.{codes}
use Rattle.mesh_canon_words.specs.declared.fault.CanonFault.{CanonFault}
use Rattle.mesh_canon_words.specs.declared.fault.CanonFault.TheVariants as faults
use Rattle.mesh_canon_words.specs.Words.{◌>>=◌, Refuses, after}
use Rattle.mesh_canon_reading.specs.Reading.{more_at, none_or, with_front}

module _ {A : Type 0} (read : List ℕ → Option (A × List ℕ)) where
  -- one member, and then what follows it
  abbrev member : ℕ → List ℕ → Option (List A × List ℕ)
  member n bytes = after (codes " ") bytes >>= λ b. read b >>= λ x. more_at read n x.1 >>= λ others. Some (x.0 ∷ others.0, others.1)

  step : (n : ℕ) (bytes : List ℕ) → 0 < n → more_at read n bytes ≡ none_or (after (codes "]") bytes) (member (n - 1) bytes)
  unfolding more_at
  step zero bytes lt = absurd (omega arith)
  step (suc n) bytes lt = let k : suc n - 1 ≡ n = omega arith in rw k refl

  regroup : (front : List A) (x : A) (found : Option (List A × List ℕ)) → with_front front (found >>= λ others. Some (x ∷ others.0, others.1)) ≡ with_front (front ++ x ∷ []) found
  regroup front x None = refl
  regroup front x (Some y) = ap (λ (xs : List A). Some (xs, y.1)) (sym (append_assoc front (x ∷ []) y.0))

  -- the list ends
  pub closes : (front : List A) (len i : ℕ) (bytes behind : List ℕ) (total : Option (List A × List ℕ)) → i < len → after (codes "]") bytes ≡ Some behind → with_front front (more_at read (len - i) bytes) ≡ total → total ≡ Some (front, behind)
  closes front len i bytes behind total lt e so_far =
      sym so_far ∙ ap (with_front front) (step (len - i) bytes (omega arith) ∙ ap (λ o. none_or o (member (len - i - 1) bytes)) e)
      ∙ ap (λ (xs : List A). Some (xs, behind)) (append-nil front)

  opened : (front : List A) (len i : ℕ) (bytes : List ℕ) (total : Option (List A × List ℕ)) → i < len → after (codes "]") bytes ≡ None → with_front front (more_at read (len - i) bytes) ≡ total → with_front front (member (len - i - 1) bytes) ≡ total
  opened front len i bytes total lt e so_far =
      sym (ap (with_front front) (step (len - i) bytes (omega arith) ∙ ap (λ o. none_or o (member (len - i - 1) bytes)) e)) ∙ so_far

  -- no space comes
  pub stops : (fault : CanonFault) (front : List A) (len i : ℕ) (bytes : List ℕ) (total : Option (List A × List ℕ)) → i < len → after (codes "]") bytes ≡ None → Refuses fault (after (codes " ") bytes) → with_front front (more_at read (len - i) bytes) ≡ total → Refuses fault total
  stops faults.Memory front len i bytes total lt e gone so_far = tt
  stops faults.NotCanonical front len i bytes total lt e gone so_far =
      sym (opened front len i bytes total lt e so_far) ∙ ap (λ o. with_front front (o >>= λ b. read b >>= λ x. more_at read (len - i - 1) x.1 >>= λ others. Some (x.0 ∷ others.0, others.1))) gone

  -- no member comes
  pub ends : (fault : CanonFault) (front : List A) (len i : ℕ) (bytes behind : List ℕ) (total : Option (List A × List ℕ)) → i < len → after (codes "]") bytes ≡ None → after (codes " ") bytes ≡ Some behind → Refuses fault (read behind) → with_front front (more_at read (len - i) bytes) ≡ total → Refuses fault total
  ends faults.Memory front len i bytes behind total lt e space gone so_far = tt
  ends faults.NotCanonical front len i bytes behind total lt e space gone so_far =
      sym (opened front len i bytes total lt e so_far)
      ∙ ap (λ o. with_front front (o >>= λ b. read b >>= λ x. more_at read (len - i - 1) x.1 >>= λ others. Some (x.0 ∷ others.0, others.1))) space
      ∙ ap (λ o. with_front front (o >>= λ x. more_at read (len - i - 1) x.1 >>= λ others. Some (x.0 ∷ others.0, others.1))) gone

  -- a member is read, and others follow
  pub goes_on : (front : List A) (len i : ℕ) (bytes behind left : List ℕ) (x : A) (total : Option (List A × List ℕ)) → i < len → after (codes "]") bytes ≡ None → after (codes " ") bytes ≡ Some behind → read behind ≡ Some (x, left) → with_front front (more_at read (len - i) bytes) ≡ total → with_front (front ++ x ∷ []) (more_at read (len - (i + 1)) left) ≡ total
  goes_on front len i bytes behind left x total lt e space found so_far =
      let k : len - (i + 1) ≡ len - i - 1 = omega arith in
      ap (λ n. with_front (front ++ x ∷ []) (more_at read n left)) k
      ∙ sym (regroup front x (more_at read (len - i - 1) left))
      ∙ sym (ap (λ o. with_front front (o >>= λ y. more_at read (len - i - 1) y.1 >>= λ others. Some (y.0 ∷ others.0, others.1))) found)
      ∙ sym (ap (λ o. with_front front (o >>= λ b. read b >>= λ y. more_at read (len - i - 1) y.1 >>= λ others. Some (y.0 ∷ others.0, others.1))) space)
      ∙ opened front len i bytes total lt e so_far

  -- no bracket came before the bytes ended
  pub runs_out : (front : List A) (len i : ℕ) (bytes : List ℕ) (total : Option (List A × List ℕ)) → len ≤ i → with_front front (more_at read (len - i) bytes) ≡ total → total ≡ None
  unfolding more_at
  runs_out front len i bytes total le so_far =
      let k : len - i ≡ 0 = omega arith in
      sym so_far ∙ ap (λ n. with_front front (more_at read n bytes)) k
