-- Items that stand among others, one step at a time.
use Rattle.std.proofs.Common.{◌≡◌, ◌≢◌, ◌↔◌, IsTrue, ℕ, zero, suc, ◌+◌, ◌<◌, ◌≤◌, nat_eq, List, [], ◌∷◌, length, get_or, drop, refl, ap, sym, ◌∙◌, subst, arith, eqb-true, eq-eqb, rules}
use Rattle.std.proofs.lemmas.List.{drop_more}
use Rattle.mesh_base.specs.declared.queries.Item.{Item}
use Rattle.mesh_spec_changes.specs.reuse.Compatible.{AreAmong, no_more, keep, skip}

without_first : (x : Item) (xs ys : List Item) → AreAmong (x ∷ xs) ys → AreAmong xs ys
without_first x xs _ (keep p) = skip p
without_first x xs _ (skip p) = skip (without_first x xs _ p)

none_are_among : (ys : List Item) → AreAmong [] ys
none_are_among [] = no_more
none_are_among (y ∷ ys) = skip (none_are_among ys)

behind_kept : (x y : Item) (xs ys : List Item) → AreAmong (x ∷ xs) (y ∷ ys) → AreAmong xs ys
behind_kept x y xs ys (keep p) = p
behind_kept x y xs ys (skip p) = without_first x xs ys p

behind_other : (x y : Item) (xs ys : List Item) → x ≢ y → AreAmong (x ∷ xs) (y ∷ ys) → AreAmong (x ∷ xs) ys
behind_other x y xs ys other (keep p) = absurd (other refl)
behind_other x y xs ys other (skip p) = p

past : (xs : List Item) (k : ℕ) → length xs ≤ k → drop k xs ≡ []
past [] zero h = refl
past [] (suc k) h = refl
past (x ∷ xs) zero h = absurd (omega (arith, h))
past (x ∷ xs) (suc k) h = past xs k (omega (arith, h))

at_end : (xs : List Item) (k : ℕ) → drop k xs ≡ [] → length xs ≤ k
at_end [] k e = omega arith
at_end (x ∷ xs) zero e = absurd (cc)
at_end (x ∷ xs) (suc k) e = let more = at_end xs k e in omega (arith, more)

-- what is left of the old items stands among what is left of the new ones exactly where all do
abbrev pub SoFar : List Item → List Item → ℕ → ℕ → Type 0
SoFar old new at i = AreAmong (drop at old) (drop i new) ↔ AreAmong old new

module _ (old new : List Item) (at i : ℕ) (y : Item) (more : i < length new) (is_new : y ≡ get_or new i y) where
  rest : drop i new ≡ y ∷ drop (i + 1) new
  rest = drop_more new i y more ∙ ap (λ z. z ∷ drop (i + 1) new) (sym is_new)

  pub one_kept : (x : Item) → at < length old → x ≡ get_or old at x → x ≡ y → SoFar old new at i → SoFar old new (at + 1) (i + 1)
  one_kept x lt is_old same h =
      let first : drop at old ≡ x ∷ drop (at + 1) old = drop_more old at x lt ∙ ap (λ z. z ∷ drop (at + 1) old) (sym is_old) in (
        λ p. h.0 (rw (first, rest, same) (keep p)),
        λ a. behind_kept x y (drop (at + 1) old) (drop (i + 1) new) (rw (first, rest) at (h.1 a)),
      )

  pub one_passed : (x : Item) → at < length old → x ≡ get_or old at x → x ≢ y → SoFar old new at i → SoFar old new at (i + 1)
  one_passed x lt is_old other h =
      let first : drop at old ≡ x ∷ drop (at + 1) old = drop_more old at x lt ∙ ap (λ z. z ∷ drop (at + 1) old) (sym is_old) in (
        λ p. h.0 (rw rest (skip p)),
        λ a. rw first (behind_other x y (drop (at + 1) old) (drop (i + 1) new) other (rw (first, rest) at (h.1 a))),
      )

  pub none_left : length old ≤ at → SoFar old new at i → SoFar old new at (i + 1)
  none_left over h =
      let none : drop at old ≡ [] = past old at over in (
        λ p. h.0 (rw rest (skip p)),
        λ a. rw none (none_are_among (drop (i + 1) new)),
      )

pub all_looked_for : (old new : List Item) (at i : ℕ) → at ≤ length old → length new ≤ i → SoFar old new at i → IsTrue (nat_eq at (length old)) ↔ AreAmong old new
all_looked_for old new at i within over h = (
  λ t. h.0 (subst (λ l. AreAmong l (drop i new)) (sym (past old at (let same = eqb-true at (length old) t in omega (arith, same)))) (none_are_among (drop i new))),
  λ a. reached (drop at old) refl (subst (AreAmong (drop at old)) (past new i over) (h.1 a)),
)
  where
    reached : (l : List Item) → drop at old ≡ l → AreAmong l [] → IsTrue (nat_eq at (length old))
    reached [] e a = eq-eqb at (length old) (let past_end = at_end old at e in omega (arith, past_end))
    reached (x ∷ xs) e a = absurd (nothing a)
      where
        nothing : AreAmong (x ∷ xs) [] → ⊥
        nothing a = search rules
