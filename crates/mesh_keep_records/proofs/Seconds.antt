-- The seconds of spans with one more.
use Rattle.std.proofs.Common.{◌≡◌, ℕ, ◌+◌, ◌<◌, List, [], ◌∷◌, ◌++◌, length, take, get_or, inl, inr, sym, subst, arith}
use Rattle.std.specs.Prelude.{◌↔◌, ◌⊎◌, ℤ, ◌≤ℤ◌}
use Rattle.std.proofs.lemmas.Int.{ints}
use Rattle.std.proofs.lemmas.List.{take_more}
use Rattle.mesh_base_values.specs.declared.times.Bounds.{Bounds}
use Rattle.mesh_time.specs.Ranges.{Has, IsWithin}

has_last : (xs : List Bounds) (b : Bounds) (t : ℤ) → Has (xs ++ b ∷ []) t → Has xs t ⊎ IsWithin b.start b.end t
has_last [] b t (inl h) = inr h
has_last [] b t (inr h) = absurd h
has_last (x ∷ xs) b t (inl h) = inl (inl h)
has_last (x ∷ xs) b t (inr h) =
    elim (has_last xs b t h) [
      | inl k ↦ inl (inr k)
      | inr k ↦ inr k
    ]

last_has : (xs : List Bounds) (b : Bounds) (t : ℤ) → Has xs t ⊎ IsWithin b.start b.end t → Has (xs ++ b ∷ []) t
last_has [] b t (inl h) = absurd h
last_has [] b t (inr h) = inl h
last_has (x ∷ xs) b t (inl (inl h)) = inl h
last_has (x ∷ xs) b t (inl (inr h)) = inr (last_has xs b t (inl h))
last_has (x ∷ xs) b t (inr h) = inr (last_has xs b t (inr h))

-- the seconds of the spans so far, and one more
pub seconds_more : (new old spans : List Bounds) (i : ℕ) (d : Bounds) → i < length spans → ((t : ℤ) → Has old t ↔ Has (take i spans) t) → ((t : ℤ) → Has new t ↔ (Has old t ⊎ IsWithin (get_or spans i d).start (get_or spans i d).end t)) → (t : ℤ) → Has new t ↔ Has (take (i + 1) spans) t
seconds_more new old spans i d lt before added t =
    let b : Bounds = get_or spans i d in
    let step : take (i + 1) spans ≡ take i spans ++ b ∷ [] = take_more spans i d lt in
    let there : Has new t → Has (take i spans ++ b ∷ []) t = λ h. elim ((added t).0 h) [
      | inl k ↦ last_has (take i spans) b t (inl ((before t).0 k))
      | inr k ↦ last_has (take i spans) b t (inr k)
    ] in
    let back : Has (take i spans ++ b ∷ []) t → Has new t = λ h. elim (has_last (take i spans) b t h) [
      | inl k ↦ (added t).1 (inl ((before t).1 k))
      | inr k ↦ (added t).1 (inr k)
    ] in
    subst (λ l. Has new t ↔ Has l t) (sym step) (there, back)

-- a span without a second adds none
pub none_more : (old : List Bounds) (b : Bounds) → b.end ≤ℤ b.start → (t : ℤ) → Has old t ↔ (Has old t ⊎ IsWithin b.start b.end t)
none_more old b none t = (
  λ h. inl h,
  elim [
    | inl h ↦ h
    | inr h ↦ absurd (omega (arith, ints, h.0, h.1))
  ],
)
