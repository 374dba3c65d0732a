-- The folder of a path, a byte at a time.
use Rattle.std.proofs.Common.{◌≡◌, ℕ, ◌==◌, ◌||◌, Bool, true, false, List, [], ◌∷◌, ◌++◌, refl, ap}
use Rattle.mesh_query_tokens.specs.bounds.Paths.{has_slash, folder_of}

slash_push : (xs : List ℕ) (b : ℕ) → has_slash (xs ++ b ∷ []) ≡ (has_slash xs || (b == 47))
slash_push [] b = or_false (b == 47)
  where
    or_false : (t : Bool) → (t || false) ≡ t
    or_false true = refl
    or_false false = refl
slash_push (x ∷ xs) b = rw (slash_push xs b) (or_assoc (x == 47))
  where
    or_assoc : (t : Bool) → (t || (has_slash xs || (b == 47))) ≡ ((t || has_slash xs) || (b == 47))
    or_assoc true = refl
    or_assoc false = refl

-- a slash at the end
pub folder_slash : (xs : List ℕ) (b : ℕ) → (b == 47) ≡ true → folder_of (xs ++ b ∷ []) ≡ xs
folder_slash [] b e = refl
folder_slash (x ∷ xs) b e =
    rw (slash_push xs b, e, or_true (has_slash xs)) (ap (λ (ys : List ℕ). x ∷ ys) (folder_slash xs b e))
  where
    or_true : (t : Bool) → (t || true) ≡ true
    or_true true = refl
    or_true false = refl

-- another byte at the end
pub folder_other : (xs : List ℕ) (b : ℕ) → (b == 47) ≡ false → folder_of (xs ++ b ∷ []) ≡ folder_of xs
folder_other [] b e = refl
folder_other (x ∷ xs) b e =
    rw (slash_push xs b, e, or_false (has_slash xs), folder_other xs b e) refl
  where
    or_false : (t : Bool) → (t || false) ≡ t
    or_false true = refl
    or_false false = refl
