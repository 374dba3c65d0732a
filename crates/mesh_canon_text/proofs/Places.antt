-- The places of a set, one by one, as they are written.
use Rattle.std.proofs.Common.{◌≡◌, ◌≢◌, ℕ, zero, suc, ◌+◌, ◌-◌, ◌/◌, ◌%◌, ◌<◌, List, [], ◌∷◌, ◌++◌, refl, append_assoc, sub-one, arith}
use Rattle.std.proofs.lemmas.Bool.{eq-eqb, ne_eqb}
use Rattle.std.proofs.lemmas.List.{append-nil}
use Rattle.std.specs.Fmt.{decimal}
use Rattle.mesh_canon_text.specs.Text.{behind_commas, commas, places}

places_zero : (from digits : ℕ) → places 0 from digits ≡ []
unfolding places
places_zero from digits = refl

pub places_one : (count from digits : ℕ) → 0 < count → digits % 2 ≡ 1 → places count from digits ≡ from ∷ places (count - 1) (from + 1) (digits / 2)
unfolding places
places_one zero from digits lt e = absurd (omega arith)
places_one (suc n) from digits lt e = rw (eq-eqb (digits % 2) 1 e, sub-one) refl

pub places_other : (count from digits : ℕ) → 0 < count → digits % 2 ≢ 1 → places count from digits ≡ places (count - 1) (from + 1) (digits / 2)
unfolding places
places_other zero from digits lt e = absurd (omega arith)
places_other (suc n) from digits lt e = rw (ne_eqb (digits % 2) 1 e, sub-one) refl

-- no place is left
pub no_places : (out : List ℕ) (count from digits : ℕ) → count ≡ 0 → out ≡ out ++ commas (places count from digits)
unfolding commas
no_places out count from digits e = rw (e, places_zero, append-nil) refl

pub first_place : (out made all : List ℕ) (count from digits : ℕ) → made ≡ out ++ decimal from → all ≡ made ++ behind_commas (places (count - 1) (from + 1) (digits / 2)) → 0 < count → digits % 2 ≡ 1 → all ≡ out ++ commas (places count from digits)
unfolding commas
first_place out made all count from digits e more lt one = rw (places_one count from digits lt one, more, e, append_assoc) refl

pub no_place : (out all : List ℕ) (count from digits : ℕ) → all ≡ out ++ commas (places (count - 1) (from + 1) (digits / 2)) → 0 < count → digits % 2 ≢ 1 → all ≡ out ++ commas (places count from digits)
no_place out all count from digits more lt other = rw (places_other count from digits lt other) more

pub no_more : (out : List ℕ) (count from digits : ℕ) → count ≡ 0 → out ≡ out ++ behind_commas (places count from digits)
unfolding behind_commas
no_more out count from digits e = rw (e, places_zero, append-nil) refl

pub next_place : (out comma made all : List ℕ) (count from digits : ℕ) → comma ≡ out ++ 44 ∷ [] → made ≡ comma ++ decimal from → all ≡ made ++ behind_commas (places (count - 1) (from + 1) (digits / 2)) → 0 < count → digits % 2 ≡ 1 → all ≡ out ++ behind_commas (places count from digits)
unfolding behind_commas
next_place out comma made all count from digits c e more lt one =
    rw (places_one count from digits lt one, more, e, c, append_assoc, append_assoc) refl

pub not_next : (out all : List ℕ) (count from digits : ℕ) → all ≡ out ++ behind_commas (places (count - 1) (from + 1) (digits / 2)) → 0 < count → digits % 2 ≢ 1 → all ≡ out ++ behind_commas (places count from digits)
not_next out all count from digits more lt other = rw (places_other count from digits lt other) more
