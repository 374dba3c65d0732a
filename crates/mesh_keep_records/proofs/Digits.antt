-- Fingerprints that were written are read again.
use Rattle.std.proofs.Common.{◌≡◌, ℕ, zero, suc, true, List, [], ◌∷◌, length, Some, None, Result, Ok, Err, refl, sym, ap, arith}
use Rattle.std.specs.Prelude.{◌==◌, nat_lt, MatchResult}
use Rattle.std.specs.List.{list_all}
use Rattle.std.proofs.lemmas.Bool.{and_parts, eqb-true, ltb-true}
use Rattle.hex.specs.declared.error.FromHexError.{FromHexError}
use Rattle.hex.specs.Hex.{IsBytes, encode_lower}
use Rattle.hex.proofs.HexLemmas.{decode_sized-encode_lower}
use Rattle.mesh_keep_records.specs.Parts.{digits_in, is_digest, ok_only}

are_bytes : (xs : List ℕ) → list_all (λ b. nat_lt b 256) xs ≡ true → IsBytes xs
are_bytes [] h i = omega arith
are_bytes (x ∷ xs) h zero = ltb-true x 256 (and_parts (nat_lt x 256) (list_all (λ b. nat_lt b 256) xs) h).0
are_bytes (x ∷ xs) h (suc i) = are_bytes xs (and_parts (nat_lt x 256) (list_all (λ b. nat_lt b 256) xs) h).1 i

pub digits_are_read : (d : List ℕ) → is_digest d ≡ true → digits_in (encode_lower d) ≡ Some d
digits_are_read d fits =
    let p = and_parts (length d == 32) (list_all (λ b. nat_lt b 256) d) fits in
    ap ok_only (decode_sized-encode_lower d 32 (eqb-true (length d) 32 p.0) (are_bytes d p.1))

pub decoded : (d : Result (List ℕ) FromHexError) (r : Result Unit FromHexError) (made : List ℕ) → MatchResult d (λ bytes. (r ≡ Ok tt) × (made ≡ bytes)) (λ e. r ≡ Err e) → r ≡ Ok tt → ok_only d ≡ Some made
decoded (Ok bytes) r made m is = ap Some (sym m.1)
decoded (Err e) r made m is = absurd cc

pub not_decoded : (d : Result (List ℕ) FromHexError) (r : Result Unit FromHexError) (made : List ℕ) (e : FromHexError) → MatchResult d (λ bytes. (r ≡ Ok tt) × (made ≡ bytes)) (λ x. r ≡ Err x) → r ≡ Err e → ok_only d ≡ None
not_decoded (Ok bytes) r made e m is = let h = m.0 in absurd cc
not_decoded (Err x) r made e m is = refl
