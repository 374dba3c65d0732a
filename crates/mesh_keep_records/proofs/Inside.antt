-- The parts of a list are no longer than its text.
use Rattle.std.proofs.Common.{◌≡◌, ℕ, ◌<◌, ◌≤◌, ◌^◌, true, List, [], ◌∷◌, length, refl, arith}
use Rattle.std.specs.Fmt.{decimal}
use Rattle.std.proofs.lemmas.Bool.{and_from, lt-ltb}
use Rattle.std.proofs.lemmas.List.{length-append}
use Rattle.mesh_canon_text.specs.Text.{list_text, spaced, text_of}
use Rattle.mesh_canon_reading.specs.Fits.{are_texts, text_fits}
use Rattle.mesh_canon_reading.proofs.Lists.{list_long, spaced_one}

text_long : (t : List ℕ) → length t ≤ length (text_of t)
unfolding text_of
text_long t = omega (arith, length-append (decimal (length t)) (58 ∷ t))

members_fit : (ts : List (List ℕ)) → length (spaced text_of ts) < 2 ^ 64 → are_texts ts ≡ true
members_fit [] lt = refl
members_fit (t ∷ ts) lt =
    let one = spaced_one text_of t ts in
    let long = text_long t in
    and_from (text_fits t) (are_texts ts) (lt-ltb (length t) (2 ^ 64) (omega (arith, one, long))) (members_fit ts (omega (arith, one)))

-- a list whose text lies in memory has texts that a program can hold
pub parts_fit : (ts : List (List ℕ)) → length (list_text ts) < 2 ^ 64 → are_texts ts ≡ true
parts_fit ts lt = members_fit ts (omega (arith, list_long text_of ts))
