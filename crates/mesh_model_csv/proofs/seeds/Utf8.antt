-- The computed test for UTF-8, beside what std's test ensures.
use Rattle.std.proofs.Common.{◌≡◌, ℕ, length, List, Result, Ok, Err, Bor, arith, sym}
use Rattle.std.specs.Result.{is_ok, MatchResult}
use Rattle.std.specs.Str.{IsUtf8, IsValidUpTo}
use Rattle.std.specs.Str.Lossy.{utf8_valid_len}
use Rattle.std.proofs.lemmas.Str.{utf8_valid_len-IsUtf8, utf8_valid_len-IsValidUpTo}
use borrow.Author.Tests.{eq-eqb, ne_eqb}
use Rattle.mesh_model_csv.specs.seeds.Cells.{is_utf8}

pub tested_text : {E : Type 0} (end : E → ℕ) (r : Result (Bor (List ℕ)) E) (bytes : List ℕ)
    → MatchResult r (λ s. (s.now ≡ bytes) × IsUtf8 bytes) (λ e. ¬ (IsUtf8 bytes) × IsValidUpTo bytes (end e)) → is_ok r ≡ is_utf8 bytes
tested_text end (Ok s) bytes h = sym (eq-eqb (utf8_valid_len bytes) (length bytes) (utf8_valid_len-IsUtf8 bytes h.1))
tested_text end (Err e) bytes h =
    let short = h.1.short in
    let is = utf8_valid_len-IsValidUpTo bytes (end e) h.1 in
    sym (ne_eqb (utf8_valid_len bytes) (length bytes) (λ same. omega arith))
