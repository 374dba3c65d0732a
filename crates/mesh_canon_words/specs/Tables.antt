-- Tables of words as code has them.
use Rattle.std.specs.Prelude.{ℕ, List}
use Rattle.std.specs.Borrow.{Bor}

abbrev pub entry_of : {A : Type 0} → Bor (List ℕ) × A → List ℕ × A
entry_of (word, value) = (word.now, value)
