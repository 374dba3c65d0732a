-- The bytes of a path, one after the other.
use Rattle.std.proofs.Common.{◌≡◌, ℕ, ◌+◌, ◌<◌, ◌≤◌, List, drop, length, get_or, refl, sym, ◌∙◌, ap}
use Rattle.std.proofs.lemmas.List.{drop_more, drop_all}
use Rattle.std.specs.declared.option.Option.{Option}
use Rattle.std.specs.declared.option.Option.TheVariants.{None, Some}
use Rattle.mesh_query_tokens.specs.bounds.Found.{◌>>=◌}
use Rattle.mesh_query_tokens.specs.bounds.Paths.{file_in, behind_byte, file_from}

-- what follows a byte
then_on : List ℕ → ℕ → Option (List ℕ × List ℕ) → Option (List ℕ)
then_on path i r = r >>= λ s. file_from s.0 s.1 (drop i path)

here : (path : List ℕ) (i : ℕ) (folder part : List ℕ) → i < length path → file_from folder part (drop i path) ≡ then_on path (i + 1) (behind_byte folder part (get_or path i 0))
unfolding file_from then_on
here path i folder part lt = rw (drop_more path i 0 lt) refl

pub byte_read : (path : List ℕ) (i : ℕ) (folder part next more : List ℕ) (total : Option (List ℕ)) → i < length path
    → behind_byte folder part (get_or path i 0) ≡ Some (next, more) → file_from folder part (drop i path) ≡ total → file_from next more (drop (i + 1) path) ≡ total
unfolding then_on
byte_read path i folder part next more total lt is so_far = sym (here path i folder part lt ∙ ap (then_on path (i + 1)) is) ∙ so_far

pub byte_refused : (path : List ℕ) (i : ℕ) (folder part : List ℕ) (total : Option (List ℕ)) → i < length path
    → behind_byte folder part (get_or path i 0) ≡ None → file_from folder part (drop i path) ≡ total → None ≡ total
unfolding then_on
byte_refused path i folder part total lt is so_far = sym (here path i folder part lt ∙ ap (then_on path (i + 1)) is) ∙ so_far

pub all_read : (path : List ℕ) (i : ℕ) (folder part : List ℕ) (total : Option (List ℕ)) → length path ≤ i → file_from folder part (drop i path) ≡ total → file_in folder part ≡ total
unfolding file_from
all_read path i folder part total le so_far = sym (ap (file_from folder part) (drop_all i path le)) ∙ so_far
