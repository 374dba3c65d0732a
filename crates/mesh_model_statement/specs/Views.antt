-- What stands behind references.
use Rattle.std.specs.Prelude.{List, ℕ}
use Rattle.std.specs.Borrow.{Bor}
use Rattle.std.specs.Option.{option_map}
use Rattle.std.specs.declared.option.Option.{Option}

-- the bytes, if there are any
abbrev pub seen : Option (Bor (List ℕ)) → Option (List ℕ)
seen found = option_map (λ f. f.now) found
