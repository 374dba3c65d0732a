-- What is due, in runs: a model that is due as a whole by itself, and the longest runs of adjoining units of one.
use Rattle.std.specs.Prelude.{ℕ, suc, Bool, false, ◌&&◌, nat_eq, if◌then◌else◌, List, [], ◌∷◌}
use Rattle.std.specs.Ordering.{int_eq}
use Rattle.mesh_base.specs.declared.plans.Due.{Due}
use Rattle.mesh_base.specs.declared.plans.Due.TheVariants.{Unit}

-- units of one model, of which the second begins where the first ends
abbrev pub adjoin : Due → Due → Bool
adjoin (Unit node start end) (Unit other from to) = nat_eq node other && int_eq end from
adjoin a b = false

-- one in front of runs is part of the first of them where it adjoins its first unit
abbrev pub in_front : Due → List (List Due) → List (List Due)
in_front d ((e ∷ es) ∷ runs) = if adjoin d e then (d ∷ e ∷ es) ∷ runs else (d ∷ []) ∷ (e ∷ es) ∷ runs
in_front d runs = (d ∷ []) ∷ runs

abbrev pub runs : List Due → List (List Due)
runs [] = []
runs (d ∷ ds) = in_front d (runs ds)

-- how many of them the first run has
abbrev pub first_run : List Due → ℕ
first_run [] = 0
first_run (d ∷ []) = 1
first_run (d ∷ e ∷ es) = if adjoin d e then suc (first_run (e ∷ es)) else 1
