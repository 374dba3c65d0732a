-- What the values of options and places stand for.
use Rattle.std.specs.Prelude.{ℕ, ℤ, pos, unsigned_abs, Bool, not, ◌&&◌, ◌==◌, if◌then◌else◌, List, ◌+◌, map, take, drop, Some, None}
use Rattle.std.specs.List.{position}
use Rattle.std.specs.Option.{option_and_then, option_map}
use Rattle.std.specs.declared.option.Option.{Option}
use Rattle.std.specs.Int.Signed.{le_z}
use Rattle.std.specs.Char.{to_ascii_lowercase}
use Rattle.mesh_base_values.specs.Names.{is_identifier}
use Rattle.mesh_base_values.specs.Picked.{same_text}
use Rattle.mesh_base_values.specs.declared.values.Name.{Name}
use Rattle.mesh_base.specs.declared.forgets.Restate.{Restate}
use Rattle.mesh_time_days.specs.Moments.{IsMomentText}
use Rattle.mesh_time_days.specs.casts.Casts.{number_named}
use Rattle.mesh_time_days.specs.casts.Dates.{day_named}
use Rattle.mesh_spec_changes.specs.Environments.{is_env_name, prod}

-- an environment by its name, and production where none is given
abbrev pub env_named : Option (List ℕ) → Option (List ℕ)
env_named None = Some prod
env_named (Some text) = if is_env_name text then Some text else None

-- an environment that is to expire: any but production, which stays
abbrev pub is_other : List ℕ → Bool
is_other env = not (same_text env prod)

abbrev pub other_than_prod : List ℕ → Option (List ℕ)
other_than_prod env = if is_other env then Some env else None

abbrev pub expiring_named : Option (List ℕ) → Option (List ℕ)
expiring_named text = option_and_then other_than_prod (env_named text)

abbrev pub is_crew : ℤ → Bool
is_crew n = le_z (pos 1) n && le_z n (pos 64)

abbrev pub crew : ℤ → Option ℕ
crew n = if is_crew n then Some (unsigned_abs n) else None

-- how many workers: 1 to 64, and 1 where nothing is said
abbrev pub workers_named : Option (List ℕ) → Option ℕ
workers_named None = Some 1
workers_named (Some text) = option_and_then crew (number_named text)

abbrev pub is_count : ℤ → Bool
is_count n = le_z (pos 1) n && le_z n (pos 100_000)

abbrev pub count : ℤ → Option ℕ
count n = if is_count n then Some (unsigned_abs n) else None

-- how many records a demonstration has: 1 to 100,000
abbrev pub count_named : List ℕ → Option ℕ
count_named text = option_and_then count (number_named text)

-- a moment, where one is given
abbrev pub IsMomentOf : Option (List ℕ) → Option ℤ → Type 0
IsMomentOf None None = Unit {0}
IsMomentOf None (Some t) = ⊥
IsMomentOf (Some text) None = ⊥
IsMomentOf (Some text) (Some t) = IsMomentText t text

abbrev pub is_point : ℕ → Bool
is_point b = b == 46

abbrev pub small : List ℕ → List ℕ
small text = map to_ascii_lowercase text

abbrev pub name_of : List ℕ → List ℕ → Option Name
name_of schema model = if is_identifier schema && is_identifier model then Some (record { schema = small schema; model = small model }) else None

-- a name of two parts, in small letters: what stands in front of the first point, and what stands behind it
abbrev pub name_named : List ℕ → Option Name
name_named text = option_and_then (λ at. name_of (take at text) (drop (at + 1) text)) (position is_point text)

-- a column's name, in small letters
abbrev pub column_named : List ℕ → Option (List ℕ)
column_named text = if is_identifier text then Some (small text) else None

-- both days, the first not above the last
abbrev pub days_in_order : ℤ × ℤ → Option (ℤ × ℤ)
days_in_order (first, last) = if le_z first last then Some (first, last) else None

abbrev pub with_first : Option ℤ → Option ℤ → Option (ℤ × ℤ)
with_first None last = None
with_first (Some first) last = option_and_then (λ l. days_in_order (first, l)) last

abbrev pub days_named : List ℕ → List ℕ → Option (ℤ × ℤ)
days_named first last = with_first (day_named first) (day_named last)

-- a model that is computed again, over these days or over all
abbrev pub restate_all : Name → Restate
restate_all name = record { name = name; first = None; last = None }

abbrev pub restate_days : Name → ℤ × ℤ → Restate
restate_days name (first, last) = record { name = name; first = Some first; last = Some last }

abbrev pub restate_named : Name → Option (List ℕ) → Option (List ℕ) → Option Restate
restate_named name None None = Some (restate_all name)
restate_named name (Some first) (Some last) = option_map (restate_days name) (days_named first last)
restate_named name None (Some last) = None
restate_named name (Some first) None = None

-- what is computed again, if anything is: days without a model are no such words
abbrev pub again_named : Option (List ℕ) → Option (List ℕ) → Option (List ℕ) → Option (Option Restate)
again_named None None None = Some None
again_named None None (Some last) = None
again_named None (Some first) last = None
again_named (Some model) first last = option_and_then (λ name. option_map Some (restate_named name first last)) (name_named model)
