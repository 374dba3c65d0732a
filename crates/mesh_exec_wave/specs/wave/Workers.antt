-- What workers leave: the numbers that they drew, and the rows of the jobs that these numbers name.
use Rattle.std.specs.Prelude.{◌≡◌, ◌≤◌, ◌<◌, ℕ, suc, nat_lt, if◌then◌else◌, List, length, set, slice_get, IfOk}
use Rattle.std.specs.List.{fold, flat_map}
use Rattle.std.specs.Option.{option_map, option_to_list}
use Rattle.std.specs.declared.option.Option.{Option}
use Rattle.std.specs.declared.option.Option.TheVariants.{Some}
use Rattle.std.specs.declared.result.Result.{Result}
use Rattle.mesh_list.specs.declared.memory.Memory.{Memory}
use Rattle.mesh_base_values.specs.declared.values.Cell.{Cell}
use Rattle.mesh_exec_wave.specs.claims.Claims.{weigh}
use Rattle.mesh_exec_wave.specs.declared.wave.parts.Part.{Part}

-- the rows of a job beside its number
abbrev pub part : ℕ → List (List Cell) → Part
part number rows = record { number = number; rows = rows }

-- what a number stands for among the rows of all jobs; one that names no job stands for nothing
abbrev pub part_at : List (List (List Cell)) → ℕ → List Part
part_at wanted number = option_to_list (option_map (part number) (slice_get wanted number))

-- what the numbers that were drawn stand for, in their order
abbrev pub parts_of : List (List (List Cell)) → List ℕ → List Part
parts_of wanted drawn = flat_map (part_at wanted) drawn

-- a number that isn't below n counts more than n, and another one counts 1
abbrev pub reach : ℕ → ℕ → ℕ
reach n number = if nat_lt number n then 1 else suc n

-- the numbers that were drawn go past those below n: one of them isn't below n, or they are more than n
abbrev pub IsPast : ℕ → List ℕ → Type 0
IsPast n drawn = n < weigh (reach n) drawn

-- so many numbers were drawn, each of which names a job, and what was made is what they stand for
abbrev pub IsSoFar : List (List (List Cell)) → ℕ → List ℕ → Result (List Part) Memory → Type 0
IsSoFar wanted k drawn made = (length drawn ≡ k) × (weigh (reach (length wanted)) drawn ≡ k) × IfOk made (λ parts. parts ≡ parts_of wanted drawn)

-- at most so many numbers were drawn, they go past those that name a job, and what was made is what they stand for
abbrev pub IsDone : List (List (List Cell)) → ℕ → List ℕ → Result (List Part) Memory → Type 0
IsDone wanted most drawn made = (length drawn ≤ most) × IsPast (length wanted) drawn × IfOk made (λ parts. parts ≡ parts_of wanted drawn)

-- a part is put at its number
abbrev pub put : List (Option (List (List Cell))) → Part → List (Option (List (List Cell)))
put slots p = set slots p.number (Some p.rows)

abbrev pub placed : List (Option (List (List Cell))) → List Part → List (Option (List (List Cell)))
placed slots parts = fold put slots parts
