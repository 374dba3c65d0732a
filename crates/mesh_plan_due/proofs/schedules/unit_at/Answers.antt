use Rattle.std.proofs.Common.{◌≡◌, ℕ, ◌+◌, ◌*◌, ◌<◌, ◌≤◌, ◌^◌, ℤ, pos, ◌+ℤ◌, ◌≤ℤ◌, to_z, of_z, w64, FitsSigned, ap, ◌∙◌, arith, rules}
use Rattle.std.proofs.lemmas.Int.{ints, to_z-of_z, to_z_pos}
use Rattle.mesh_base_values.specs.declared.times.Bounds.{Bounds}
use Rattle.mesh_base_values.specs.declared.times.Schedule.{Schedule}
use Rattle.mesh_time.specs.Ranges.{unit_at, unit_count, unit_size}
use Rattle.mesh_time.proofs.Units.{unit_listed}
use Rattle.mesh_plan_due.specs.Least.{IsHorizon}
use Rattle.mesh_plan_due.specs.Long.{IsStart}
use Rattle.mesh_plan_due.proofs.schedules.unit_at.Goals as goal

abbrev second : ℤ → ℕ → ℤ
second start n = to_z w64 (of_z w64 (to_z w64 (of_z w64 start) +ℤ to_z w64 n))

abbrev made : ℤ → ℕ → ℕ → Bounds
made start k size = record { start = second start (k * size); end = second start ((k + 1) * size) }

-- a second that so many come after the start
at_second : (start : ℤ) (n : ℕ) → FitsSigned w64 start → IsStart start → IsHorizon (start +ℤ pos n) → second start n ≡ start +ℤ pos n
at_second start n f low high =
    let small : n < 2 ^ 63 = grind (arith, ints) in
    let fits : FitsSigned w64 (start +ℤ pos n) = grind (arith, ints) in
    (λ i. to_z w64 (of_z w64 (to_z-of_z w64 start f i +ℤ to_z_pos w64 n small i))) ∙ to_z-of_z w64 (start +ℤ pos n) fits

before : (start : ℤ) (m n : ℕ) → m ≤ n → IsHorizon (start +ℤ pos n) → IsHorizon (start +ℤ pos m)
before start m n h high = grind (arith, ints)

through : (a b : ℤ) → a ≤ℤ b → IsHorizon b → IsHorizon a
through a b h high = grind (arith, ints)

less : (k size : ℕ) → k * size ≤ (k + 1) * size
less k size = grind arith

unit_so : (s : Schedule) (k : ℕ) → FitsSigned w64 s.start → IsStart s.start → IsHorizon s.end → k < unit_count s → made s.start k (unit_size s.unit) ≡ unit_at s k
unit_so s k f low high listed =
    let last : IsHorizon (s.start +ℤ pos ((k + 1) * unit_size s.unit)) = through (s.start +ℤ pos ((k + 1) * unit_size s.unit)) s.end ((unit_listed s k).0 listed) high in
    let first : IsHorizon (s.start +ℤ pos (k * unit_size s.unit)) = before s.start (k * unit_size s.unit) ((k + 1) * unit_size s.unit) (less k (unit_size s.unit)) last in
    λ i. record { start = at_second s.start (k * unit_size s.unit) f low first i; end = at_second s.start ((k + 1) * unit_size s.unit) f low last i }

pub returns : goal.returns
returns c =
    let fits : FitsSigned w64 c.args.schedule.now.start = search rules in
    ap (made c.args.schedule.now.start c.args.number) c.unit_size-size.ensures
    ∙ unit_so c.args.schedule.now c.args.number fits c.requires.start c.requires.end c.requires.listed
