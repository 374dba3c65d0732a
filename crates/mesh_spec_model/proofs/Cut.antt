-- Sources as declared, and rows of a unit.
use Rattle.std.proofs.Common.{◌≡◌, ℕ, zero, suc, ◌+◌, ◌*◌, ◌≤◌, arith, ℤ, pos, ◌+ℤ◌, ◌≤ℤ◌, ◌<ℤ◌, ◌↔◌, Bool, true, false, cond, List, [], ◌∷◌, map, length, refl, ap, sym, ◌∙◌, subst}
use Rattle.std.specs.List.{All, Contains, find, list_all}
use Rattle.std.specs.Int.Signed.{le_z, lt_z}
use Rattle.std.specs.declared.option.Option.{Option}
use Rattle.std.specs.declared.option.Option.TheVariants.{None, Some}
use Rattle.std.proofs.lemmas.Bool.{and_parts, and_from as and_true}
use Rattle.std.proofs.lemmas.List.{length-map}
use Rattle.std.proofs.lemmas.List.Elements.{All-nil, All-cons}
use Rattle.std.proofs.Math.Nat.{mul-le-mul_right}
use Rattle.mesh_base_values.specs.Picked.{same_text, cell_of, picked_row, picked_rows}
use Rattle.mesh_base_values.specs.declared.times.Bounds.{Bounds}
use Rattle.mesh_base.specs.declared.jobs.Input.{Input}
use Rattle.mesh_base_values.specs.declared.values.Cell.{Cell}
use Rattle.mesh_base_values.specs.declared.values.ColType.{ColType}
use Rattle.mesh_base_values.specs.declared.values.ColType.TheVariants.{Int, Text, Date, Bool as Truth}
use Rattle.mesh_base_values.specs.declared.values.Column.{Column}
use Rattle.mesh_base_values.specs.declared.times.Unit.{Unit as TimeUnit}
use Rattle.mesh_base_values.specs.declared.times.Unit.TheVariants.{Hour, Day}
use Rattle.mesh_base_values.specs.declared.times.Schedule.{Schedule}
use Rattle.std.proofs.lemmas.Int.{ints, by_lt_z}
use Rattle.mesh_time.specs.Ranges.{IsWithin, unit_size, unit_at}
use Rattle.mesh_time_days.specs.seconds.Times.{time_of, is_within, lies_in}
use Rattle.mesh_base_values.specs.Types.{same_type}
use Rattle.mesh_base_values.proofs.Tests.{lt_true, lt_says, le_true, le_says}
use Rattle.mesh_spec_model.specs.Sources.{is_of_type, has_shape, declared_rows}

type_is : (a b : ColType) → same_type a b ≡ true → a ≡ b
type_is Int Int e = refl
type_is Text Text e = refl
type_is Date Date e = refl
type_is Truth Truth e = refl
type_is Int Text e = absurd (cc)
type_is Int Date e = absurd (cc)
type_is Int Truth e = absurd (cc)
type_is Text Int e = absurd (cc)
type_is Text Date e = absurd (cc)
type_is Text Truth e = absurd (cc)
type_is Date Int e = absurd (cc)
type_is Date Text e = absurd (cc)
type_is Date Truth e = absurd (cc)
type_is Truth Int e = absurd (cc)
type_is Truth Text e = absurd (cc)
type_is Truth Date e = absurd (cc)

passes : {X : Type 0} (p : X → Bool) (xs : List X) (x : X) → list_all p xs ≡ true → Contains xs x → p x ≡ true
passes p [] x h (k, l, e) = absurd (omega arith)
passes p (y ∷ ys) x h (zero, l, e) = subst (λ t. p t ≡ true) e (and_parts (p y) (list_all p ys) h).0
passes p (y ∷ ys) x h (suc k, l, e) = passes p ys x (and_parts (p y) (list_all p ys) h).1 (k, omega arith, e)

-- the column of that name has that type
abbrev Typed : ColType → Option Column → Type 0
Typed kind o = (head : Column) × (o ≡ Some head) × (head.kind ≡ kind)

typed : (kind : ColType) (o : Option Column) → is_of_type kind o ≡ true → Typed kind o
typed kind None e = absurd (cc)
typed kind (Some head) e = (head, refl, type_is head.kind kind e)

pub shaped : (columns : List Column) (s : Input) (row : List Cell) → Contains (declared_rows columns (Some s)) row → (c : Column) → Contains columns c → Typed c.kind (find (λ head. same_text head.name c.name) s.columns)
shaped columns s row h c k = go (has_shape columns s.columns) refl h
  where
    go : (b : Bool) → has_shape columns s.columns ≡ b → Contains (cond b (picked_rows (map (λ (d : Column). d.name) columns) s.columns s.rows) []) row → Typed c.kind (find (λ head. same_text head.name c.name) s.columns)
    go true e h = typed c.kind (find (λ head. same_text head.name c.name) s.columns) (passes (λ (d : Column). is_of_type d.kind (find (λ head. same_text head.name d.name) s.columns)) columns c e k)
    go false e (n, l, f) = absurd (omega arith)

wide_rows : (columns : List Column) (cs : List Column) (rows : List (List Cell)) → All (λ row. length row ≡ length columns) (picked_rows (map (λ (d : Column). d.name) columns) cs rows)
wide_rows columns cs [] = All-nil (λ row. length row ≡ length columns)
wide_rows columns cs (r ∷ rs) =
    let names = map (λ (d : Column). d.name) columns in
    All-cons (λ row. length row ≡ length columns) (picked_row names cs r) (picked_rows names cs rs) (length-map names (cell_of cs r) ∙ length-map columns (λ (d : Column). d.name)) (wide_rows columns cs rs)

pub wide : (columns : List Column) (o : Option Input) → All (λ row. length row ≡ length columns) (declared_rows columns o)
wide columns None = All-nil (λ row. length row ≡ length columns)
wide columns (Some s) = go (has_shape columns s.columns)
  where
    go : (b : Bool) → All (λ row. length row ≡ length columns) (cond b (picked_rows (map (λ (d : Column). d.name) columns) s.columns s.rows) [])
    go true = wide_rows columns s.columns s.rows
    go false = All-nil (λ row. length row ≡ length columns)

abbrev Second : Bounds → Option ℤ → Type 0
Second u o = (t : ℤ) × (o ≡ Some t) × IsWithin u.start u.end t

second : (u : Bounds) (o : Option ℤ) → is_within u o ≡ true → Second u o
second u None e = absurd (cc)
second u (Some t) e = let both = and_parts (le_z u.start t) (lt_z t u.end) e in (t, refl, (le_says u.start t both.0, lt_says t u.end both.1))

within : (u : Bounds) (o : Option ℤ) → Second u o → is_within u o ≡ true
within u o (t, e, (low, high)) = ap (is_within u) e ∙ and_true (le_z u.start t) (lt_z t u.end) (le_true u.start t low) (lt_true t u.end high)

pub by_second : (columns : List Column) (time : List ℕ) (u : Bounds) (row : List Cell) → (lies_in columns time u row ≡ true) ↔ Second u (time_of (cell_of columns row time))
by_second columns time u row = (second u (time_of (cell_of columns row time)), within u (time_of (cell_of columns row time)))

-- no second lies in two units
one_unit : (s : Schedule) (size i j : ℕ) (t : ℤ) → 1 ≤ size → (s.start +ℤ pos (i * size)) ≤ℤ t → t <ℤ (s.start +ℤ pos ((i + 1) * size)) → (s.start +ℤ pos (j * size)) ≤ℤ t → t <ℤ (s.start +ℤ pos ((j + 1) * size)) → i ≡ j
one_unit s size i j t some low high low' high' =
    by_lt_z (pos i) (pos j)
    (λ l. let p : (i + 1) * size ≤ j * size = mul-le-mul_right size (omega (arith, ints)) in absurd (omega (arith, ints)))
    (λ ge. by_lt_z (pos j) (pos i)
    (λ l. let p : (j + 1) * size ≤ i * size = mul-le-mul_right size (omega (arith, ints)) in absurd (omega (arith, ints)))
    (λ le. omega (arith, ints)))

sized : (unit : TimeUnit) → 1 ≤ unit_size unit
sized Hour = omega arith
sized Day = omega arith

some_is : (t u : ℤ) → ◌≡◌ {A = Option ℤ} (Some t) (Some u) → t ≡ u
some_is t u e = cc

pub in_one : (columns : List Column) (time : List ℕ) (s : Schedule) (i j : ℕ) (row : List Cell) → lies_in columns time (unit_at s i) row ≡ true → lies_in columns time (unit_at s j) row ≡ true → i ≡ j
in_one columns time s i j row h k =
    let a = second (unit_at s i) (time_of (cell_of columns row time)) h in
    let b = second (unit_at s j) (time_of (cell_of columns row time)) k in
    let same : b.0 ≡ a.0 = some_is b.0 a.0 (sym b.1 ∙ a.1) in
    one_unit s (unit_size s.unit) i j a.0 (sized s.unit) a.2.0 a.2.1 (subst (λ t. (unit_at s j).start ≤ℤ t) same b.2.0) (subst (λ t. t <ℤ (unit_at s j).end) same b.2.1)
