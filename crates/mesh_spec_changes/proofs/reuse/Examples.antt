-- Categories in small projects, worked out by hand.
use Rattle.std.proofs.Common.{◌≡◌, ℕ, pos, true, false, List, [], ◌∷◌, length, inl, inr, refl, sym, ap, arith}
use Rattle.std.specs.Prelude.{codes}
use Rattle.std.specs.Option.{is_some}
use Rattle.std.specs.declared.option.Option.TheVariants.{None, Some}
use Rattle.mesh_base_values.specs.Crons.{CronSets}
use Rattle.mesh_base_values.specs.declared.values.Cell.TheVariants as cell
use Rattle.mesh_base_values.specs.declared.values.ColType.TheVariants as type
use Rattle.mesh_base_values.specs.declared.values.Name.{Name}
use Rattle.mesh_base_values.specs.declared.times.Unit.TheVariants as unit
use Rattle.mesh_base_values.specs.declared.kinds.Kind.TheVariants as kind
use Rattle.mesh_base.specs.declared.definitions.Defn.TheVariants as defn
use Rattle.mesh_base.specs.declared.definitions.Own.{Own}
use Rattle.mesh_base.specs.declared.expressions.Expr.{Expr, roll-Expr}
use Rattle.mesh_base.specs.declared.expressions.Expr.TheOpen.{Literal, Col, CountAll}
use Rattle.mesh_base.specs.declared.plans.Category.TheVariants.{Breaking, NonBreaking, IndirectBreaking, IndirectNonBreaking}
use Rattle.mesh_base.specs.declared.queries.Item.{Item}
use Rattle.mesh_base.specs.declared.queries.Join.TheVariants as join
use Rattle.mesh_base.specs.declared.queries.Rel.TheVariants as rel
use Rattle.mesh_base.specs.declared.queries.Select.{Select}
use Rattle.mesh_spec_model.specs.Closures.{Closure, Model, Alone, With}
use Rattle.mesh_spec_changes.specs.reuse.Compatible.{no_more, keep, skip, IsAdditive, IsCompatible}
use Rattle.mesh_spec_changes.specs.reuse.Categories.{Stated, HasCategory}
use Rattle.mesh_spec_changes.proofs.reuse.Compatible.{select_in, part_stays, items_stay, distinct_stays}

abbrev every_day : CronSets
every_day = record { minute = 1; hour = 1; dom = 0xffff_fffe; month = 0x1ffe; dow = 0x7f; dom_star = true; dow_star = true }

abbrev named : List ℕ → Name
named model = record { schema = codes "a"; model = model }

abbrev item : List ℕ → Expr → Item
item name e = record { name = name; kind = type.Int; expr = e }

-- a column by its own name, and some other items
abbrev column : List ℕ → Item
column name = item name (roll-Expr (Col 0 name))

abbrev one : Item
one = item (codes "a") (roll-Expr (Literal (cell.Int (pos 1))))

abbrev number : Item
number = item (codes "n") (roll-Expr CountAll)

-- SELECT these items FROM one model
abbrev picks : List ℕ → List Item → Select
picks from items = record { distinct = false; grouped = false; items = items; from = record { join = join.First; rel = rel.Named (named from); on = None } ∷ []; filter = None; keys = []; having = None }

abbrev full : List ℕ → Select → Own
full model select = record { name = named model; kind = kind.Full; cron = every_day; unit = unit.Day; start = None; sources = []; defn = defn.Sql (record { ctes = []; selects = select ∷ [] }) }

-- a seed of two rows
abbrev seed : Own
seed = record { name = named (codes "t"); kind = kind.Seed; cron = every_day; unit = unit.Day; start = None; sources = []; defn = defn.Seed (record { name = codes "x"; kind = type.Int } ∷ []) ((cell.Int (pos 1) ∷ []) ∷ (cell.Int (pos 2) ∷ []) ∷ []) }

-- a model over one other
abbrev over : Own → Closure → Closure
over own parent = Model own (With parent Alone)

abbrev at : ℕ → Closure → Stated
at fingerprint c = record { fingerprint = fingerprint ∷ []; closure = c }

-- the two fingerprints are not one
abbrev one_byte : ℕ → List ℕ
one_byte n = n ∷ []

others : ¬ (one_byte 1 ≡ one_byte 2)
others e = let n : 1 ≡ 2 = ap first e in absurd (omega (arith, n))
  where
    first : List ℕ → ℕ
    first [] = 0
    first (n ∷ ns) = n

no : ¬ (false ≡ true)
no e = cc

-- the SELECT of a model with one
abbrev select_of : Own → Select
select_of o = select_in (picks (codes "t") []) o.defn

unlike : (old new : Own) (c d : Closure) → ¬ (old ≡ new) → ¬ IsAdditive old new → ¬ IsCompatible (over old c) (over new d)
unlike old new c d differ alone h = elim (h.0) [ inl e ↦ differ e | inr a ↦ alone a ]

under : (own : Own) (c d : Closure) → ¬ IsCompatible c d → ¬ IsCompatible (over own c) (over own d)
under own c d f h = f h.1.1

abbrev x : Item
x = column (codes "x")

abbrev y : Item
y = column (codes "y")

abbrev rows : Closure
rows = Model seed Alone

-- COUNT(*) is added beside a number, so that the query is grouped: breaking, and so for what stands on it
abbrev numbered : Own
numbered = full (codes "p") (picks (codes "t") (one ∷ []))

abbrev counted : Own
counted = full (codes "p") (record (picks (codes "t") (one ∷ number ∷ [])) { grouped = true })

abbrev reader : Own
reader = full (codes "c") (picks (codes "p") (column (codes "a") ∷ []))

counted_differs : ¬ (numbered ≡ counted)
counted_differs e = no (ap (λ o. (select_of o).grouped) e)

counted_adds_more : ¬ IsAdditive numbered counted
counted_adds_more a = no (part_stays (picks (codes "t") []) (λ s. s.grouped) (λ s items. refl) numbered counted a)

a_count_is_breaking : HasCategory (Some (at 1 (over numbered rows))) (at 2 (over counted rows)) Breaking
a_count_is_breaking = (others, λ d. (counted_differs, unlike numbered counted rows rows counted_differs counted_adds_more))

below_a_count : HasCategory (Some (at 1 (over reader (over numbered rows)))) (at 2 (over reader (over counted rows))) IndirectBreaking
below_a_count = (others, λ d. (refl, under reader (over numbered rows) (over counted rows) (unlike numbered counted rows rows counted_differs counted_adds_more)))

-- a SELECT DISTINCT gains a column: breaking
abbrev distinct_x : Own
distinct_x = full (codes "p") (record (picks (codes "t") (x ∷ [])) { distinct = true })

abbrev distinct_xy : Own
distinct_xy = full (codes "p") (record (picks (codes "t") (x ∷ y ∷ [])) { distinct = true })

distinct_differs : ¬ (distinct_x ≡ distinct_xy)
distinct_differs e = let n : 1 ≡ 2 = ap (λ o. length (select_of o).items) e in absurd (omega (arith, n))

distinct_is_breaking : HasCategory (Some (at 1 (over distinct_x rows))) (at 2 (over distinct_xy rows)) Breaking
distinct_is_breaking = (others, λ d. (distinct_differs, unlike distinct_x distinct_xy rows rows distinct_differs (λ a. no (sym (distinct_stays (picks (codes "t") []) distinct_x distinct_xy a)))))

-- a column is added, and the model that shows all columns gets it too: both are non-breaking, and what reads one column
-- there is changed by them alone
abbrev plain : List ℕ → List ℕ → Own
plain model from = full model (picks from (x ∷ []))

abbrev wider : List ℕ → List ℕ → Own
wider model from = full model (picks from (x ∷ y ∷ []))

added : (model from : List ℕ) → IsAdditive (plain model from) (wider model from)
added model from = record { ctes = []; select = picks from (x ∷ []); items = x ∷ y ∷ []; plain = refl; was = refl; more = keep (skip no_more); is = refl }

wider_differs : (model from : List ℕ) → ¬ (plain model from ≡ wider model from)
wider_differs model from e = let n : 1 ≡ 2 = ap (λ o. length (select_of o).items) e in absurd (omega (arith, n))

abbrev narrow_p : Closure
narrow_p = over (plain (codes "p") (codes "t")) rows

abbrev wide_p : Closure
wide_p = over (wider (codes "p") (codes "t")) rows

wide_p_adds : IsCompatible narrow_p wide_p
wide_p_adds = (inr (added (codes "p") (codes "t")), (refl, (inl refl, tt), tt))

abbrev narrow_c : Closure
narrow_c = over (plain (codes "c") (codes "p")) narrow_p

abbrev wide_c : Closure
wide_c = over (wider (codes "c") (codes "p")) wide_p

wide_c_adds : IsCompatible narrow_c wide_c
wide_c_adds = (inr (added (codes "c") (codes "p")), (refl, wide_p_adds, tt))

abbrev one_column : Own
one_column = plain (codes "g") (codes "c")

a_column_is_added : HasCategory (Some (at 1 narrow_p)) (at 2 wide_p) NonBreaking
a_column_is_added = (others, λ d. (wider_differs (codes "p") (codes "t"), wide_p_adds))

all_columns_are_read : HasCategory (Some (at 1 narrow_c)) (at 2 wide_c) NonBreaking
all_columns_are_read = (others, λ d. (wider_differs (codes "c") (codes "p"), wide_c_adds))

below_an_added_column : HasCategory (Some (at 1 (over one_column narrow_c))) (at 2 (over one_column wide_c)) IndirectNonBreaking
below_an_added_column = (others, λ d. (refl, (inl refl, (refl, wide_c_adds, tt))))

-- a column is added, and WHERE TRUE: breaking, though no row goes by it, and so for what stands on it
abbrev filtered : Own
filtered = full (codes "p") (record (picks (codes "t") (x ∷ y ∷ [])) { filter = Some (roll-Expr (Literal (cell.Bool true))) })

filtered_differs : ¬ (plain (codes "p") (codes "t") ≡ filtered)
filtered_differs e = no (ap (λ o. is_some (select_of o).filter) e)

filtered_adds_more : ¬ IsAdditive (plain (codes "p") (codes "t")) filtered
filtered_adds_more a = no (part_stays (picks (codes "t") []) (λ s. is_some s.filter) (λ s items. refl) (plain (codes "p") (codes "t")) filtered a)

a_filter_is_breaking : HasCategory (Some (at 1 narrow_p)) (at 2 (over filtered rows)) Breaking
a_filter_is_breaking = (others, λ d. (filtered_differs, unlike (plain (codes "p") (codes "t")) filtered rows rows filtered_differs filtered_adds_more))

below_a_filter : HasCategory (Some (at 1 (over reader narrow_p))) (at 2 (over reader (over filtered rows))) IndirectBreaking
below_a_filter = (others, λ d. (refl, under reader narrow_p (over filtered rows) (unlike (plain (codes "p") (codes "t")) filtered rows rows filtered_differs filtered_adds_more)))

-- two columns in the other order: breaking
abbrev turned : Own
turned = full (codes "p") (picks (codes "t") (y ∷ x ∷ []))

-- the first byte of the first item's name
abbrev first_byte : List Item → ℕ
first_byte [] = 0
first_byte (i ∷ is) = byte i.name
  where
    byte : List ℕ → ℕ
    byte [] = 0
    byte (b ∷ bs) = b

turned_differs : ¬ (wider (codes "p") (codes "t") ≡ turned)
turned_differs e = let n : 120 ≡ 121 = ap (λ o. first_byte (select_of o).items) e in absurd (omega (arith, n))

turned_adds_more : ¬ IsAdditive (wider (codes "p") (codes "t")) turned
turned_adds_more a =
    let n : 120 ≡ 121 = ap first_byte (items_stay (picks (codes "t") []) (wider (codes "p") (codes "t")) turned a refl) in
    absurd (omega (arith, n))

another_order_is_breaking : HasCategory (Some (at 1 wide_p)) (at 2 (over turned rows)) Breaking
another_order_is_breaking = (others, λ d. (turned_differs, unlike (wider (codes "p") (codes "t")) turned rows rows turned_differs turned_adds_more))
