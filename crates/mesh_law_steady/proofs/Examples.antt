-- A shop, worked out by hand: a model by days over a timed source, and a FULL model over it. An order of the third
-- day comes late, and what was computed stays.
use Rattle.std.proofs.Common.{◌≡◌, ℕ, ◌+◌, ◌*◌, ℤ, pos, ◌≤ℤ◌, Bool, true, false, ◌&&◌, inl, inr, List, [], ◌∷◌, length, refl, sym, ap, ap₂, ◌∙◌, subst, arith}
use Rattle.std.specs.Prelude.{codes}
use Rattle.std.specs.Ordering.{is_eq}
use Rattle.std.specs.declared.option.Option.{Option}
use Rattle.std.specs.declared.option.Option.TheVariants.{None, Some}
use Rattle.std.proofs.lemmas.List.Elements.{All-nil, All-cons}
use Rattle.mesh_base_values.specs.Bag.{IsSameBag, times}
use Rattle.mesh_base_values.specs.Names.{name_cmp}
use Rattle.mesh_base_values.specs.declared.kinds.Kind.{Kind}
use Rattle.mesh_base_values.specs.declared.kinds.Kind.TheVariants as kind
use Rattle.mesh_base_values.specs.declared.times.Bounds.{Bounds}
use Rattle.mesh_base_values.specs.declared.times.Unit.TheVariants as unit
use Rattle.mesh_base_values.specs.declared.values.Cell.{Cell}
use Rattle.mesh_base_values.specs.declared.values.Cell.TheVariants as cell
use Rattle.mesh_base_values.specs.declared.values.ColType.TheVariants as type
use Rattle.mesh_base_values.specs.declared.values.Name.{Name}
use Rattle.mesh_base_values.proofs.Tests.{le_says}
use Rattle.mesh_base.specs.declared.definitions.Decl.{Decl}
use Rattle.mesh_base.specs.declared.definitions.Defn.TheVariants as defn
use Rattle.mesh_base.specs.declared.definitions.Own.{Own}
use Rattle.mesh_base.specs.declared.expressions.Expr.{Expr, out-roll-Expr, para-roll-Expr, roll-Expr}
use Rattle.mesh_base.specs.declared.expressions.Expr as expr
use Rattle.mesh_base.specs.declared.expressions.Expr.TheOpen.{Between, Col, Macro}
use Rattle.mesh_base.specs.declared.expressions.Var.{Var}
use Rattle.mesh_base.specs.declared.expressions.Var.TheVariants as var
use Rattle.mesh_base.specs.declared.jobs.Input.{Input}
use Rattle.mesh_base.specs.declared.queries.Item.{Item}
use Rattle.mesh_base.specs.declared.queries.Join.TheVariants as join
use Rattle.mesh_base.specs.declared.queries.Rel.TheVariants as rel
use Rattle.mesh_spec_query.specs.Cells.{between}
use Rattle.mesh_spec_query.specs.Ev.{Ev, Seen, at_row, node_value, valued}
use Rattle.mesh_spec_query.specs.Macros.{macro_value}
use Rattle.mesh_spec_query.proofs.Nodes.{Ev_out}
use Rattle.mesh_spec_model.specs.Closures.{Closure, Model, Alone, With, own_of, standing}
use Rattle.mesh_spec_model.specs.Horizons.{Clock, horizon, schedule}
use Rattle.mesh_spec_model.specs.Scratch.{from_scratch, piece, piece_over}
use Rattle.mesh_spec_model.specs.Sources.{declared}
use Rattle.mesh_law_query.proofs.Has.{Has, Has_from, Has_to}
use Rattle.mesh_spec_promise.specs.Sound.{HasEachOnce}
use Rattle.mesh_spec_changes.specs.steady.Arrives.{HasSameRows, KeepsUnits, StaysStatic}
use Rattle.mesh_spec_changes.specs.steady.Steady.{are_ends, are_ends_here, bounds, bounds_here, is_column, is_column_here, when_bounds}
use Rattle.mesh_law_steady.specs.Kept.{AreKept, IsKept}
use Rattle.mesh_law_steady.specs.Near.{inputs_with, near_model, near_source}
use Rattle.mesh_law_steady.proofs.Both.{all_of}
use Rattle.mesh_law_steady.proofs.Even.{full_stays, units_stay}
use Rattle.mesh_law_steady.proofs.Reading.{near_unit}
use Rattle.mesh_law_steady.proofs.Ticks.{at_midnight}
use Rattle.mesh_law_steady.proofs.Units.{unit_of_day}

abbrev pub day : List ℕ
day = codes "day"

abbrev pub shop : List ℕ → Name
shop model = record { schema = codes "shop"; model = model }

abbrev pub orders : Decl
orders = record { name = record { schema = codes "raw"; model = codes "orders" }; columns = record { name = codes "id"; kind = type.Int } ∷ record { name = day; kind = type.Date } ∷ []; time = Some day }

unfoldable pub its_day : Expr
its_day = expr.Col 0 day

unfoldable pub within : Expr
within = expr.Between (expr.Col 0 day) (expr.Macro var.StartDate) (expr.Macro var.EndDate)

abbrev item : Item
item = record { name = day; kind = type.Date; expr = its_day }

-- SELECT day FROM this ..
abbrev pub days_of : Name → Option Expr → Kind → Option ℤ → List Decl → List ℕ → Own
days_of from filter kind start sources model = record {
  name = shop model;
  kind = kind;
  cron = at_midnight;
  unit = unit.Day;
  start = start;
  sources = sources;
  defn = defn.Sql (record {
    ctes = [];
    selects = record { distinct = false; grouped = false; items = item ∷ []; from = record { join = join.First; rel = rel.Named from; on = None } ∷ []; filter = filter; keys = []; having = None } ∷ [];
  });
}

-- from 2024-01-01 on, which is day 19,723
abbrev pub daily : Closure
daily = Model (days_of orders.name (Some within) (kind.Incremental day 0) (Some (pos 19_723)) (orders ∷ []) (codes "daily")) Alone

abbrev pub totals : Closure
totals = Model (days_of (shop (codes "daily")) None kind.Full None [] (codes "totals")) (With daily Alone)

abbrev order : ℕ → ℕ → List Cell
order id on = cell.Int (pos id) ∷ cell.Date (pos on) ∷ []

abbrev loaded : List (List Cell) → List Input
loaded rows = record { name = orders.name; columns = orders.columns; rows = rows } ∷ []

abbrev pub before : List Input
before = loaded (order 1 19_723 ∷ order 2 19_723 ∷ order 3 19_724 ∷ [])

-- in another order, and with one of the third day
abbrev pub after : List Input
after = loaded (order 4 19_725 ∷ order 3 19_724 ∷ order 1 19_723 ∷ order 2 19_723 ∷ [])

-- on 2024-01-03, and a day later
abbrev pub on_wednesday : Clock
on_wednesday cron = pos (19_725 * 86_400)

abbrev on_thursday : Clock
on_thursday cron = pos (19_726 * 86_400)

is_day : is_column 0 day (expr.Col 0 day) ≡ true
unfolding roll-Expr denote.Hole.Carrier.roll
is_day = ap (is_column_here 0 day) (out-roll-Expr (Col 0 day))

are_its_ends : are_ends (expr.Macro var.StartDate) (expr.Macro var.EndDate) ≡ true
unfolding roll-Expr denote.Hole.Carrier.roll
are_its_ends = ap₂ are_ends_here (out-roll-Expr (Macro var.StartDate)) (out-roll-Expr (Macro var.EndDate))

pub it_binds : bounds 0 day within ≡ true
unfolding within roll-Expr denote.Hole.Carrier.roll
it_binds = para-roll-Expr Bool Bool (bounds_here 0 day) when_bounds (Between (expr.Col 0 day) (expr.Macro var.StartDate) (expr.Macro var.EndDate)) ∙ ap₂ (λ a b. a && b) is_day are_its_ends

-- two days are computed, and each keeps its orders
two_units : length (schedule on_wednesday daily) ≡ 2
two_units = refl

abbrev at : ℕ → Bounds
at n = record { start = pos (n * 86_400); end = pos ((n + 1) * 86_400) }

pub keeps : KeepsUnits before after (schedule on_wednesday daily) orders
keeps time is u there = by_place (Has_from (schedule on_wednesday daily) u there)
  where
    its_time : day ≡ time
    its_time = cc

    by_place : Has u (at 19_723 ∷ at 19_724 ∷ []) → HasSameRows before after orders time u
    by_place (inl e) = subst (HasSameRows before after orders time) e (subst (λ n. HasSameRows before after orders n (at 19_723)) its_time (λ row. refl))
    by_place (inr (inl e)) = subst (HasSameRows before after orders time) e (subst (λ n. HasSameRows before after orders n (at 19_724)) its_time (λ row. refl))
    by_place (inr (inr h)) = absurd h

-- the premises of the laws, a day later
daily_kept : (later : Clock) → horizon on_wednesday daily ≤ℤ horizon later daily → IsKept before after on_wednesday later daily
daily_kept later grows = record {
  body = refl;
  steady = ap (λ b. (b && true) && true) it_binds;
  static = All-cons (StaysStatic before after) orders [] (λ none. absurd (cc)) (All-nil (StaysStatic before after));
  timed = λ timed. All-cons (KeepsUnits before after (schedule on_wednesday daily)) orders [] keeps (All-nil (KeepsUnits before after (schedule on_wednesday daily)));
  no_earlier = grows;
}

all_kept : AreKept before after on_wednesday on_thursday daily
all_kept = All-cons (IsKept before after on_wednesday on_thursday) daily [] (daily_kept on_thursday (le_says (horizon on_wednesday daily) (horizon on_thursday daily) refl)) (All-nil (IsKept before after on_wednesday on_thursday))

abbrev pub the_first_day : Bounds
the_first_day = record { start = pos (19_723 * 86_400); end = pos (19_724 * 86_400) }

it_stays : IsSameBag (piece before on_wednesday daily the_first_day) (piece after on_thursday daily the_first_day)
it_stays = units_stay before after on_wednesday on_thursday daily all_kept refl refl the_first_day (Has_to (schedule on_wednesday daily) the_first_day (inl refl))

-- and those of the FULL model, at the same moment
full_kept : IsKept before after on_wednesday on_wednesday totals
full_kept = record { body = refl; steady = refl; static = All-nil (StaysStatic before after); timed = λ timed. absurd (cc); no_earlier = le_says (horizon on_wednesday totals) (horizon on_wednesday totals) refl }

totals_kept : AreKept before after on_wednesday on_wednesday totals
totals_kept = all_of (IsKept before after on_wednesday on_wednesday) (standing totals) (full_kept, (daily_kept on_wednesday (le_says (horizon on_wednesday daily) (horizon on_wednesday daily) refl), tt))

pub each_once : HasEachOnce totals
each_once a b at_a at_b e = by_place (Has_from (standing totals) a at_a) (Has_from (standing totals) b at_b)
  where
    apart : {P : Type 0} → (own_of totals).name ≡ (own_of daily).name → P
    apart e = let clash : true ≡ false = ap (λ n. is_eq (name_cmp n (own_of totals).name)) e in absurd (cc)

    by_place : Has a (totals ∷ daily ∷ []) → Has b (totals ∷ daily ∷ []) → a ≡ b
    by_place (inl p) (inl q) = sym p ∙ q
    by_place (inl p) (inr (inl q)) = apart (ap (λ c. (own_of c).name) p ∙ e ∙ sym (ap (λ c. (own_of c).name) q))
    by_place (inr (inl p)) (inl q) = apart (ap (λ c. (own_of c).name) q ∙ sym e ∙ sym (ap (λ c. (own_of c).name) p))
    by_place (inr (inl p)) (inr (inl q)) = sym p ∙ q
    by_place (inl p) (inr (inr h)) = absurd h
    by_place (inr (inl p)) (inr (inr h)) = absurd h
    by_place (inr (inr h)) q = absurd h

the_whole_stays : IsSameBag (from_scratch before on_wednesday totals) (from_scratch after on_wednesday totals)
the_whole_stays = full_stays before after on_wednesday on_wednesday totals totals_kept refl refl each_once refl

-- what the query for the first day sees of the orders
near_the_first_day : near_source the_first_day (λ d. (declared before d).rows) orders ≡ order 1 19_723 ∷ order 2 19_723 ∷ []
near_the_first_day = refl

it_reads_no_others :
    piece before on_wednesday daily the_first_day ≡ piece_over (own_of daily) (inputs_with (near_source the_first_day (λ d. (declared before d).rows)) (near_model the_first_day (from_scratch before on_wednesday)) (own_of daily) Alone) the_first_day
it_reads_no_others =
    near_unit (own_of daily) Alone refl (ap (λ b. (b && true) && true) it_binds) the_first_day
    (unit_of_day on_wednesday daily the_first_day (Has_to (schedule on_wednesday daily) the_first_day (inl refl))) (λ d. (declared before d).rows) (from_scratch before on_wednesday)

-- had an order of the first day gone, it would have other rows
abbrev changed : List Input
changed = loaded (order 1 19_723 ∷ order 3 19_724 ∷ [])

column_is : (u : Bounds) (row : Seen) → Ev (expr.Col 0 day) (at_row u row) ≡ row 0 day
unfolding roll-Expr denote.Hole.Carrier.roll
column_is u row = Ev_out (expr.Col 0 day) (at_row u row) ∙ ap (λ d. node_value (valued d) (at_row u row)) (out-roll-Expr (Col 0 day))

macro_is : (m : Var) (u : Bounds) (row : Seen) → Ev (expr.Macro m) (at_row u row) ≡ macro_value m u
unfolding roll-Expr denote.Hole.Carrier.roll
macro_is m u row = Ev_out (expr.Macro m) (at_row u row) ∙ ap (λ d. node_value (valued d) (at_row u row)) (out-roll-Expr (Macro m))

its_day_is : (u : Bounds) (row : Seen) → Ev its_day (at_row u row) ≡ row 0 day
unfolding its_day
its_day_is u row = column_is u row

within_is : (u : Bounds) (row : Seen) → Ev within (at_row u row) ≡ between (row 0 day) (macro_value var.StartDate u) (macro_value var.EndDate u)
unfolding within roll-Expr denote.Hole.Carrier.roll
within_is u row =
    Ev_out (expr.Between (expr.Col 0 day) (expr.Macro var.StartDate) (expr.Macro var.EndDate)) (at_row u row)
    ∙ ap (λ d. node_value (valued d) (at_row u row)) (out-roll-Expr (Between (expr.Col 0 day) (expr.Macro var.StartDate) (expr.Macro var.EndDate)))
    ∙ (λ i. between (column_is u row i) (macro_is var.StartDate u row i) (macro_is var.EndDate u row i))

two_rows : (clock : Clock) → piece before clock daily the_first_day ≡ (cell.Date (pos 19_723) ∷ []) ∷ (cell.Date (pos 19_723) ∷ []) ∷ []
two_rows clock = simp (within_is, its_day_is) refl

one_row : (clock : Clock) → piece changed clock daily the_first_day ≡ (cell.Date (pos 19_723) ∷ []) ∷ []
one_row clock = simp (within_is, its_day_is) refl

pub it_would_move : (clock later : Clock) → ¬ IsSameBag (piece before clock daily the_first_day) (piece changed later daily the_first_day)
it_would_move clock later same =
    let row : List Cell = cell.Date (pos 19_723) ∷ [] in
    let clash : 2 ≡ 1 = sym (ap (times row) (two_rows clock)) ∙ same row ∙ ap (times row) (one_row later) in
    absurd (omega (arith, clash))
