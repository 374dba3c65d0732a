-- The second that a cell stands for is its time value.
use Rattle.std.proofs.Common.{◌≡◌, Some, None, ℤ, ◌↔◌, sym, ◌∙◌, ap, refl}
use Rattle.std.specs.Prelude.{MatchOption}
use Rattle.std.specs.declared.option.Option.{Option}
use Rattle.std.specs.Option.{option_map}
use Rattle.mesh_base_values.specs.declared.values.Cell.{Cell}
use Rattle.mesh_base_values.specs.declared.values.Cell.TheVariants.{Null, Int, Text, Date, Bool as Truth}
use Rattle.mesh_time_days.specs.Moments.{IsTimeValue}
use Rattle.mesh_time_days.specs.casts.Dates.{day_named}
use Rattle.mesh_time_days.proofs.casts.CalendarDays.{named-is, is-named}
use Rattle.mesh_time_days.specs.seconds.Times.{first_second, time_of}

is_time : (cell : Cell) (t : ℤ) → time_of cell ≡ Some t → IsTimeValue cell t
is_time Null t h = cc
is_time (Int n) t h = cc
is_time (Text text) t h = at (day_named text) refl h
  where
    at : (o : Option ℤ) → day_named text ≡ o → option_map first_second o ≡ Some t → IsTimeValue (Text text) t
    at None e h = cc
    at (Some day) e h = (day, is-named text day e, let same : first_second day ≡ t = cc in sym same)
is_time (Date day) t h = cc
is_time (Truth b) t h = cc

its_time : (cell : Cell) (t : ℤ) → IsTimeValue cell t → time_of cell ≡ Some t
its_time Null t h = absurd h
its_time (Int n) t h = ap Some (sym h)
its_time (Text text) t (day, is, e) = ap (option_map first_second) (named-is text day is) ∙ ap Some (sym e)
its_time (Date day) t h = ap Some (sym h)
its_time (Truth b) t h = absurd h

pub time_value : (cell : Cell) (t : ℤ) → (time_of cell ≡ Some t) ↔ IsTimeValue cell t
time_value cell t = (is_time cell t, its_time cell t)

-- a cell without a time value stands for no second
pub no_second : (cell : Cell) → ((t : ℤ) → ¬ IsTimeValue cell t) → time_of cell ≡ None
no_second cell never = at (time_of cell) refl
  where
    at : (o : Option ℤ) → o ≡ time_of cell → o ≡ None
    at None e = refl
    at (Some t) e = absurd (never t ((time_value cell t).0 (sym e)))

-- what tells the time value of a cell, where it has one, tells its second
pub second_is : (cell : Cell) (r : Option ℤ) → MatchOption r ((t : ℤ) → ¬ IsTimeValue cell t) (λ t. IsTimeValue cell t) → r ≡ time_of cell
second_is cell None never = sym (no_second cell never)
second_is cell (Some t) is = sym ((time_value cell t).1 is)
