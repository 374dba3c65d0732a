-- The sets of a cron, in crontab's fields: a value is in a set where the set's binary digit at that place is 1.
use Rattle.std.specs.Prelude.{ℕ, zero, suc, ◌+◌, ◌/◌, ◌%◌, ◌^◌, Bool, false, not, ◌&&◌, ◌||◌, ◌==◌, nat_lt, if◌then◌else◌}

-- what a cron says: the values of its five fields, and which of the two day fields are written `*`
pub record CronSets : Type 0 where
  pub minute : ℕ
  pub hour : ℕ
  pub dom : ℕ
  pub month : ℕ
  pub dow : ℕ
  pub dom_star : Bool
  pub dow_star : Bool

-- the value is in the set
unfoldable pub has : ℕ → ℕ → Bool
has set value = (set / 2 ^ value) % 2 == 1

-- some number below n passes the test
unfoldable pub some_below : (ℕ → Bool) → ℕ → Bool
some_below p zero = false
some_below p (suc n) = p n || some_below p n

-- how many numbers below n pass the test
unfoldable pub count_below : (ℕ → Bool) → ℕ → ℕ
count_below p zero = 0
count_below p (suc n) = count_below p n + (if p n then 1 else 0)

-- one value and no other is in the set, whose values are below n
abbrev pub is_single : ℕ → ℕ → Bool
is_single set n = count_below (has set) n == 1

-- the greatest day that a month ever has
abbrev pub longest : ℕ → ℕ
longest month =
    if month == 2 then 29
    else (if (month == 4) || (month == 6) || (month == 9) || (month == 11) then 30 else 31)

-- the set has a day of that month
unfoldable pub has_day : ℕ → ℕ → Bool
has_day dom month = some_below (λ day. has dom day && nat_lt day (longest month + 1)) 32

-- some month of the first set has a day of the second
unfoldable pub has_date : ℕ → ℕ → Bool
has_date months dom = some_below (λ month. has months month && has_day dom month) 13

-- the set holds values from low on and below n, and at least one
unfoldable pub is_set : ℕ → ℕ → ℕ → Bool
is_set low n set = nat_lt set (2 ^ n) && ((set % 2 ^ low == 0) && some_below (has set) n)

-- a crontab can say this: each set is within its field, one minute matches, a star is the whole field and some day
-- matches
unfoldable pub is_cron : CronSets → Bool
is_cron c =
    is_set 0 60 c.minute && (is_single c.minute 60
    && (is_set 0 24 c.hour && (is_set 1 32 c.dom && (is_set 1 13 c.month && (is_set 0 7 c.dow
    && ((not c.dom_star || (c.dom == 0xffff_fffe)) && ((not c.dow_star || (c.dow == 0x7f))
    && (not c.dow_star || has_date c.month c.dom))))))))
