-- The text of a cron: five fields with spaces between, by POSIX crontab, with steps and aliases.
use Rattle.std.specs.Prelude.{ℕ, zero, suc, ◌+◌, ◌-◌, ◌*◌, ◌%◌, ◌^◌, Bool, not, ◌&&◌, ◌||◌, ◌==◌, nat_lt, nat_le, nat_eq, if◌then◌else◌, List, [], ◌∷◌, length, drop, codes, Result, Ok, Err}
use Rattle.std.specs.List.{list_all, list_any, prefix_len, before_first, after_first, slice_split}
use Rattle.std.specs.Cmp.Lexicographic.{pointwise}
use Rattle.mesh_base_values.specs.declared.crons.CronFault.{CronFault}
use Rattle.mesh_base_values.specs.declared.crons.CronFault.TheVariants.{BadField, TooFine, NoTick}
use Rattle.mesh_base_values.specs.Crons.{CronSets, has, has_date, count_below}

-- two texts are the same
abbrev pub same_text : List ℕ → List ℕ → Bool
same_text = pointwise nat_eq

-- the text has a byte at all
abbrev pub is_text : List ℕ → Bool
is_text text = nat_lt 0 (length text)

-- the text from its first byte on that is no space
abbrev pub trimmed : List ℕ → List ℕ
trimmed text = drop (prefix_len (λ b. b == 32) text) text

-- the first word of a text
unfoldable pub word : List ℕ → List ℕ
word text = before_first (λ b. b == 32) (trimmed text)

-- what stands after it
unfoldable pub after_word : List ℕ → List ℕ
after_word text = after_first (λ b. b == 32) (trimmed text)

-- the number that digits spell, after those of a number
abbrev pub number_after : ℕ → List ℕ → ℕ
number_after n [] = n
number_after n (b ∷ bs) = number_after (10 * n + (b - 48)) bs

-- the number that digits spell
unfoldable pub number : List ℕ → ℕ
number text = number_after 0 text

-- a decimal digit
abbrev pub is_digit : ℕ → Bool
is_digit b = nat_le 48 b && nat_le b 57

-- the text is one or more decimal digits
unfoldable pub is_number : List ℕ → Bool
is_number text = is_text text && list_all is_digit text

-- a byte stands in the text
abbrev pub stands_in : ℕ → List ℕ → Bool
stands_in byte text = list_any (λ b. b == byte) text

-- the number before the `-` of `a-b`, or all of `n`
abbrev pub low_end : List ℕ → List ℕ
low_end text = before_first (λ b. b == 45) text

-- the number after the `-` of `a-b`, or all of `n`
abbrev pub high_end : List ℕ → List ℕ
high_end text = if stands_in 45 text then after_first (λ b. b == 45) text else text

-- `n` or `a-b` within the bounds of a field, with a not above b
unfoldable pub is_range : ℕ → ℕ → List ℕ → Bool
is_range low high text =
    is_number (low_end text) && (is_number (high_end text) && (nat_le low (number (low_end text))
    && (nat_le (number (low_end text)) (number (high_end text)) && nat_le (number (high_end text)) high)))

-- `*` alone
abbrev pub is_star : List ℕ → Bool
is_star text = same_text text (codes "*")

-- what may be stepped through: `*`, or `a-b`
unfoldable pub is_stepped : ℕ → ℕ → List ℕ → Bool
is_stepped low high text = is_star text || (stands_in 45 text && is_range low high text)

-- the text before the `/` of an item, or all of it
abbrev pub front : List ℕ → List ℕ
front item = before_first (λ b. b == 47) item

-- the text after the `/` of an item
abbrev pub step_text : List ℕ → List ℕ
step_text item = after_first (λ b. b == 47) item

-- `n`, `a-b`, `a-b/k` or `*/k`, with k at least 1
unfoldable pub is_item : ℕ → ℕ → List ℕ → Bool
is_item low high item =
    if stands_in 47 item
    then is_stepped low high (front item) && (is_number (step_text item) && nat_lt 0 (number (step_text item)))
    else is_range low high (front item)

-- the first number of an item
unfoldable pub item_first : ℕ → List ℕ → ℕ
item_first low item = if is_star (front item) then low else number (low_end (front item))

-- the number up to which it goes
unfoldable pub item_last : ℕ → List ℕ → ℕ
item_last high item = if is_star (front item) then high else number (high_end (front item))

-- its step
unfoldable pub item_step : List ℕ → ℕ
item_step item = if stands_in 47 item then number (step_text item) else 1

-- an item matches a value: it lies from the first to the last, and so many whole steps after the first
unfoldable pub item_has : ℕ → ℕ → ℕ → List ℕ → Bool
item_has low high value item =
    is_item low high item && (nat_le (item_first low item) value && (nat_le value (item_last high item)
    && ((value - item_first low item) % item_step item == 0)))

-- the items of a field, which commas part
abbrev pub items : List ℕ → List (List ℕ)
items field = slice_split (λ b. b == 44) field

-- `*`, or a comma list of items
unfoldable pub is_field : ℕ → ℕ → List ℕ → Bool
is_field low high field = is_star field || list_all (is_item low high) (items field)

-- a field matches a value within its bounds
unfoldable pub field_has : ℕ → ℕ → List ℕ → ℕ → Bool
field_has low high field value =
    (is_star field && (nat_le low value && nat_le value high)) || list_any (item_has low high value) (items field)

-- the field of the days of the week matches a value, where 7 is another 0
unfoldable pub week_has : List ℕ → ℕ → Bool
week_has field value = field_has 0 7 field value || ((value == 0) && field_has 0 7 field 7)

-- the set of the numbers below n that pass a test
unfoldable pub set_of : (ℕ → Bool) → ℕ → ℕ
set_of p zero = 0
set_of p (suc n) = set_of p n + (if p n then 2 ^ n else 0)

-- what five fields say
abbrev pub sets_of : List ℕ → List ℕ → List ℕ → List ℕ → List ℕ → CronSets
sets_of minute hour dom month dow = record {
  minute = set_of (field_has 0 59 minute) 60;
  hour = set_of (field_has 0 23 hour) 24;
  dom = set_of (field_has 1 31 dom) 32;
  month = set_of (field_has 1 12 month) 13;
  dow = set_of (week_has dow) 7;
  dom_star = is_star dom;
  dow_star = is_star dow;
}

-- the sets, unless two minutes match or more, or no day ever does
unfoldable pub checked : CronSets → Result CronSets CronFault
checked c =
    if nat_lt 1 (count_below (has c.minute) 60) then Err TooFine
    else (if c.dow_star && not (has_date c.month c.dom) then Err NoTick else Ok c)

-- what five fields mean, or the first of them that can't be read
unfoldable pub cron_of_fields : List ℕ → List ℕ → List ℕ → List ℕ → List ℕ → Result CronSets CronFault
cron_of_fields minute hour dom month dow =
    if not (is_field 0 59 minute) then Err (BadField 1)
    else (if not (is_field 0 23 hour) then Err (BadField 2)
    else (if not (is_field 1 31 dom) then Err (BadField 3)
    else (if not (is_field 1 12 month) then Err (BadField 4)
    else (if not (is_field 0 7 dow) then Err (BadField 5)
    else checked (sets_of minute hour dom month dow)))))

-- the five fields that an alias stands for, or the text itself where it is none
unfoldable pub meant : List ℕ → List ℕ
meant text =
    if same_text text (codes "@hourly") then codes "0 * * * *"
    else (if same_text text (codes "@daily") || same_text text (codes "@midnight") then codes "0 0 * * *"
    else (if same_text text (codes "@weekly") then codes "0 0 * * 0"
    else (if same_text text (codes "@monthly") then codes "0 0 1 * *"
    else (if same_text text (codes "@yearly") || same_text text (codes "@annually") then codes "0 0 1 1 *"
    else text))))

-- the text after its first n words
abbrev pub after_words : ℕ → List ℕ → List ℕ
after_words zero text = text
after_words (suc n) text = after_words n (after_word text)

-- a word of the text, counted from 0
abbrev pub field : ℕ → List ℕ → List ℕ
field n text = word (after_words n text)

-- what a text of five words means
unfoldable pub cron_of_words : List ℕ → Result CronSets CronFault
cron_of_words text =
    if is_text (field 4 text) && not (is_text (field 5 text))
    then cron_of_fields (field 0 text) (field 1 text) (field 2 text) (field 3 text) (field 4 text)
    else Err (BadField 0)

-- what the text of a cron means, or why it is none
unfoldable pub cron_of : List ℕ → Result CronSets CronFault
cron_of text = cron_of_words (meant text)
