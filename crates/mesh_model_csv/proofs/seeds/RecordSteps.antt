-- What `csv` reads record by record is what its definition of all records says.
use Rattle.std.proofs.Common.{◌≡◌, ℕ, zero, suc, ◌+◌, ◌<◌, ◌≤◌, ◌==◌, ◌&&◌, Bool, true, false, cond, List, [], ◌∷◌, ◌++◌, length, Option, Some, None, refl, ap, ◌∙◌, arith}
use Rattle.std.proofs.lemmas.List.{append-nil}
use Rattle.csv.specs.Machine.{Read, next_record, step, in_field, start_field, start_record, is_end, is_byte, ends_with, after_end, ends_at_end, fields_after, field_after}
use Rattle.csv.specs.Reading.{Reached, records, records_from}
use Rattle.csv.specs.declared.parser.Config.{Config}
use Rattle.csv.specs.declared.parser.Terminator.{Terminator}
use Rattle.csv.specs.declared.parser.Terminator.TheVariants as term
use Rattle.csv.specs.declared.parser.State.{State}
use Rattle.csv.specs.declared.parser.State.TheVariants as st
use Rattle.csv.specs.declared.parser.Action.{Action}
use Rattle.csv.specs.declared.parser.Action.TheVariants as act

-- a step that ends a record leaves a state in which the end of the text ends none
abbrev pub EndsWell : State × Action → Type 0
EndsWell q = is_end q.1 ≡ true → ends_at_end q.0 ≡ false

after_well : (t : Terminator) (c : ℕ) → ends_at_end (after_end t c) ≡ false
after_well term.CRLF c = by (c == 13)
  where
    by : (b : Bool) → ends_at_end (cond b st.AfterCr st.StartRecord) ≡ false
    by true = refl
    by false = refl
after_well (term.Any t) c = refl

in_field_well : (cfg : Config) (c : ℕ) → EndsWell (in_field cfg c)
in_field_well cfg c = by (c == cfg.delimiter) (ends_with cfg.terminator c)
  where
    by : (a b : Bool) → EndsWell (cond a (st.StartField, act.EndField) (cond b (after_end cfg.terminator c, act.EndRecord) (st.InField, act.Copy)))
    by true b e = absurd cc
    by false true e = after_well cfg.terminator c
    by false false e = absurd cc

start_field_well : (cfg : Config) (c : ℕ) → EndsWell (start_field cfg c)
start_field_well cfg c = by (cfg.quoting && (c == cfg.quote)) (in_field_well cfg c)
  where
    by : (a : Bool) → EndsWell (in_field cfg c) → EndsWell (cond a (st.InQuoted, act.Skip) (in_field cfg c))
    by true h e = absurd cc
    by false h e = h e

start_record_well : (cfg : Config) (c : ℕ) → EndsWell (start_record cfg c)
start_record_well cfg c = by (ends_with cfg.terminator c) (is_byte cfg.comment c) (start_field_well cfg c)
  where
    by : (a b : Bool) → EndsWell (start_field cfg c) → EndsWell (cond a (st.StartRecord, act.Skip) (cond b (st.InComment, act.Skip) (start_field cfg c)))
    by true b h e = absurd cc
    by false true h e = absurd cc
    by false false h e = h e

step_well : (cfg : Config) (s : State) (c : ℕ) → EndsWell (step cfg s c)
step_well cfg st.StartRecord c = start_record_well cfg c
step_well cfg st.StartField c = start_field_well cfg c
step_well cfg st.InField c = in_field_well cfg c
step_well cfg st.InQuoted c = by (cfg.quoting && (c == cfg.quote)) (cfg.quoting && is_byte cfg.escape c)
  where
    by : (a b : Bool) → EndsWell (cond a (st.AfterQuote, act.Skip) (cond b (st.InEscape, act.Skip) (st.InQuoted, act.Copy)))
    by true b e = absurd cc
    by false true e = absurd cc
    by false false e = absurd cc
step_well cfg st.InEscape c = λ e. cc e
step_well cfg st.AfterQuote c = by (cfg.quoting && cfg.double_quote && (c == cfg.quote)) (in_field_well cfg c)
  where
    by : (a : Bool) → EndsWell (in_field cfg c) → EndsWell (cond a (st.InQuoted, act.Copy) (in_field cfg c))
    by true h e = absurd cc
    by false h e = h e
step_well cfg st.InComment c = by (c == 10)
  where
    by : (a : Bool) → EndsWell (cond a (st.StartRecord, act.Skip) (st.InComment, act.Skip))
    by true e = absurd cc
    by false e = absurd cc
step_well cfg st.AfterCr c = by (c == 10) (start_record_well cfg c)
  where
    by : (a : Bool) → EndsWell (start_record cfg c) → EndsWell (cond a (st.StartRecord, act.Skip) (start_record cfg c))
    by true h e = absurd cc
    by false h e = h e

-- a record that was read leaves no more bytes than there were, and a state that is well
abbrev pub Leaves : Option Read → ℕ → Type 0
Leaves read n = (p : Read) → read ≡ Some p → (length p.2 ≤ n) × (ends_at_end p.1 ≡ false)

next_leaves : (cfg : Config) (s : State) (fields : List (List ℕ)) (field xs : List ℕ) → Leaves (next_record cfg s fields field xs) (length xs)
unfolding next_record
next_leaves cfg s fields field [] = by (ends_at_end s)
  where
    by : (b : Bool) → Leaves (cond b (Some (fields ++ (field ∷ []), st.StartRecord, [])) None) 0
    by true p e = let same : (fields ++ (field ∷ []), st.StartRecord, []) ≡ p = cc in rw (← same) (omega arith, refl)
    by false p e = absurd cc
next_leaves cfg s fields field (c ∷ rest) =
    by (is_end (step cfg s c).1) refl (next_leaves cfg (step cfg s c).0 (fields_after (step cfg s c).1 fields field) (field_after (step cfg s c).1 c field) rest)
  where
    by : (b : Bool) → is_end (step cfg s c).1 ≡ b
        → Leaves (next_record cfg (step cfg s c).0 (fields_after (step cfg s c).1 fields field) (field_after (step cfg s c).1 c field) rest) (length rest)
        → Leaves (cond b (Some (fields_after (step cfg s c).1 fields field, (step cfg s c).0, rest)) (next_record cfg (step cfg s c).0 (fields_after (step cfg s c).1 fields field) (field_after (step cfg s c).1 c field) rest)) (suc (length rest))
    by true t more p e =
        let same : (fields_after (step cfg s c).1 fields field, (step cfg s c).0, rest) ≡ p = cc in
        rw (← same) (omega arith, step_well cfg s c t)
    by false t more p e = let h = more p e in (omega (arith, h.0), h.1)

-- from a state that is well a record takes a byte at least
next_shorter : (cfg : Config) (s : State) (xs : List ℕ) (p : Read) → ends_at_end s ≡ false → next_record cfg s [] [] xs ≡ Some p
    → (length p.2 < length xs) × (ends_at_end p.1 ≡ false)
unfolding next_record
next_shorter cfg s [] p well e = cc (rw well at e)
next_shorter cfg s (c ∷ rest) p well e =
    by (is_end (step cfg s c).1) refl (next_leaves cfg (step cfg s c).0 (fields_after (step cfg s c).1 [] []) (field_after (step cfg s c).1 c []) rest) e
  where
    by : (b : Bool) → is_end (step cfg s c).1 ≡ b
        → Leaves (next_record cfg (step cfg s c).0 (fields_after (step cfg s c).1 [] []) (field_after (step cfg s c).1 c []) rest) (length rest)
        → cond b (Some (fields_after (step cfg s c).1 [] [], (step cfg s c).0, rest)) (next_record cfg (step cfg s c).0 (fields_after (step cfg s c).1 [] []) (field_after (step cfg s c).1 c []) rest) ≡ Some p
        → (length p.2 < length (c ∷ rest)) × (ends_at_end p.1 ≡ false)
    by true t more f =
        let same : (fields_after (step cfg s c).1 [] [], (step cfg s c).0, rest) ≡ p = cc in
        rw (← same) (omega arith, step_well cfg s c t)
    by false t more f = let h = more p f in (omega (arith, h.0), h.1)

-- the records of a text from a state are those that were read, and then those of what is left
pub records_reached : (cfg : Config) (n : ℕ) (s s2 : State) (xs ys : List ℕ) (rs : List (List (List ℕ)))
    → ends_at_end s ≡ false → length xs < n → Reached cfg s xs rs s2 ys
    → (m : ℕ) × (length ys < m) × (records_from cfg n s xs ≡ rs ++ records_from cfg m s2 ys)
unfolding Reached records_from
records_reached cfg n s s2 xs ys [] well lt h = (n, rw (h.1) at lt, rw (h.0, h.1) refl)
records_reached cfg zero s s2 xs ys (r ∷ rs) well lt h = absurd (omega arith)
records_reached cfg (suc n) s s2 xs ys (r ∷ rs) well lt h =
    let p = h.0 in
    let shorter = next_shorter cfg s xs p well h.1 in
    let more = records_reached cfg n p.1 s2 p.2 ys rs shorter.1 (omega (arith, shorter.0)) h.3 in
    (more.0, more.1, rw (h.1, h.2) (ap (λ (t : List (List (List ℕ))). p.0 ∷ t) more.2))

-- what was read is a front of all the records
pub records_begin : (cfg : Config) (s : State) (text ys : List ℕ) (rs : List (List (List ℕ))) → Reached cfg st.StartRecord text rs s ys
    → (more : List (List (List ℕ))) × (records cfg text ≡ rs ++ more)
records_begin cfg s text ys rs h =
    let all = records_reached cfg (length text + 1) st.StartRecord s text ys rs refl (omega arith) h in
    (records_from cfg all.0 s ys, all.2)

-- where no record follows, all were read
pub records_end : (cfg : Config) (s : State) (text ys : List ℕ) (rs : List (List (List ℕ))) → Reached cfg st.StartRecord text rs s ys → next_record cfg s [] [] ys ≡ None
    → records cfg text ≡ rs
unfolding records_from
records_end cfg s text ys rs h e =
    let all = records_reached cfg (length text + 1) st.StartRecord s text ys rs refl (omega arith) h in
    all.2 ∙ (ap (λ (t : List (List (List ℕ))). rs ++ t) (none all.0 all.1) ∙ append-nil rs)
  where
    none : (m : ℕ) → length ys < m → records_from cfg m s ys ≡ []
    none zero lt = absurd (omega arith)
    none (suc m) lt = rw e refl
