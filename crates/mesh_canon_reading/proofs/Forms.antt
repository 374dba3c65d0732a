-- The two forms of a definition's text beside each other.
use Rattle.std.proofs.Common.{◌≡◌, ℕ, ◌^◌, Bool, true, false, List, [], ◌∷◌, ◌++◌, Option, Some, None, refl, sym, ap, subst, ◌∙◌, append_assoc}
use Rattle.std.specs.Prelude.{ℤ, codes, nat_lt}
use Rattle.std.proofs.lemmas.Bool.{and_parts}
use Rattle.mesh_base_values.specs.Crons.{CronSets}
use Rattle.mesh_base_values.specs.Kinds.{is_incremental, lookback_of}
use Rattle.mesh_base_values.specs.declared.values.Name.{Name}
use Rattle.mesh_base_values.specs.declared.times.Unit.{Unit as TimeUnit}
use Rattle.mesh_base_values.specs.declared.kinds.Kind.{Kind}
use Rattle.mesh_base_values.specs.declared.kinds.Kind.TheVariants as kinds
use Rattle.mesh_base.specs.declared.definitions.Decl.{Decl}
use Rattle.mesh_base.specs.declared.definitions.Defn.{Defn}
use Rattle.mesh_base.specs.declared.definitions.Own.{Own}
use Rattle.mesh_canon_text.specs.declared.form.Form.{Form}
use Rattle.mesh_canon_text.specs.declared.form.Form.TheVariants as forms
use Rattle.mesh_canon_text.specs.Text.{body_text, cron_text, kind_by, list_of, lookback_by, own_by, own_text, own_text_old, source_text, start_text, text_of, unit_word}
use Rattle.mesh_canon_reading.specs.Fits.{Said, is_own, kind_fits, text_fits}
use Rattle.mesh_canon_words.specs.Words.{◌>>=◌, after, behind, text_at, then_at}
use Rattle.mesh_canon_reading.specs.Reading.{body_at, checked, closed, incremental_at, kind_at, list_at, lookback_at, name_at, own_at, own_in, source_at, timed_at, titled_at}
use Rattle.mesh_canon_reading.proofs.Definitions.{own_is_read, own_parts}
use Rattle.mesh_canon_reading.proofs.Exact.{none_is_not, one_value, some_is}
use Rattle.mesh_canon_reading.proofs.Numbers.{text_again}
use Rattle.mesh_canon_reading.proofs.Values.{name_again}
use Rattle.mesh_canon_reading.proofs.Steps.{bound, either, whole_is}

said_none : (form : Form) → Said form 0
said_none forms.Current = tt
said_none forms.Former = refl

lookback_said : (form : Form) (bytes : List ℕ) (y : ℕ × List ℕ) → lookback_at form bytes ≡ Some y → Said form y.0
unfolding lookback_at
lookback_said forms.Current bytes y e = tt
lookback_said forms.Former bytes y e = ap (λ z. z.0) (sym (some_is (0, bytes) y e))

incremental_said : (form : Form) (bytes : List ℕ) (y : Kind × List ℕ) → incremental_at form bytes ≡ Some y → Said form (lookback_of y.0)
unfolding incremental_at
incremental_said form bytes y e =
    let b = bound (after (codes "(incremental ") bytes) (λ b. text_at b >>= λ t. lookback_at form t.1 >>= λ n. closed (kinds.Incremental t.0 n.0) n.1) y e in
    let t = bound (text_at b.0) (λ t. lookback_at form t.1 >>= λ n. closed (kinds.Incremental t.0 n.0) n.1) y b.2 in
    let n = bound (lookback_at form t.0.1) (λ n. closed (kinds.Incremental t.0.0 n.0) n.1) y t.2 in
    let k : Kind = kinds.Incremental t.0.0 n.0.0 in
    let ends = bound (after (codes ")") n.0.1) (λ rest. Some (k, rest)) y n.2 in
    subst (λ z. Said form (lookback_of z.0)) (some_is (k, ends.0) y ends.2) (lookback_said form t.0.1 n.0 n.1)

kind_said : (form : Form) (bytes : List ℕ) (y : Kind × List ℕ) → kind_at form bytes ≡ Some y → Said form (lookback_of y.0)
unfolding kind_at
kind_said form bytes y e =
    let P : Kind × List ℕ → Type 0 = λ y. Said form (lookback_of y.0) in
    let seed = either P kinds.Seed (after (codes "(seed)") bytes) (incremental_at form bytes) (λ rest is. said_none form) (incremental_said form bytes) in
    let view = either P kinds.View (after (codes "(view)") bytes) (behind kinds.Seed (after (codes "(seed)") bytes) (incremental_at form bytes)) (λ rest is. said_none form) seed in
    either P kinds.Full (after (codes "(full)") bytes) (behind kinds.View (after (codes "(view)") bytes) (behind kinds.Seed (after (codes "(seed)") bytes) (incremental_at form bytes))) (λ rest is. said_none form) view y e

titled_said : (form : Form) (bytes : List ℕ) (y : (Name × Kind) × List ℕ) → titled_at form bytes ≡ Some y → Said form (lookback_of y.0.1)
unfolding titled_at
titled_said form bytes y e =
    let b = bound (after (codes "(own ") bytes) (λ b. then_at (codes " ") name_at b >>= λ n. kind_at form n.1 >>= λ k. after (codes " ") k.1 >>= λ r. Some ((n.0, k.0), r)) y e in
    let n = bound (then_at (codes " ") name_at b.0) (λ n. kind_at form n.1 >>= λ k. after (codes " ") k.1 >>= λ r. Some ((n.0, k.0), r)) y b.2 in
    let k = bound (kind_at form n.0.1) (λ k. after (codes " ") k.1 >>= λ r. Some ((n.0.0, k.0), r)) y n.2 in
    let r = bound (after (codes " ") k.0.1) (λ r. Some ((n.0.0, k.0.0), r)) y k.2 in
    subst (λ z. Said form (lookback_of z.0.1)) (some_is ((n.0.0, k.0.0), r.0) y r.2) (kind_said form n.0.1 k.0 k.1)

-- a definition behind its name and its kind, as reading makes it
abbrev Timed : Type 0
Timed = ((CronSets × TimeUnit) × Option ℤ) × List ℕ

abbrev own_of : (Name × Kind) × List ℕ → Timed → CronSets → List Decl × List ℕ → Defn × List ℕ → Own
own_of t d c s b = record { name = t.0.0; kind = t.0.1; cron = c; unit = d.0.0.1; start = d.0.1; sources = s.0; defn = b.0 }

abbrev sourced : (Name × Kind) × List ℕ → Timed → CronSets → Option (Own × List ℕ)
sourced t d c = then_at (codes " ") (list_at source_at) d.1 >>= λ s. body_at s.1 >>= λ b. closed (own_of t d c s b) b.1

own_at_said : (form : Form) (bytes : List ℕ) (y : Own × List ℕ) → own_at form bytes ≡ Some y → Said form (lookback_of y.0.kind)
unfolding own_at
own_at_said form bytes y e =
    let t = bound (titled_at form bytes) (λ t. timed_at t.1 >>= λ d. checked d.0.0.0 >>= λ c. sourced t d c) y e in
    let d = bound (timed_at t.0.1) (λ d. checked d.0.0.0 >>= λ c. sourced t.0 d c) y t.2 in
    let c = bound (checked d.0.0.0.0) (λ c. sourced t.0 d.0 c) y d.2 in
    let s = bound (then_at (codes " ") (list_at source_at) d.0.1) (λ s. body_at s.1 >>= λ b. closed (own_of t.0 d.0 c.0 s b) b.1) y c.2 in
    let b = bound (body_at s.0.1) (λ b. closed (own_of t.0 d.0 c.0 s.0 b) b.1) y s.2 in
    let r = bound (after (codes ")") b.0.1) (λ r. Some (own_of t.0 d.0 c.0 s.0 b.0, r)) y b.2 in
    subst (λ z. Said form (lookback_of z.0.kind)) (some_is (own_of t.0 d.0 c.0 s.0 b.0, r.0) y r.2) (titled_said form bytes t.0 t.1)

-- what is read of a form's text has the lookback that it says
pub own_said : (form : Form) (bytes : List ℕ) (m : Own) → own_in form bytes ≡ Some m → Said form (lookback_of m.kind)
unfolding own_in
own_said form bytes m e = own_at_said form bytes (m, []) (whole_is (own_at form bytes) m e)

kind_refused : (k : Kind) (rest : List ℕ) → kind_fits k ≡ true → is_incremental k ≡ true → kind_at forms.Current (kind_by forms.Former k ++ rest) ≡ None
unfolding kind_at kind_by incremental_at lookback_at lookback_by after
kind_refused kinds.Full rest fits e = absurd cc
kind_refused kinds.View rest fits e = absurd cc
kind_refused kinds.Seed rest fits e = absurd cc
kind_refused (kinds.Incremental time lookback) rest fits e =
    let p = and_parts (text_fits time) (nat_lt lookback (2 ^ 32)) fits in
    rw (append_assoc (text_of time) (41 ∷ []) rest, text_again time (41 ∷ rest) p.0) refl

-- a former text that has a time column is no canonical text
former_refused : (m : Own) → is_own m ≡ true → is_incremental m.kind ≡ true → own_in forms.Current (own_text_old m) ≡ None
unfolding own_in own_at titled_at then_at own_by after
former_refused m fits e =
    let p = own_parts m fits in
    let d : List ℕ = 32 ∷ (cron_text m.cron ++ (32 ∷ (unit_word m.unit ++ (32 ∷ (start_text m.start ++ (32 ∷ (list_of source_text m.sources ++ (32 ∷ (body_text m.defn ++ (41 ∷ [])))))))))) in
    rw (name_again m.name (32 ∷ (kind_by forms.Former m.kind ++ d)) p.name, kind_refused m.kind d p.kind e) refl

kind_plain : (k : Kind) → is_incremental k ≡ false → kind_by forms.Former k ≡ kind_by forms.Current k
unfolding kind_by
kind_plain kinds.Full e = refl
kind_plain kinds.View e = refl
kind_plain kinds.Seed e = refl
kind_plain (kinds.Incremental time lookback) e = absurd cc

own_plain : (m : Own) → is_incremental m.kind ≡ false → own_text_old m ≡ own_text m
unfolding own_by
own_plain m e = rw (kind_plain m.kind e) refl

agree_by : (a b : Own) (timed : Bool) → is_incremental b.kind ≡ timed → is_own a ≡ true → is_own b ≡ true → own_text a ≡ own_text_old b → a ≡ b
agree_by a b true t p q e = absurd (none_is_not a (sym (former_refused b q t) ∙ ap (own_in forms.Current) (sym e) ∙ own_is_read forms.Current a p tt))
agree_by a b false t p q e = one_value own_text (own_in forms.Current) a b (own_is_read forms.Current a p tt) (own_is_read forms.Current b q tt) (e ∙ own_plain b t)

-- a canonical text that is also a former one is that of one definition
pub forms_agree : (a b : Own) → is_own a ≡ true → is_own b ≡ true → own_text a ≡ own_text_old b → a ≡ b
forms_agree a b p q e = agree_by a b (is_incremental b.kind) refl p q e
