-- Definitions and lists of texts that were written are read again.
use Rattle.std.proofs.Common.{◌≡◌, ℕ, ◌-◌, ◌^◌, ◌<◌, true, List, [], ◌∷◌, ◌++◌, Option, Some, None, refl, sym, ap, ◌∙◌, append_assoc, arith}
use Rattle.std.specs.Prelude.{ℤ, codes, nat_lt}
use Rattle.std.specs.List.{list_all}
use Rattle.std.proofs.lemmas.Bool.{and_parts, ltb-true}
use Rattle.std.proofs.lemmas.List.{append-nil}
use Rattle.mesh_base_values.specs.Crons.{is_cron}
use Rattle.mesh_base_values.specs.Kinds.{lookback_of}
use Rattle.mesh_base_values.specs.declared.times.Unit.{Unit as TimeUnit}
use Rattle.mesh_base_values.specs.declared.times.Unit.TheVariants as units
use Rattle.mesh_base_values.specs.declared.kinds.Kind.{Kind}
use Rattle.mesh_base_values.specs.declared.kinds.Kind.TheVariants as kinds
use Rattle.mesh_base.specs.declared.definitions.Decl.{Decl}
use Rattle.mesh_base.specs.declared.definitions.Defn.{Defn}
use Rattle.mesh_base.specs.declared.definitions.Defn.TheVariants as bodies
use Rattle.mesh_base.specs.declared.definitions.Own.{Own}
use Rattle.mesh_canon_text.specs.declared.form.Form.{Form}
use Rattle.mesh_canon_text.specs.declared.form.Form.TheVariants as forms
use Rattle.mesh_canon_text.specs.Text.{body_text, column_text, cron_text, cte_text, kind_by, list_of, list_text, lookback_by, own_by, query_text, row_text, select_text, source_text, start_text, text_of, time_text, unit_word}
use Rattle.mesh_canon_reading.specs.Fits.{Said, are_texts, body_fits, column_fits, is_own, kind_fits, name_fits, row_fits, source_fits, start_fits, text_fits, time_fits}
use Rattle.mesh_canon_words.specs.Words.{after, text_at, then_at, unit_at}
use Rattle.mesh_canon_reading.specs.Reading.{body_at, column_at, incremental_at, kind_at, list_at, list_in, lookback_at, own_at, own_in, row_at, seed_at, source_at, start_at, time_at, timed_at, titled_at, whole}
use Rattle.mesh_canon_reading.proofs.Numbers.{number_again, signed_again, signed_some, text_again, text_some}
use Rattle.mesh_canon_reading.proofs.Lists.{Member, each_of, list_again}
use Rattle.mesh_canon_reading.proofs.Values.{column_member, name_again, row_member, text_member}
use Rattle.mesh_canon_reading.proofs.Crons.{cron_again}
use Rattle.mesh_canon_reading.proofs.Queries.{query_again}

no_time : (rest : List ℕ) → time_at (codes "none" ++ rest) ≡ Some (None, rest)
unfolding time_at after
no_time rest = refl

time_again : (t : Option (List ℕ)) (rest : List ℕ) → time_fits t ≡ true → time_at (time_text t ++ rest) ≡ Some (t, rest)
unfolding time_at time_text
time_again None rest fits = no_time rest
time_again (Some t) rest fits = rw (text_some t rest fits, text_again t rest fits) refl

no_start : (rest : List ℕ) → start_at (codes "none" ++ rest) ≡ Some (None, rest)
unfolding start_at after
no_start rest = refl

start_again : (s : Option ℤ) (rest : List ℕ) → start_fits s ≡ true → start_at (start_text s ++ (32 ∷ rest)) ≡ Some (s, 32 ∷ rest)
unfolding start_at start_text
start_again None rest fits = no_start (32 ∷ rest)
start_again (Some day) rest fits = rw (signed_some (2 ^ 31 - 1) day (32 ∷ rest) (omega arith) fits, signed_again (2 ^ 31 - 1) day (32 ∷ rest) (omega arith) fits refl) refl

unit_again : (u : TimeUnit) (rest : List ℕ) → unit_at (unit_word u ++ (32 ∷ rest)) ≡ Some (u, rest)
unfolding unit_at after
unit_again units.Hour rest = refl
unit_again units.Day rest = refl

lookback_again : (form : Form) (n : ℕ) (rest : List ℕ) → nat_lt n (2 ^ 32) ≡ true → Said form n → lookback_at form (lookback_by form n ++ (41 ∷ rest)) ≡ Some (n, 41 ∷ rest)
unfolding lookback_at lookback_by after
lookback_again forms.Current n rest fits said =
    let small : n < 2 ^ 32 = ltb-true n (2 ^ 32) fits in
    number_again (2 ^ 32 - 1) n (41 ∷ rest) (omega arith) (omega arith) refl
lookback_again forms.Former n rest fits said = ap (λ m. Some (m, 41 ∷ rest)) (sym said)

kind_again : (form : Form) (k : Kind) (rest : List ℕ) → kind_fits k ≡ true → Said form (lookback_of k) → kind_at form (kind_by form k ++ rest) ≡ Some (k, rest)
unfolding kind_at kind_by incremental_at after
kind_again form kinds.Full rest fits said = refl
kind_again form kinds.View rest fits said = refl
kind_again form kinds.Seed rest fits said = refl
kind_again form (kinds.Incremental time lookback) rest fits said =
    let p = and_parts (text_fits time) (nat_lt lookback (2 ^ 32)) fits in
    let e : (text_of time ++ (lookback_by form lookback ++ (41 ∷ []))) ++ rest ≡ text_of time ++ (lookback_by form lookback ++ (41 ∷ rest)) = simp append_assoc in
    rw (e, text_again time (lookback_by form lookback ++ (41 ∷ rest)) p.0, lookback_again form lookback rest p.1 said) refl

source_again : (d : Decl) (rest : List ℕ) → source_fits d ≡ true → source_at (source_text d ++ rest) ≡ Some (d, rest)
unfolding source_at source_text then_at after
source_again d rest fits =
    let p = and_parts (name_fits d.name) _ fits in
    let q = and_parts (list_all column_fits d.columns) (time_fits d.time) p.1 in
    let tail : List ℕ = list_of column_text d.columns ++ (32 ∷ (time_text d.time ++ (41 ∷ rest))) in
    let e : (text_of d.name.schema ++ (32 ∷ (text_of d.name.model ++ (32 ∷ (list_of column_text d.columns ++ (32 ∷ (time_text d.time ++ (41 ∷ [])))))))) ++ rest ≡ text_of d.name.schema ++ (32 ∷ (text_of d.name.model ++ (32 ∷ tail))) = simp append_assoc in
    rw (
      e,
      name_again d.name (32 ∷ tail) p.0,
      list_again column_at column_text d.columns (each_of column_at column_text column_fits column_member d.columns q.0) (32 ∷ (time_text d.time ++ (41 ∷ rest))),
      time_again d.time (41 ∷ rest) q.1,
    ) refl

source_member : (d : Decl) → source_fits d ≡ true → Member source_at source_text d
unfolding source_text after
source_member d fits = record { opens = λ rest. refl; again = λ rest. source_again d rest fits }

body_again : (b : Defn) (rest : List ℕ) → body_fits b ≡ true → body_at (body_text b ++ rest) ≡ Some (b, rest)
unfolding body_at body_text seed_at query_text then_at after
body_again (bodies.Seed columns rows) rest fits =
    let p = and_parts (list_all column_fits columns) (list_all row_fits rows) fits in
    let e : (list_of column_text columns ++ (32 ∷ (list_of row_text rows ++ (41 ∷ [])))) ++ rest ≡ list_of column_text columns ++ (32 ∷ (list_of row_text rows ++ (41 ∷ rest))) = simp append_assoc in
    rw (
      e,
      list_again column_at column_text columns (each_of column_at column_text column_fits column_member columns p.0) (32 ∷ (list_of row_text rows ++ (41 ∷ rest))),
      list_again row_at row_text rows (each_of row_at row_text row_fits row_member rows p.1) (41 ∷ rest),
    ) refl
body_again (bodies.Sql q) rest fits =
    let e : (list_of cte_text q.ctes ++ (32 ∷ (list_of select_text q.selects ++ (41 ∷ [])))) ++ rest ≡ list_of cte_text q.ctes ++ (32 ∷ (list_of select_text q.selects ++ (41 ∷ rest))) = simp append_assoc in
    rw (e, query_again q rest fits) refl

-- what a definition keeps, part by part
pub record OwnFits (m : Own) : Type 0 where
  pub name : name_fits m.name ≡ true
  pub kind : kind_fits m.kind ≡ true
  pub cron : is_cron m.cron ≡ true
  pub start : start_fits m.start ≡ true
  pub sources : list_all source_fits m.sources ≡ true
  pub body : body_fits m.defn ≡ true

pub own_parts : (m : Own) → is_own m ≡ true → OwnFits m
unfolding is_own
own_parts m fits =
    let a = and_parts (name_fits m.name) _ fits in
    let b = and_parts (kind_fits m.kind) _ a.1 in
    let c = and_parts (is_cron m.cron) _ b.1 in
    let d = and_parts (start_fits m.start) _ c.1 in
    let e = and_parts (list_all source_fits m.sources) (body_fits m.defn) d.1 in
    record { name = a.0; kind = b.0; cron = c.0; start = d.0; sources = e.0; body = e.1 }

own_regrouped : (a b c d x y z w rest : List ℕ) → (a ++ (32 ∷ (b ++ (32 ∷ (c ++ (32 ∷ (d ++ (32 ∷ (x ++ (32 ∷ (y ++ (32 ∷ (z ++ (32 ∷ (w ++ (41 ∷ [])))))))))))))))) ++ rest ≡ a ++ (32 ∷ (b ++ (32 ∷ (c ++ (32 ∷ (d ++ (32 ∷ (x ++ (32 ∷ (y ++ (32 ∷ (z ++ (32 ∷ (w ++ (41 ∷ rest)))))))))))))))
own_regrouped a b c d x y z w rest = simp append_assoc

own_again : (form : Form) (m : Own) (rest : List ℕ) → is_own m ≡ true → Said form (lookback_of m.kind) → own_at form (own_by form m ++ rest) ≡ Some (m, rest)
unfolding own_at titled_at timed_at then_at own_by after
own_again form m rest fits said =
    let p = own_parts m fits in
    let w : List ℕ = body_text m.defn ++ (41 ∷ rest) in
    let z : List ℕ = list_of source_text m.sources ++ (32 ∷ w) in
    let y : List ℕ = start_text m.start ++ (32 ∷ z) in
    let x : List ℕ = unit_word m.unit ++ (32 ∷ y) in
    let d : List ℕ = cron_text m.cron ++ (32 ∷ x) in
    let c : List ℕ = kind_by form m.kind ++ (32 ∷ d) in
    rw (
      own_regrouped (text_of m.name.schema) (text_of m.name.model) (kind_by form m.kind) (cron_text m.cron) (unit_word m.unit) (start_text m.start) (list_of source_text m.sources) (body_text m.defn) rest,
      name_again m.name (32 ∷ c) p.name,
      kind_again form m.kind (32 ∷ d) p.kind said,
      cron_again m.cron (32 ∷ x) p.cron,
      unit_again m.unit y,
      start_again m.start z p.start,
      p.cron,
      list_again source_at source_text m.sources (each_of source_at source_text source_fits source_member m.sources p.sources) (32 ∷ w),
      body_again m.defn (41 ∷ rest) p.body,
    ) refl

-- the text of a definition is read as that definition
pub own_is_read : (form : Form) (m : Own) → is_own m ≡ true → Said form (lookback_of m.kind) → own_in form (own_by form m) ≡ Some m
unfolding own_in
own_is_read form m fits said = ap (λ t. whole (own_at form t)) (sym (append-nil (own_by form m))) ∙ rw (own_again form m [] fits said) refl

-- a list of texts is read as that list
pub list_is_read : (parts : List (List ℕ)) → are_texts parts ≡ true → list_in (list_text parts) ≡ Some parts
unfolding list_in
list_is_read parts fits =
    ap (λ t. whole (list_at text_at t)) (sym (append-nil (list_text parts)))
    ∙ rw (list_again text_at text_of parts (each_of text_at text_of text_fits text_member parts fits) []) refl
