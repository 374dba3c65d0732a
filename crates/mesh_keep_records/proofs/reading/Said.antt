-- What was written is read, part by part.
use Rattle.std.proofs.Common.{◌≡◌, ℕ, ◌^◌, Bool, true, false, ◌&&◌, if◌then◌else◌, List, [], ◌∷◌, length, map, Option, Some, None, refl, sym, ap}
use Rattle.std.specs.Prelude.{◌==◌, codes}
use Rattle.std.specs.List.{list_all}
use Rattle.std.specs.Fmt.{decimal, signed_decimal}
use Rattle.std.proofs.lemmas.Bool.{and_parts, eqb-true, ltb-true}
use Rattle.hex.specs.Hex.{encode_lower}
use Rattle.mesh_base_values.specs.Kinds.{lookback_of}
use Rattle.mesh_base.specs.declared.snapshots.Snapshot.{Snapshot}
use Rattle.mesh_house.specs.declared.objects.Body.{Body}
use Rattle.mesh_house.specs.declared.objects.Body.TheVariants.{Rows, Stored}
use Rattle.mesh_house.specs.declared.objects.Object.{Object}
use Rattle.mesh_time.specs.Ranges.{is_apart}
use Rattle.mesh_canon_text.specs.declared.form.Form.{Form}
use Rattle.mesh_canon_text.specs.declared.form.Form.TheVariants.{Current, Former}
use Rattle.mesh_canon_text.specs.Text.{cell_text, list_text, own_by}
use Rattle.mesh_canon_reading.specs.Fits.{Said, are_texts, cell_fits, column_fits, is_own, text_fits}
use Rattle.mesh_canon_reading.specs.Reading.{cell_in, list_in}
use Rattle.mesh_canon_reading.proofs.Definitions.{list_is_read, own_is_read}
use Rattle.mesh_canon_reading.proofs.Lone.{cell_is_read, type_is_read}
use Rattle.mesh_keep_records.specs.declared.book_records.BookHead.{BookHead}
use Rattle.mesh_keep_records.specs.Parts.{bool_word, is_count, is_digest, option_fits, option_parts, signed_in}
use Rattle.mesh_keep_records.specs.Records.{body_fits, body_parts, bounds_fits, bounds_list, bounds_parts, column_list, column_parts, each_text, env_fits, env_parts, env_text, head_fits, head_parts, head_text, moment_fits, name_list, name_parts, newer_parts, object_fits, object_parts, object_text, option_list, pair_fits, pair_list, pair_parts, ranges_fit, ref_fits, ref_list, ref_parts, rows_fit, rows_list, snapshot_fits, snapshot_parts, snapshot_text, source_fits, source_parts, source_text, version_fits, version_parts, version_text, view_parts, view_text}
use Rattle.mesh_keep_records.proofs.Again.{number_is_read, signed_is_read}
use Rattle.mesh_keep_records.proofs.Digits.{digits_are_read}
use Rattle.mesh_keep_records.proofs.Inside.{parts_fit}
use Rattle.mesh_keep_records.proofs.Tells.{both_fit, first_fits}
use Rattle.mesh_keep_records.specs.reading.Reading.{body_said, bool_in, bounds_in, column_in, each_in, each_of, env_said, head_parts_said, head_said, name_in, object_said, option_in, option_of, pair_in, ref_in, rows_in, says_lookback, says_stored, snapshot_said, source_said, stored_by, stored_said, version_said, view_said}
use Rattle.mesh_keep_records.proofs.reading.Exactly.{Reads}

-- a list whose text fits is read, and its parts fit
parts_read : (ps : List (List ℕ)) → text_fits (list_text ps) ≡ true → (list_in (list_text ps) ≡ Some ps) × (are_texts ps ≡ true)
parts_read ps fits =
    let p = parts_fit ps (ltb-true (length (list_text ps)) (2 ^ 64) fits) in
    (list_is_read ps p, p)

each_reads : {A : Type 0} (text : A → List ℕ) (fits : A → Bool) (read : List ℕ → Option A) → Reads text fits read → (xs : List A) → list_all fits xs ≡ true → are_texts (map text xs) ≡ true → each_of read (map text xs) ≡ Some xs
each_reads text fits read reads [] p f = refl
each_reads text fits read reads (x ∷ xs) p f =
    let px = and_parts (fits x) (list_all fits xs) p in
    let fx = first_fits (text x) (map text xs) f in
    rw (reads x px.0 fx.0, each_reads text fits read reads xs px.1 fx.1) refl

seq_reads : {A : Type 0} (text : A → List ℕ) (fits : A → Bool) (read : List ℕ → Option A) → Reads text fits read → Reads (each_text text) (list_all fits) (each_in read)
unfolding each_in
seq_reads text fits read reads xs p f =
    let w = parts_read (map text xs) f in
    rw w.0 (each_reads text fits read reads xs p w.1)

by_option : {A : Type 0} (text : A → List ℕ) (fits : A → Bool) (read : List ℕ → Option A) → Reads text fits read → (x : Option A) → option_fits fits x ≡ true → are_texts (option_parts text x) ≡ true → option_of read (option_parts text x) ≡ Some x
by_option text fits read reads None p f = refl
by_option text fits read reads (Some x) p f = rw (reads x p (first_fits (text x) [] f).0) refl

option_reads : {A : Type 0} (text : A → List ℕ) (fits : A → Bool) (read : List ℕ → Option A) → Reads text fits read → Reads (option_list text) (option_fits fits) (option_in read)
unfolding option_in
option_reads text fits read reads x p f =
    let w = parts_read (option_parts text x) f in
    rw w.0 (by_option text fits read reads x p w.1)

bool_reads : Reads bool_word (λ b. true) bool_in
unfolding bool_in
bool_reads true p f = refl
bool_reads false p f = refl

signed_reads : Reads signed_decimal moment_fits signed_in
signed_reads z p f = signed_is_read z p

cell_reads : Reads cell_text cell_fits cell_in
cell_reads c p f = cell_is_read c p

name_reads : Reads name_list (λ n. true) name_in
unfolding name_in
name_reads n p f = rw (parts_read (name_parts n) f).0 refl

column_reads : Reads column_list column_fits column_in
unfolding column_in
column_reads c p f = rw ((parts_read (column_parts c) f).0, type_is_read c.kind) refl

ref_reads : Reads ref_list ref_fits ref_in
unfolding ref_in
ref_reads r p f =
    let w = parts_read (ref_parts r) f in
    let g = first_fits (name_list r.name) (encode_lower r.fingerprint ∷ []) w.1 in
    rw (w.0, name_reads r.name refl g.0, digits_are_read r.fingerprint (and_parts (is_digest r.fingerprint) true p).0) refl

pair_reads : Reads pair_list pair_fits pair_in
unfolding pair_in
pair_reads x p f =
    let w = parts_read (pair_parts x) f in
    let g = first_fits (name_list x.first) (name_list x.second ∷ []) w.1 in
    let h = first_fits (name_list x.second) [] g.1 in
    rw (w.0, name_reads x.first refl g.0, name_reads x.second refl h.0) refl

bounds_reads : Reads bounds_list bounds_fits bounds_in
unfolding bounds_in
bounds_reads b p f =
    let q = both_fit (moment_fits b.start) (moment_fits b.end) p in
    rw ((parts_read (bounds_parts b) f).0, signed_is_read b.start q.0, signed_is_read b.end q.1) refl

rows_reads : Reads rows_list rows_fit rows_in
unfolding rows_in
rows_reads = seq_reads (each_text cell_text) (list_all cell_fits) (each_in cell_in) (seq_reads cell_text cell_fits cell_in cell_reads)

head_by : (h : BookHead) (one : Bool) → (h.version == 1) ≡ one → head_fits h ≡ true → head_parts_said (if one then signed_decimal h.moment ∷ [] else newer_parts h) ≡ Some h
head_by h true e fit =
    let p = both_fit (moment_fits h.moment) (is_count h.version) fit in
    let n : 1 ≡ h.version = sym (eqb-true h.version 1 e) in
    rw (signed_is_read h.moment p.0) (λ i. Some (record { version = n i; moment = h.moment }))
head_by h false e fit =
    let p = both_fit (moment_fits h.moment) (is_count h.version) fit in
    rw (signed_is_read h.moment p.0, number_is_read h.version p.1) refl

pub head_reads : Reads head_text head_fits head_said
unfolding head_said
head_reads h fit f = rw (parts_read (head_parts h) f).0 (head_by h (h.version == 1) refl fit)

pub says_is : (form : Form) (lookback : ℕ) → says_lookback form lookback ≡ true → Said form lookback
says_is Current lookback e = tt
says_is Former lookback e = eqb-true lookback 0 e

pub is_says : (form : Form) (lookback : ℕ) → Said form lookback → says_lookback form lookback ≡ true
is_says Current lookback e = refl
is_says Former lookback e = ap (λ n. n == 0) e

pub snapshot_reads : (form : Form) → Reads (λ (s : Snapshot). snapshot_text (own_by form s.own) s) (λ (s : Snapshot). snapshot_fits s && says_lookback form (lookback_of s.own.kind)) (snapshot_said form)
unfolding snapshot_said
snapshot_reads form s fit f =
    let w = parts_read (snapshot_parts (own_by form s.own) s) f in
    let p = and_parts (snapshot_fits s) _ fit in
    let q = and_parts (is_own s.own) _ p.0 in
    let r = and_parts (is_digest s.fingerprint) _ q.1 in
    let u = and_parts (list_all ref_fits s.parents) _ r.1 in
    let v = both_fit (is_count s.rank) (moment_fits s.expires) u.1 in
    let g0 = first_fits (name_list s.name) (encode_lower s.fingerprint ∷ own_by form s.own ∷ each_text ref_list s.parents ∷ decimal s.rank ∷ name_list s.object ∷ signed_decimal s.expires ∷ []) w.1 in
    let g1 = first_fits (encode_lower s.fingerprint) (own_by form s.own ∷ each_text ref_list s.parents ∷ decimal s.rank ∷ name_list s.object ∷ signed_decimal s.expires ∷ []) g0.1 in
    let g2 = first_fits (own_by form s.own) (each_text ref_list s.parents ∷ decimal s.rank ∷ name_list s.object ∷ signed_decimal s.expires ∷ []) g1.1 in
    let g3 = first_fits (each_text ref_list s.parents) (decimal s.rank ∷ name_list s.object ∷ signed_decimal s.expires ∷ []) g2.1 in
    let g4 = first_fits (decimal s.rank) (name_list s.object ∷ signed_decimal s.expires ∷ []) g3.1 in
    let g5 = first_fits (name_list s.object) (signed_decimal s.expires ∷ []) g4.1 in
    rw (
      w.0,
      name_reads s.name refl g0.0,
      digits_are_read s.fingerprint r.0,
      own_is_read form s.own q.0 (says_is form (lookback_of s.own.kind) p.1),
      seq_reads ref_list ref_fits ref_in ref_reads s.parents u.0 g3.0,
      number_is_read s.rank v.0,
      name_reads s.object refl g5.0,
      signed_is_read s.expires v.1,
    ) refl

pub version_reads : Reads version_text version_fits version_said
unfolding version_said
version_reads v fit f =
    let w = parts_read (version_parts v) f in
    let p = both_fit (ranges_fit v.ranges) (option_fits (list_all moment_fits) v.marks) fit in
    let q = and_parts (is_apart v.ranges) (list_all bounds_fits v.ranges) p.0 in
    let g0 = first_fits (name_list v.object) (bool_word v.made ∷ each_text bounds_list v.ranges ∷ option_list (each_text signed_decimal) v.marks ∷ []) w.1 in
    let g1 = first_fits (bool_word v.made) (each_text bounds_list v.ranges ∷ option_list (each_text signed_decimal) v.marks ∷ []) g0.1 in
    let g2 = first_fits (each_text bounds_list v.ranges) (option_list (each_text signed_decimal) v.marks ∷ []) g1.1 in
    let g3 = first_fits (option_list (each_text signed_decimal) v.marks) [] g2.1 in
    rw (
      w.0,
      name_reads v.object refl g0.0,
      bool_reads v.made refl g1.0,
      seq_reads bounds_list bounds_fits bounds_in bounds_reads v.ranges q.1 g2.0,
      option_reads (each_text signed_decimal) (list_all moment_fits) (each_in signed_in) (seq_reads signed_decimal moment_fits signed_in signed_reads) v.marks p.1 g3.0,
    ) refl

pub env_reads : Reads env_text env_fits env_said
unfolding env_said
env_reads e fit f =
    let w = parts_read (env_parts e) f in
    let p = and_parts (list_all ref_fits e.list) _ fit in
    let q = both_fit (list_all ref_fits e.previous) (option_fits moment_fits e.expires) p.1 in
    let g0 = first_fits e.name (bool_word e.pending ∷ each_text ref_list e.list ∷ each_text ref_list e.previous ∷ option_list signed_decimal e.expires ∷ []) w.1 in
    let g1 = first_fits (bool_word e.pending) (each_text ref_list e.list ∷ each_text ref_list e.previous ∷ option_list signed_decimal e.expires ∷ []) g0.1 in
    let g2 = first_fits (each_text ref_list e.list) (each_text ref_list e.previous ∷ option_list signed_decimal e.expires ∷ []) g1.1 in
    let g3 = first_fits (each_text ref_list e.previous) (option_list signed_decimal e.expires ∷ []) g2.1 in
    let g4 = first_fits (option_list signed_decimal e.expires) [] g3.1 in
    rw (
      w.0,
      bool_reads e.pending refl g1.0,
      seq_reads ref_list ref_fits ref_in ref_reads e.list p.0 g2.0,
      seq_reads ref_list ref_fits ref_in ref_reads e.previous q.0 g3.0,
      option_reads signed_decimal moment_fits signed_in signed_reads e.expires q.1 g4.0,
    ) refl

pub view_reads : Reads view_text (λ v. true) view_said
unfolding view_said
view_reads v fit f =
    let w = parts_read (view_parts v) f in
    let g = first_fits (name_list v.view) (name_list v.target ∷ []) w.1 in
    let h = first_fits (name_list v.target) [] g.1 in
    rw (w.0, name_reads v.view refl g.0, name_reads v.target refl h.0) refl

body_reads : (form : Form) → Reads (λ (b : Body). list_text (body_parts (stored_by form b) b)) (λ (b : Body). body_fits b && says_stored form b) (body_said form)
unfolding body_said stored_said
body_reads form (Rows rows) fit f =
    let w = parts_read (codes "rows" ∷ rows_list rows ∷ []) f in
    let p = and_parts (body_fits (Rows rows)) true fit in
    let g = first_fits (codes "rows") (rows_list rows ∷ []) w.1 in
    let h = first_fits (rows_list rows) [] g.1 in
    rw (w.0, rows_reads rows (and_parts (rows_fit rows) true p.0).0 h.0) refl
body_reads form (Stored m targets) fit f =
    let w = parts_read (codes "stored" ∷ own_by form m ∷ each_text pair_list targets ∷ []) f in
    let p = and_parts (body_fits (Stored m targets)) (says_lookback form (lookback_of m.kind)) fit in
    let q = and_parts (is_own m) _ p.0 in
    let g = first_fits (codes "stored") (own_by form m ∷ each_text pair_list targets ∷ []) w.1 in
    let h = first_fits (own_by form m) (each_text pair_list targets ∷ []) g.1 in
    let k = first_fits (each_text pair_list targets) [] h.1 in
    rw (
      w.0,
      own_is_read form m q.0 (says_is form (lookback_of m.kind) p.1),
      seq_reads pair_list pair_fits pair_in pair_reads targets (and_parts (list_all pair_fits targets) true q.1).0 k.0,
    ) refl

pub object_reads : (form : Form) → Reads (λ (o : Object). object_text (stored_by form o.body) o) (λ (o : Object). object_fits o && says_stored form o.body) (object_said form)
unfolding object_said
object_reads form o fit f =
    let kept : List ℕ = list_text (body_parts (stored_by form o.body) o.body) in
    let w = parts_read (object_parts kept o) f in
    let p = and_parts (object_fits o) (says_stored form o.body) fit in
    let q = and_parts (body_fits o.body) _ p.0 in
    let g0 = first_fits (name_list o.name) (each_text column_list o.columns ∷ kept ∷ []) w.1 in
    let g1 = first_fits (each_text column_list o.columns) (kept ∷ []) g0.1 in
    let g2 = first_fits kept [] g1.1 in
    rw (
      w.0,
      name_reads o.name refl g0.0,
      seq_reads column_list column_fits column_in column_reads o.columns (and_parts (list_all column_fits o.columns) true q.1).0 g1.0,
      body_reads form o.body (rw (q.0, p.1) refl) g2.0,
    ) refl

pub source_reads : Reads source_text source_fits source_said
unfolding source_said
source_reads s fit f =
    let w = parts_read (source_parts s) f in
    let p = both_fit (list_all column_fits s.columns) (rows_fit s.rows) fit in
    let g0 = first_fits (name_list s.name) (each_text column_list s.columns ∷ rows_list s.rows ∷ []) w.1 in
    let g1 = first_fits (each_text column_list s.columns) (rows_list s.rows ∷ []) g0.1 in
    let g2 = first_fits (rows_list s.rows) [] g1.1 in
    rw (
      w.0,
      name_reads s.name refl g0.0,
      seq_reads column_list column_fits column_in column_reads s.columns p.0 g1.0,
      rows_reads s.rows p.1 g2.0,
    ) refl
