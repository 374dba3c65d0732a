-- The name of a record is that of one key: a body that fits has a key whose name fits, which is no other key's.
use Rattle.std.proofs.Common.{◌≡◌, ℕ, ◌+◌, ◌<◌, ◌≤◌, ◌^◌, true, List, [], ◌∷◌, ◌++◌, length, refl, sym, ap, subst, ◌∙◌, arith}
use Rattle.std.specs.Prelude.{◌==◌, nat_lt}
use Rattle.std.specs.List.{list_all}
use Rattle.std.specs.Fmt.{decimal, signed_decimal}
use Rattle.std.proofs.lemmas.Bool.{and_parts, lt-ltb, ltb-true}
use Rattle.std.proofs.lemmas.List.{length-append}
use Rattle.hex.specs.Hex.{encode_lower}
use Rattle.mesh_base_values.specs.declared.values.Name.{Name}
use Rattle.mesh_base.specs.declared.snapshots.Env.{Env}
use Rattle.mesh_base.specs.declared.snapshots.Ref.{Ref}
use Rattle.mesh_base.specs.declared.snapshots.Snapshot.{Snapshot}
use Rattle.mesh_base.specs.declared.jobs.Input.{Input}
use Rattle.mesh_house_book.specs.declared.versions.Version.{Version}
use Rattle.mesh_house.specs.declared.objects.Object.{Object}
use Rattle.mesh_house.specs.declared.world.ViewOf.{ViewOf}
use Rattle.mesh_canon_text.specs.Text.{list_of, list_text, members, spaced, text_of}
use Rattle.mesh_canon_reading.specs.Fits.{is_own, text_fits}
use Rattle.mesh_canon_reading.proofs.Lists.{spaced_one}
use Rattle.mesh_keep_records.specs.Keys.{env_key, snapshot_key, thing_key}
use Rattle.mesh_keep_records.specs.Parts.{bool_word, is_digest}
use Rattle.mesh_keep_records.specs.Records.{each_text, name_list, option_list, ref_list, snapshot_fits}
use Rattle.mesh_keep_records.proofs.Inside.{parts_fit}
use Rattle.mesh_keep_records.proofs.Tells.{first_fits, name_tells, same_parts, three_parts}
use Rattle.mesh_keep_records.proofs.Words.{cons_is}
use Rattle.mesh_keep.specs.Holds.{IsEnv, IsObject, IsSnapshot, IsSource, IsVersion, IsView}
use Rattle.mesh_keep.proofs.Digits.{digits_one}

-- a key whose name is that of a key whose name fits is that key
pub thing_one : (a b : Name) → text_fits (thing_key b) ≡ true → thing_key a ≡ thing_key b → a ≡ b
thing_one a b fits e = sym (name_tells b a refl refl fits (sym e))

pub env_one : (a b : List ℕ) → text_fits (env_key b) ≡ true → env_key a ≡ env_key b → a ≡ b
env_one a b fits e = sym (cons_is b a [] [] (same_parts (b ∷ []) (a ∷ []) fits (sym e)).0).0

pub snapshot_one : (a b : Ref) → is_digest b.fingerprint ≡ true → text_fits (snapshot_key b.name b.fingerprint) ≡ true → snapshot_key a.name a.fingerprint ≡ snapshot_key b.name b.fingerprint → a ≡ b
snapshot_one a b digest fits e =
    let h = three_parts b.name.schema b.name.model (encode_lower b.fingerprint) a.name.schema a.name.model (encode_lower a.fingerprint) fits (sym e) in
    let schema : a.name.schema ≡ b.name.schema = sym h.0 in
    let model : a.name.model ≡ b.name.model = sym h.1 in
    let bytes = (and_parts (length b.fingerprint == 32) (list_all (λ c. nat_lt c 256) b.fingerprint) digest).1 in
    let fingerprint : a.fingerprint ≡ b.fingerprint = digits_one a.fingerprint b.fingerprint bytes (sym h.2) in
    λ i. record { name = record { schema = schema i; model = model i }; fingerprint = fingerprint i }

-- how long a list of texts is
list_length : (t : List ℕ) (ts : List (List ℕ)) → length (list_text (t ∷ ts)) ≡ 2 + length (text_of t) + length (spaced text_of ts)
unfolding list_of members
list_length t ts = omega (arith, length-append (text_of t ++ spaced text_of ts) (93 ∷ []), length-append (text_of t) (spaced text_of ts))

text_longer : (t : List ℕ) → length t < length (text_of t)
unfolding text_of
text_longer t = omega (arith, length-append (decimal (length t)) (58 ∷ t))

shorter_fits : (s t : List ℕ) → length s ≤ length t → text_fits t ≡ true → text_fits s ≡ true
shorter_fits s t le fits = lt-ltb (length s) (2 ^ 64) (let lt = ltb-true (length t) (2 ^ 64) fits in omega (arith, lt))

-- the first part of a body, which is the name of most records
first_part : (t n : List ℕ) (others : List (List ℕ)) → text_fits t ≡ true → t ≡ list_text (n ∷ others) → text_fits n ≡ true
first_part t n others fits e = (first_fits n others (parts_fit (n ∷ others) (ltb-true (length (list_text (n ∷ others))) (2 ^ 64) (sym (ap text_fits e) ∙ fits)))).0

-- the names of the things of bodies fit
pub version_named : (t : List ℕ) (v : Version) → text_fits t ≡ true → IsVersion t v → text_fits (thing_key v.object) ≡ true
version_named t v fits h = first_part t (name_list v.object) _ fits h.1

pub view_named : (t : List ℕ) (v : ViewOf) → text_fits t ≡ true → IsView t v → text_fits (thing_key v.view) ≡ true
view_named t v fits h = first_part t (name_list v.view) _ fits h

pub object_named : (t : List ℕ) (o : Object) → text_fits t ≡ true → IsObject t o → text_fits (thing_key o.name) ≡ true
object_named t o fits h = first_part t (name_list o.name) _ fits h.1.2

pub source_named : (t : List ℕ) (s : Input) → text_fits t ≡ true → IsSource t s → text_fits (thing_key s.name) ≡ true
source_named t s fits h = first_part t (name_list s.name) _ fits h.1

no_more : length (spaced text_of []) ≡ 0
unfolding spaced
no_more = refl

longer : (t : List ℕ) (others : List (List ℕ)) → length (list_text (t ∷ [])) ≤ length (list_text (t ∷ others))
longer t others = omega (arith, no_more, list_length t [], list_length t others)

pub env_named : (t : List ℕ) (e : Env) → text_fits t ≡ true → IsEnv t e → text_fits (env_key e.name) ≡ true
env_named t e fits h =
    let others = bool_word e.pending ∷ each_text ref_list e.list ∷ each_text ref_list e.previous ∷ option_list signed_decimal e.expires ∷ [] in
    shorter_fits (env_key e.name) t (subst (λ (s : List ℕ). length (env_key e.name) ≤ length s) (sym h.1) (longer e.name others)) fits

-- parts of a list within a list are no longer than both
nested : (s m f : List ℕ) (others : List (List ℕ)) → length (list_text (s ∷ m ∷ f ∷ [])) ≤ length (list_text (list_text (s ∷ m ∷ []) ∷ f ∷ others))
nested s m f others =
    let inner = text_longer (list_text (s ∷ m ∷ [])) in
    omega (
      arith,
      no_more,
      inner,
      list_length s (m ∷ f ∷ []),
      spaced_one text_of m (f ∷ []),
      spaced_one text_of f [],
      list_length s (m ∷ []),
      spaced_one text_of m [],
      list_length (list_text (s ∷ m ∷ [])) (f ∷ others),
      spaced_one text_of f others,
    )

pub snapshot_named : (t : List ℕ) (s : Snapshot) → text_fits t ≡ true → IsSnapshot t s → text_fits (snapshot_key s.name s.fingerprint) ≡ true
snapshot_named t s fits h =
    let others = h.1.0 ∷ each_text ref_list s.parents ∷ decimal s.rank ∷ name_list s.object ∷ signed_decimal s.expires ∷ [] in
    let le = nested s.name.schema s.name.model (encode_lower s.fingerprint) others in
    shorter_fits (snapshot_key s.name s.fingerprint) t (subst (λ (b : List ℕ). length (snapshot_key s.name s.fingerprint) ≤ length b) (sym h.1.2) le) fits

pub digest_of : (s : Snapshot) → snapshot_fits s ≡ true → is_digest s.fingerprint ≡ true
digest_of s fits = (and_parts (is_digest s.fingerprint) _ (and_parts (is_own s.own) _ fits).1).0
