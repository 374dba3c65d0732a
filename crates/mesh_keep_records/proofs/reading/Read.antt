-- A body says exactly the thing that a program can hold and that has this body.
use Rattle.std.proofs.Common.{◌≡◌, ℕ, true, ◌&&◌, List, Some, refl, ap, ◌∙◌}
use Rattle.std.specs.Prelude.{◌↔◌}
use Rattle.std.proofs.lemmas.Bool.{and_from, and_parts}
use Rattle.mesh_base_values.specs.Kinds.{lookback_of}
use Rattle.mesh_base.specs.declared.jobs.Input.{Input}
use Rattle.mesh_base.specs.declared.snapshots.Env.{Env}
use Rattle.mesh_base.specs.declared.snapshots.Snapshot.{Snapshot}
use Rattle.mesh_house_book.specs.declared.versions.Version.{Version}
use Rattle.mesh_house.specs.declared.objects.Body.{Body}
use Rattle.mesh_house.specs.declared.objects.Body.TheVariants.{Rows, Stored}
use Rattle.mesh_house.specs.declared.objects.Object.{Object}
use Rattle.mesh_house.specs.declared.world.ViewOf.{ViewOf}
use Rattle.mesh_canon_text.specs.declared.form.Form.{Form}
use Rattle.mesh_canon_text.specs.declared.form.Form.TheVariants.{Current}
use Rattle.mesh_canon_text.specs.Text.{list_text, own_by}
use Rattle.mesh_canon_reading.specs.Fits.{text_fits}
use Rattle.mesh_keep_records.specs.declared.book_records.BookHead.{BookHead}
use Rattle.mesh_keep_records.specs.Records.{IsObjectText, IsSnapshotText, IsStoredText, body_parts, env_fits, env_text, head_fits, head_text, object_fits, object_parts, object_text, snapshot_fits, snapshot_text, source_fits, source_text, version_fits, version_text, view_text}
use Rattle.mesh_keep_records.proofs.Things.{object_tells, snapshot_tells}
use Rattle.mesh_keep_records.specs.reading.Reading.{env_in, env_said, head_in, head_said, object_by, object_in, object_said, says_lookback, says_stored, snapshot_by, snapshot_in, snapshot_said, source_in, source_said, stored_by, version_in, version_said, view_in, view_said}
use Rattle.mesh_keep_records.proofs.reading.Exactly.{by_form, exactly_is, in_form}
use Rattle.mesh_keep_records.proofs.reading.Said.{env_reads, head_reads, is_says, object_reads, says_is, snapshot_reads, source_reads, version_reads, view_reads}

pub head_read : (t : List ℕ) (x : BookHead) → (head_in t ≡ Some x) ↔ ((text_fits t ≡ true) × (head_fits x ≡ true) × (t ≡ head_text x))
unfolding head_in
head_read = exactly_is head_text head_fits head_said head_reads

snapshot_is : (form : Form) (t : List ℕ) (x : Snapshot) → (snapshot_by form t ≡ Some x) ↔ ((text_fits t ≡ true) × ((snapshot_fits x && says_lookback form (lookback_of x.own.kind)) ≡ true) × (t ≡ snapshot_text (own_by form x.own) x))
snapshot_is form = exactly_is (λ (s : Snapshot). snapshot_text (own_by form s.own) s) (λ (s : Snapshot). snapshot_fits s && says_lookback form (lookback_of s.own.kind)) (snapshot_said form) (snapshot_reads form)

snapshot_found : (form : Form) (t : List ℕ) (x : Snapshot) → snapshot_by form t ≡ Some x → (text_fits t ≡ true) × (snapshot_fits x ≡ true) × IsSnapshotText t x
snapshot_found form t x e =
    let h = (snapshot_is form t x).0 e in
    let p = and_parts (snapshot_fits x) (says_lookback form (lookback_of x.own.kind)) h.1 in
    (h.0, p.0, (own_by form x.own, (form, says_is form (lookback_of x.own.kind) p.1, refl), h.2))

snapshot_there : (t : List ℕ) (x : Snapshot) → text_fits t ≡ true → snapshot_fits x ≡ true → IsSnapshotText t x → snapshot_in t ≡ Some x
unfolding snapshot_in
snapshot_there t x f fit is =
    let form : Form = is.1.0 in
    let says : says_lookback form (lookback_of x.own.kind) ≡ true = is_says form (lookback_of x.own.kind) is.1.1 in
    let e = (snapshot_is form t x).1 (f, and_from (snapshot_fits x) (says_lookback form (lookback_of x.own.kind)) fit says, is.2 ∙ ap (λ own. snapshot_text own x) is.1.2) in
    in_form (λ k. snapshot_by k t) x form (λ y r. let q = snapshot_found Current t y r in snapshot_tells t y x f q.1 fit q.2 is) e

pub snapshot_read : (t : List ℕ) (x : Snapshot) → (snapshot_in t ≡ Some x) ↔ ((text_fits t ≡ true) × (snapshot_fits x ≡ true) × IsSnapshotText t x)
unfolding snapshot_in
snapshot_read t x = (
  λ e. let r = by_form (λ form. snapshot_by form t) x e in snapshot_found r.0 t x r.1,
  λ h. snapshot_there t x h.0 h.1 h.2,
)

pub version_read : (t : List ℕ) (x : Version) → (version_in t ≡ Some x) ↔ ((text_fits t ≡ true) × (version_fits x ≡ true) × (t ≡ version_text x))
unfolding version_in
version_read = exactly_is version_text version_fits version_said version_reads

pub env_read : (t : List ℕ) (x : Env) → (env_in t ≡ Some x) ↔ ((text_fits t ≡ true) × (env_fits x ≡ true) × (t ≡ env_text x))
unfolding env_in
env_read = exactly_is env_text env_fits env_said env_reads

pub view_read : (t : List ℕ) (x : ViewOf) → (view_in t ≡ Some x) ↔ ((text_fits t ≡ true) × (t ≡ view_text x))
unfolding view_in
view_read t x =
    let iff = exactly_is view_text (λ v. true) view_said view_reads t x in
    (λ e. ((iff.0 e).0, (iff.0 e).2), λ h. iff.1 (h.0, refl, h.1))

-- the form of the text that an object's definition has, where it stores one
stored_form : (own : List ℕ) (b : Body) → IsStoredText own b → (form : Form) × (says_stored form b ≡ true) × (body_parts own b ≡ body_parts (stored_by form b) b)
stored_form own (Rows rows) is = (Current, refl, refl)
stored_form own (Stored m targets) is = (is.0, is_says is.0 (lookback_of m.kind) is.1, ap (λ t. body_parts t (Stored m targets)) is.2)

stored_in : (form : Form) (b : Body) → says_stored form b ≡ true → IsStoredText (stored_by form b) b
stored_in form (Rows rows) e = tt
stored_in form (Stored m targets) e = (form, says_is form (lookback_of m.kind) e, refl)

object_is : (form : Form) (t : List ℕ) (x : Object) → (object_by form t ≡ Some x) ↔ ((text_fits t ≡ true) × ((object_fits x && says_stored form x.body) ≡ true) × (t ≡ object_text (stored_by form x.body) x))
object_is form = exactly_is (λ (o : Object). object_text (stored_by form o.body) o) (λ (o : Object). object_fits o && says_stored form o.body) (object_said form) (object_reads form)

object_found : (form : Form) (t : List ℕ) (x : Object) → object_by form t ≡ Some x → (text_fits t ≡ true) × (object_fits x ≡ true) × IsObjectText t x
object_found form t x e =
    let h = (object_is form t x).0 e in
    let p = and_parts (object_fits x) (says_stored form x.body) h.1 in
    (h.0, p.0, (stored_by form x.body, stored_in form x.body p.1, h.2))

object_there : (t : List ℕ) (x : Object) → text_fits t ≡ true → object_fits x ≡ true → IsObjectText t x → object_in t ≡ Some x
unfolding object_in
object_there t x f fit is =
    let s = stored_form is.0 x.body is.1 in
    let e = (object_is s.0 t x).1 (f, and_from (object_fits x) (says_stored s.0 x.body) fit s.1, is.2 ∙ ap (λ parts. list_text (object_parts (list_text parts) x)) s.2) in
    in_form (λ k. object_by k t) x s.0 (λ y r. let q = object_found Current t y r in object_tells t y x f q.1 fit q.2 is) e

pub object_read : (t : List ℕ) (x : Object) → (object_in t ≡ Some x) ↔ ((text_fits t ≡ true) × (object_fits x ≡ true) × IsObjectText t x)
unfolding object_in
object_read t x = (
  λ e. let r = by_form (λ form. object_by form t) x e in object_found r.0 t x r.1,
  λ h. object_there t x h.0 h.1 h.2,
)

pub source_read : (t : List ℕ) (x : Input) → (source_in t ≡ Some x) ↔ ((text_fits t ≡ true) × (source_fits x ≡ true) × (t ≡ source_text x))
unfolding source_in
source_read = exactly_is source_text source_fits source_said source_reads
