-- The thing that a body says: what its parts say, where a program can hold it and this is its body. What the parts
-- say is read freely, since the body is compared at the end.
use Rattle.std.specs.Prelude.{ℕ, ◌==◌, ◌&&◌, Bool, true, if◌then◌else◌, List, [], ◌∷◌, codes, Option, Some, None}
use Rattle.mesh_base_values.specs.Kinds.{lookback_of}
use Rattle.mesh_base_values.specs.Picked.{same_text}
use Rattle.mesh_base_values.specs.declared.values.Cell.{Cell}
use Rattle.mesh_base_values.specs.declared.values.Column.{Column}
use Rattle.mesh_base_values.specs.declared.values.Name.{Name}
use Rattle.mesh_base_values.specs.declared.values.Pair.{Pair}
use Rattle.mesh_base_values.specs.declared.times.Bounds.{Bounds}
use Rattle.mesh_base.specs.declared.jobs.Input.{Input}
use Rattle.mesh_base.specs.declared.snapshots.Env.{Env}
use Rattle.mesh_base.specs.declared.snapshots.Ref.{Ref}
use Rattle.mesh_base.specs.declared.snapshots.Snapshot.{Snapshot}
use Rattle.mesh_house_book.specs.declared.versions.Version.{Version}
use Rattle.mesh_house.specs.declared.objects.Body.{Body}
use Rattle.mesh_house.specs.declared.objects.Body.TheVariants.{Rows, Stored}
use Rattle.mesh_house.specs.declared.objects.Object.{Object}
use Rattle.mesh_house.specs.declared.world.ViewOf.{ViewOf}
use Rattle.mesh_canon_text.specs.declared.form.Form.{Form}
use Rattle.mesh_canon_text.specs.declared.form.Form.TheVariants.{Current, Former}
use Rattle.mesh_canon_text.specs.Text.{own_by}
use Rattle.mesh_canon_words.specs.Words.{◌>>=◌}
use Rattle.mesh_canon_reading.specs.Fits.{text_fits}
use Rattle.mesh_canon_reading.specs.Reading.{cell_in, list_in, own_in, type_in}
use Rattle.mesh_keep_records.specs.declared.book_records.BookHead.{BookHead}
use Rattle.mesh_keep_records.specs.Parts.{digits_in, number_in, signed_in}
use Rattle.mesh_keep_records.specs.Records.{env_fits, env_text, head_fits, head_text, object_fits, object_text, snapshot_fits, snapshot_text, source_fits, source_text, version_fits, version_text, view_text}

-- what the first part says, and the other parts
abbrev pub part_at : {A : Type 0} → (List ℕ → Option A) → List (List ℕ) → Option (A × List (List ℕ))
part_at read [] = None
part_at read (t ∷ ts) = read t >>= λ x. Some (x, ts)

-- what each part says
abbrev pub each_of : {A : Type 0} → (List ℕ → Option A) → List (List ℕ) → Option (List A)
each_of read [] = Some []
each_of read (t ∷ ts) = read t >>= λ x. each_of read ts >>= λ xs. Some (x ∷ xs)

-- what a list of members says
unfoldable pub each_in : {A : Type 0} → (List ℕ → Option A) → List ℕ → Option (List A)
each_in read t = list_in t >>= each_of read

-- nothing, where there is no part, and else what the first says
abbrev pub option_of : {A : Type 0} → (List ℕ → Option A) → List (List ℕ) → Option (Option A)
option_of read [] = Some None
option_of read (t ∷ ts) = read t >>= λ x. Some (Some x)

-- what an option says
unfoldable pub option_in : {A : Type 0} → (List ℕ → Option A) → List ℕ → Option (Option A)
option_in read t = list_in t >>= option_of read

-- a truth value
unfoldable pub bool_in : List ℕ → Option Bool
bool_in t = Some (same_text t (codes "true"))

unfoldable pub name_in : List ℕ → Option Name
name_in t = do
  parts ← list_in t
  schema ← part_at Some parts
  model ← part_at Some schema.1
  Some (record { schema = schema.0; model = model.0 })

unfoldable pub column_in : List ℕ → Option Column
column_in t = do
  parts ← list_in t
  name ← part_at Some parts
  kind ← part_at type_in name.1
  Some (record { name = name.0; kind = kind.0 })

unfoldable pub ref_in : List ℕ → Option Ref
ref_in t = do
  parts ← list_in t
  name ← part_at name_in parts
  fingerprint ← part_at digits_in name.1
  Some (record { name = name.0; fingerprint = fingerprint.0 })

unfoldable pub pair_in : List ℕ → Option Pair
pair_in t = do
  parts ← list_in t
  first ← part_at name_in parts
  second ← part_at name_in first.1
  Some (record { first = first.0; second = second.0 })

unfoldable pub bounds_in : List ℕ → Option Bounds
bounds_in t = do
  parts ← list_in t
  start ← part_at signed_in parts
  end ← part_at signed_in start.1
  Some (record { start = start.0; end = end.0 })

unfoldable pub rows_in : List ℕ → Option (List (List Cell))
rows_in = each_in (each_in cell_in)

-- the version, which is 1 where it isn't said
abbrev pub version_of : List (List ℕ) → Option ℕ
version_of [] = Some 1
version_of (t ∷ ts) = number_in t

-- the moment and the version
abbrev pub head_parts_said : List (List ℕ) → Option BookHead
head_parts_said parts =
    part_at signed_in parts >>= λ moment. version_of moment.1 >>= λ version. Some (record { version = version; moment = moment.0 })

unfoldable pub head_said : List ℕ → Option BookHead
head_said t = list_in t >>= head_parts_said

-- a snapshot, with its definition's text in this form
unfoldable pub snapshot_said : Form → List ℕ → Option Snapshot
snapshot_said form t = do
  parts ← list_in t
  name ← part_at name_in parts
  fingerprint ← part_at digits_in name.1
  own ← part_at (own_in form) fingerprint.1
  parents ← part_at (each_in ref_in) own.1
  rank ← part_at number_in parents.1
  object ← part_at name_in rank.1
  expires ← part_at signed_in object.1
  Some (record { name = name.0; fingerprint = fingerprint.0; own = own.0; parents = parents.0; rank = rank.0; object = object.0; expires = expires.0 })

unfoldable pub version_said : List ℕ → Option Version
version_said t = do
  parts ← list_in t
  object ← part_at name_in parts
  made ← part_at bool_in object.1
  ranges ← part_at (each_in bounds_in) made.1
  marks ← part_at (option_in (each_in signed_in)) ranges.1
  Some (record { object = object.0; made = made.0; ranges = ranges.0; marks = marks.0 })

unfoldable pub env_said : List ℕ → Option Env
env_said t = do
  parts ← list_in t
  name ← part_at Some parts
  pending ← part_at bool_in name.1
  listed ← part_at (each_in ref_in) pending.1
  previous ← part_at (each_in ref_in) listed.1
  expires ← part_at (option_in signed_in) previous.1
  Some (record { name = name.0; pending = pending.0; list = listed.0; previous = previous.0; expires = expires.0 })

unfoldable pub view_said : List ℕ → Option ViewOf
view_said t = do
  parts ← list_in t
  view ← part_at name_in parts
  target ← part_at name_in view.1
  Some (record { view = view.0; target = target.0 })

-- what an object keeps, by the parts behind its word
abbrev pub rows_said : List (List ℕ) → Option Body
rows_said parts = part_at rows_in parts >>= λ rows. Some (Rows rows.0)

unfoldable pub stored_said : Form → List (List ℕ) → Option Body
stored_said form parts = do
  own ← part_at (own_in form) parts
  targets ← part_at (each_in pair_in) own.1
  Some (Stored own.0 targets.0)

-- what an object keeps, with its definition's text in this form where it has one
unfoldable pub body_said : Form → List ℕ → Option Body
body_said form t = do
  parts ← list_in t
  word ← part_at Some parts
  if same_text word.0 (codes "rows") then rows_said word.1 else stored_said form word.1

unfoldable pub object_said : Form → List ℕ → Option Object
object_said form t = do
  parts ← list_in t
  name ← part_at name_in parts
  columns ← part_at (each_in column_in) name.1
  body ← part_at (body_said form) columns.1
  Some (record { name = name.0; columns = columns.0; body = body.0 })

unfoldable pub source_said : List ℕ → Option Input
source_said t = do
  parts ← list_in t
  name ← part_at name_in parts
  columns ← part_at (each_in column_in) name.1
  rows ← part_at rows_in columns.1
  Some (record { name = name.0; columns = columns.0; rows = rows.0 })

-- what a text says, where it fits, and it is what this is the text of
unfoldable pub exactly : {A : Type 0} → (A → List ℕ) → (A → Bool) → (List ℕ → Option A) → List ℕ → Option A
exactly text fits said t =
    if text_fits t then (said t >>= λ x. if fits x && same_text t (text x) then Some x else None) else None

-- what was read, and else what is read otherwise
abbrev pub or_else : {A : Type 0} → Option A → Option A → Option A
or_else None other = other
or_else (Some x) other = Some x

-- a form says a lookback: the former one says only that there is none
abbrev pub says_lookback : Form → ℕ → Bool
says_lookback Current lookback = true
says_lookback Former lookback = lookback == 0

-- the text in a form of the definition that an object stores, where it stores one
abbrev pub stored_by : Form → Body → List ℕ
stored_by form (Rows rows) = []
stored_by form (Stored m targets) = own_by form m

abbrev pub says_stored : Form → Body → Bool
says_stored form (Rows rows) = true
says_stored form (Stored m targets) = says_lookback form (lookback_of m.kind)

-- what a book has besides its lists, by its body
unfoldable pub head_in : List ℕ → Option BookHead
head_in = exactly head_text head_fits head_said

-- the snapshot of a body that has its definition's text in this form
abbrev pub snapshot_by : Form → List ℕ → Option Snapshot
snapshot_by form =
    exactly (λ s. snapshot_text (own_by form s.own) s) (λ s. snapshot_fits s && says_lookback form (lookback_of s.own.kind)) (snapshot_said form)

unfoldable pub snapshot_in : List ℕ → Option Snapshot
snapshot_in t = or_else (snapshot_by Current t) (snapshot_by Former t)

unfoldable pub version_in : List ℕ → Option Version
version_in = exactly version_text version_fits version_said

unfoldable pub env_in : List ℕ → Option Env
env_in = exactly env_text env_fits env_said

unfoldable pub view_in : List ℕ → Option ViewOf
view_in = exactly view_text (λ v. true) view_said

-- the object of a body that has its definition's text, if any, in this form
abbrev pub object_by : Form → List ℕ → Option Object
object_by form =
    exactly (λ o. object_text (stored_by form o.body) o) (λ o. object_fits o && says_stored form o.body) (object_said form)

unfoldable pub object_in : List ℕ → Option Object
object_in t = or_else (object_by Current t) (object_by Former t)

unfoldable pub source_in : List ℕ → Option Input
source_in = exactly source_text source_fits source_said
