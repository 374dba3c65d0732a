-- The bodies of the records that a stored warehouse keeps, and which values a program can hold. A value with fields is
-- the list of its fields' texts, and a list is the list of its members' texts.
use Rattle.std.specs.Prelude.{◌≡◌, ℕ, ℤ, ◌-◌, ◌^◌, ◌==◌, ◌&&◌, Bool, if◌then◌else◌, List, [], ◌∷◌, map, codes}
use Rattle.std.specs.List.{list_all}
use Rattle.std.specs.declared.option.Option.{Option}
use Rattle.std.specs.Fmt.{decimal, signed_decimal}
use Rattle.hex.specs.Hex.{encode_lower}
use Rattle.mesh_base_values.specs.declared.values.Cell.{Cell}
use Rattle.mesh_base_values.specs.declared.values.Column.{Column}
use Rattle.mesh_base_values.specs.declared.values.Name.{Name}
use Rattle.mesh_base_values.specs.declared.values.Pair.{Pair}
use Rattle.mesh_base_values.specs.declared.times.Bounds.{Bounds}
use Rattle.mesh_time.specs.Ranges.{is_apart}
use Rattle.mesh_base.specs.declared.jobs.Input.{Input}
use Rattle.mesh_base.specs.declared.snapshots.Env.{Env}
use Rattle.mesh_base.specs.declared.snapshots.Ref.{Ref}
use Rattle.mesh_base.specs.declared.snapshots.Snapshot.{Snapshot}
use Rattle.mesh_house_book.specs.declared.versions.Version.{Version}
use Rattle.mesh_house.specs.declared.objects.Body.{Body}
use Rattle.mesh_house.specs.declared.objects.Body.TheVariants.{Rows, Stored}
use Rattle.mesh_house.specs.declared.objects.Object.{Object}
use Rattle.mesh_house.specs.declared.world.ViewOf.{ViewOf}
use Rattle.mesh_canon_text.specs.Text.{cell_text, list_text, own_text, type_word}
use Rattle.mesh_canon_reading.specs.Fits.{cell_fits, column_fits, is_own, name_fits, signed_fits}
use Rattle.mesh_canon.specs.canon.Forms.{IsOwnText}
use Rattle.mesh_keep_records.specs.declared.book_records.BookHead.{BookHead}
use Rattle.mesh_keep_records.specs.Parts.{bool_word, is_count, is_digest, option_fits, option_parts}

-- a list of members
abbrev pub each_text : {A : Type 0} → (A → List ℕ) → List A → List ℕ
each_text text xs = list_text (map text xs)

-- an option
abbrev pub option_list : {A : Type 0} → (A → List ℕ) → Option A → List ℕ
option_list text x = list_text (option_parts text x)

abbrev pub name_parts : Name → List (List ℕ)
name_parts n = n.schema ∷ n.model ∷ []

abbrev pub name_list : Name → List ℕ
name_list n = list_text (name_parts n)

abbrev pub column_parts : Column → List (List ℕ)
column_parts c = c.name ∷ type_word c.kind ∷ []

abbrev pub column_list : Column → List ℕ
column_list c = list_text (column_parts c)

abbrev pub ref_parts : Ref → List (List ℕ)
ref_parts r = name_list r.name ∷ encode_lower r.fingerprint ∷ []

abbrev pub ref_list : Ref → List ℕ
ref_list r = list_text (ref_parts r)

abbrev pub pair_parts : Pair → List (List ℕ)
pair_parts p = name_list p.first ∷ name_list p.second ∷ []

abbrev pub pair_list : Pair → List ℕ
pair_list p = list_text (pair_parts p)

abbrev pub bounds_parts : Bounds → List (List ℕ)
bounds_parts b = signed_decimal b.start ∷ signed_decimal b.end ∷ []

abbrev pub bounds_list : Bounds → List ℕ
bounds_list b = list_text (bounds_parts b)

-- rows of cells
abbrev pub rows_list : List (List Cell) → List ℕ
rows_list rows = each_text (each_text cell_text) rows

-- all of these hold
abbrev pub all_fit : List Bool → Bool
all_fit = list_all (λ b. b)

-- a number of 64 bits with a sign
abbrev pub moment_fits : ℤ → Bool
moment_fits = signed_fits (2 ^ 63 - 1)

abbrev pub ref_fits : Ref → Bool
ref_fits r = all_fit (is_digest r.fingerprint ∷ [])

abbrev pub bounds_fits : Bounds → Bool
bounds_fits b = all_fit (moment_fits b.start ∷ moment_fits b.end ∷ [])

abbrev pub pair_fits : Pair → Bool
pair_fits p = name_fits p.first && name_fits p.second

abbrev pub rows_fit : List (List Cell) → Bool
rows_fit rows = list_all (list_all cell_fits) rows

-- spans that a program can hold as ranges
abbrev pub ranges_fit : List Bounds → Bool
ranges_fit spans = is_apart spans && list_all bounds_fits spans

-- the moment and the version
abbrev pub newer_parts : BookHead → List (List ℕ)
newer_parts h = signed_decimal h.moment ∷ decimal h.version ∷ []

-- the same, but that version 1 is not said
abbrev pub head_parts : BookHead → List (List ℕ)
head_parts h = if h.version == 1 then signed_decimal h.moment ∷ [] else newer_parts h

abbrev pub head_text : BookHead → List ℕ
head_text h = list_text (head_parts h)

abbrev pub head_fits : BookHead → Bool
head_fits h = all_fit (moment_fits h.moment ∷ is_count h.version ∷ [])

-- a snapshot, with this text of its definition
abbrev pub snapshot_parts : List ℕ → Snapshot → List (List ℕ)
snapshot_parts own s =
    name_list s.name ∷ encode_lower s.fingerprint ∷ own ∷ each_text ref_list s.parents ∷ decimal s.rank
    ∷ name_list s.object ∷ signed_decimal s.expires ∷ []

abbrev pub snapshot_text : List ℕ → Snapshot → List ℕ
snapshot_text own s = list_text (snapshot_parts own s)

abbrev pub IsSnapshotText : List ℕ → Snapshot → Type 0
IsSnapshotText text s = (own : List ℕ) × IsOwnText own s.own × (text ≡ snapshot_text own s)

abbrev pub snapshot_fits : Snapshot → Bool
snapshot_fits s =
    is_own s.own
    && all_fit (is_digest s.fingerprint ∷ list_all ref_fits s.parents ∷ is_count s.rank ∷ moment_fits s.expires ∷ [])

abbrev pub version_parts : Version → List (List ℕ)
version_parts v =
    name_list v.object ∷ bool_word v.made ∷ each_text bounds_list v.ranges
    ∷ option_list (each_text signed_decimal) v.marks ∷ []

abbrev pub version_text : Version → List ℕ
version_text v = list_text (version_parts v)

abbrev pub version_fits : Version → Bool
version_fits v = all_fit (ranges_fit v.ranges ∷ option_fits (list_all moment_fits) v.marks ∷ [])

abbrev pub env_parts : Env → List (List ℕ)
env_parts e =
    e.name ∷ bool_word e.pending ∷ each_text ref_list e.list ∷ each_text ref_list e.previous
    ∷ option_list signed_decimal e.expires ∷ []

abbrev pub env_text : Env → List ℕ
env_text e = list_text (env_parts e)

abbrev pub env_fits : Env → Bool
env_fits e = all_fit (list_all ref_fits e.list ∷ list_all ref_fits e.previous ∷ option_fits moment_fits e.expires ∷ [])

abbrev pub view_parts : ViewOf → List (List ℕ)
view_parts v = name_list v.view ∷ name_list v.target ∷ []

abbrev pub view_text : ViewOf → List ℕ
view_text v = list_text (view_parts v)

-- what an object keeps, with this text of its definition where it has one
abbrev pub body_parts : List ℕ → Body → List (List ℕ)
body_parts own (Rows rows) = codes "rows" ∷ rows_list rows ∷ []
body_parts own (Stored m targets) = codes "stored" ∷ own ∷ each_text pair_list targets ∷ []

-- the text of the definition that an object stores, where it stores one
abbrev pub IsStoredText : List ℕ → Body → Type 0
IsStoredText own (Rows rows) = Unit {0}
IsStoredText own (Stored m targets) = IsOwnText own m

-- the canonical text of that definition
abbrev pub stored_text : Body → List ℕ
stored_text (Rows rows) = []
stored_text (Stored m targets) = own_text m

-- the parts behind the word of rows
abbrev pub AreRowParts : List (List ℕ) → Body → Type 0
AreRowParts parts (Rows rows) = parts ≡ rows_list rows ∷ []
AreRowParts parts (Stored m targets) = ⊥

-- the parts behind the word of a stored query
abbrev pub AreStoredParts : List (List ℕ) → Body → Type 0
AreStoredParts parts (Rows rows) = ⊥
AreStoredParts parts (Stored m targets) = (own : List ℕ) × IsOwnText own m × (parts ≡ own ∷ each_text pair_list targets ∷ [])

-- the parts of what an object keeps
abbrev pub AreBodyParts : List (List ℕ) → Body → Type 0
AreBodyParts parts b = (own : List ℕ) × IsStoredText own b × (parts ≡ body_parts own b)

abbrev pub IsBodyText : List ℕ → Body → Type 0
IsBodyText text b = (own : List ℕ) × IsStoredText own b × (text ≡ list_text (body_parts own b))

abbrev pub body_fits : Body → Bool
body_fits (Rows rows) = all_fit (rows_fit rows ∷ [])
body_fits (Stored m targets) = is_own m && all_fit (list_all pair_fits targets ∷ [])

-- an object, with the text of what it keeps
abbrev pub object_parts : List ℕ → Object → List (List ℕ)
object_parts kept o = name_list o.name ∷ each_text column_list o.columns ∷ kept ∷ []

abbrev pub object_text : List ℕ → Object → List ℕ
object_text own o = list_text (object_parts (list_text (body_parts own o.body)) o)

abbrev pub IsObjectText : List ℕ → Object → Type 0
IsObjectText text o = (own : List ℕ) × IsStoredText own o.body × (text ≡ object_text own o)

abbrev pub object_fits : Object → Bool
object_fits o = body_fits o.body && all_fit (list_all column_fits o.columns ∷ [])

abbrev pub source_parts : Input → List (List ℕ)
source_parts s = name_list s.name ∷ each_text column_list s.columns ∷ rows_list s.rows ∷ []

abbrev pub source_text : Input → List ℕ
source_text s = list_text (source_parts s)

abbrev pub source_fits : Input → Bool
source_fits s = all_fit (list_all column_fits s.columns ∷ rows_fit s.rows ∷ [])
