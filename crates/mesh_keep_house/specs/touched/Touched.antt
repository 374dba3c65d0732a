-- The things that a change is about, and the writes by which records follow it.
use Rattle.std.specs.Prelude.{◌≡◌, ℕ, Bool, true, ◌&&◌, List, [], ◌∷◌, ◌++◌, Some, map}
use Rattle.std.specs.declared.option.Option.{Option}
use Rattle.std.specs.List.{list_all}
use Rattle.std.specs.Option.{option_map}
use Rattle.mesh_list.specs.Keyed.{found}
use Rattle.mesh_base_values.specs.declared.values.Name.{Name}
use Rattle.mesh_base_values.specs.Names.{name_cmp, text_cmp}
use Rattle.mesh_base.specs.declared.forgets.Forget.{Forget}
use Rattle.mesh_base.specs.declared.forgets.Forget.TheVariants.{Range, Marks}
use Rattle.mesh_base.specs.declared.snapshots.Env.{Env}
use Rattle.mesh_base.specs.declared.snapshots.Snapshot.{Snapshot}
use Rattle.mesh_base.specs.Keys.{env_name, input_name, ref_cmp, snapshot_ref}
use Rattle.mesh_house_book.specs.declared.book.Book.{Book}
use Rattle.mesh_house_book.specs.Changes.{version_object}
use Rattle.mesh_house.specs.declared.objects.Object.{Object}
use Rattle.mesh_house.specs.declared.world.World.{World}
use Rattle.mesh_house.specs.declared.world.Change.{Change}
use Rattle.mesh_house.specs.declared.world.Change.TheVariants.{Moment, Load, PutSnapshot, MakeTable, MakeView, ReplaceRows, WriteRange, RecordRange, RecordMarks, SetPending, PointView, DropView, Finalize, Expire, ForgetVersion, DropObject, DeleteSnapshot, DeleteEnv, ForgetUnits, Migrate}
use Rattle.mesh_house.specs.Objects.{object_name}
use Rattle.mesh_house.specs.Step.{step}
use Rattle.mesh_house.specs.World.{view_name}
use Rattle.mesh_canon_text.specs.Text.{own_text}
use Rattle.mesh_canon_reading.specs.Fits.{text_fits}
use Rattle.mesh_keep_records.specs.Keys.{env_key, head_key, snapshot_key, thing_key}
use Rattle.mesh_keep_records.specs.Parts.{is_digest, option_fits}
use Rattle.mesh_keep_records.specs.Records.{env_fits, env_text, head_fits, head_text, object_fits, object_text, snapshot_fits, snapshot_text, source_fits, source_text, stored_text, version_fits, version_text, view_text}
use Rattle.mesh_keep.specs.declared.kept.Place.{Place}
use Rattle.mesh_keep.specs.declared.kept.Write.{Write}
use Rattle.mesh_keep.specs.Holds.{head_of}
use Rattle.mesh_keep_house.specs.declared.touched.things.Thing.{Thing}
use Rattle.mesh_keep_house.specs.declared.touched.things.Thing.TheVariants as things

-- where the record of a thing is kept
abbrev pub place_of : Thing → Place
place_of things.Head = record { kind = 0; name = head_key }
place_of (things.Snapshot k) = record { kind = 1; name = snapshot_key k.name k.fingerprint }
place_of (things.Version k) = record { kind = 2; name = thing_key k }
place_of (things.Env k) = record { kind = 3; name = env_key k }
place_of (things.View k) = record { kind = 4; name = thing_key k }
place_of (things.Object k) = record { kind = 5; name = thing_key k }
place_of (things.Source k) = record { kind = 6; name = thing_key k }

-- the bodies of a snapshot and of an object, with the canonical text of a definition
abbrev pub snapshot_body : Snapshot → List ℕ
snapshot_body s = snapshot_text (own_text s.own) s

abbrev pub object_body : Object → List ℕ
object_body o = object_text (stored_text o.body) o

-- the body of what a world has of a thing
abbrev pub body_in : World → Thing → Option (List ℕ)
body_in w things.Head = Some (head_text (head_of w.book))
body_in w (things.Snapshot k) = option_map snapshot_body (found ref_cmp snapshot_ref k w.book.snapshots)
body_in w (things.Version k) = option_map version_text (found name_cmp version_object k w.book.versions)
body_in w (things.Env k) = option_map env_text (found text_cmp env_name k w.book.environments)
body_in w (things.View k) = option_map view_text (found name_cmp view_name k w.views)
body_in w (things.Object k) = option_map object_body (found name_cmp object_name k w.objects)
body_in w (things.Source k) = option_map source_text (found name_cmp input_name k w.sources)

-- the record of a thing is what a world has of it
abbrev pub write_of : World → Thing → Write
write_of w t = record { kind = (place_of t).kind; name = (place_of t).name; body = body_in w t }

-- a program can hold the key of a thing
abbrev pub key_fits : Thing → Bool
key_fits things.Head = true
key_fits (things.Snapshot k) = is_digest k.fingerprint
key_fits (things.Version k) = true
key_fits (things.Env k) = true
key_fits (things.View k) = true
key_fits (things.Object k) = true
key_fits (things.Source k) = true

-- a program can hold what a world has of a thing
abbrev pub value_fits : World → Thing → Bool
value_fits w things.Head = head_fits (head_of w.book)
value_fits w (things.Snapshot k) = option_fits snapshot_fits (found ref_cmp snapshot_ref k w.book.snapshots)
value_fits w (things.Version k) = option_fits version_fits (found name_cmp version_object k w.book.versions)
value_fits w (things.Env k) = option_fits env_fits (found text_cmp env_name k w.book.environments)
value_fits w (things.View k) = true
value_fits w (things.Object k) = option_fits object_fits (found name_cmp object_name k w.objects)
value_fits w (things.Source k) = option_fits source_fits (found name_cmp input_name k w.sources)

-- a program can hold a thing, what a world has of it, and its record
abbrev pub thing_fits : World → Thing → Bool
thing_fits w t = (key_fits t && text_fits (place_of t).name) && (value_fits w t && option_fits text_fits (body_in w t))

abbrev pub snapshot_thing : Snapshot → Thing
snapshot_thing s = things.Snapshot (snapshot_ref s)

abbrev pub env_thing : Env → Thing
env_thing e = things.Env e.name

-- what is forgotten of an object stands in its version
abbrev pub forget_object : Forget → Name
forget_object (Range object start end) = object
forget_object (Marks object) = object

abbrev pub forget_thing : Forget → Thing
forget_thing f = things.Version (forget_object f)

-- all of a book that speaks of fingerprints, and the version
abbrev pub moved_things : Book → List Thing
moved_things b = things.Head ∷ (map snapshot_thing b.snapshots ++ map env_thing b.environments)

-- the things of a world that a change may take away, where they aren't those that it names
abbrev pub noted : World → Change → List Thing
noted w (Moment t) = []
noted w (Load name columns rows keep) = []
noted w (PutSnapshot snapshot) = []
noted w (MakeTable object columns) = []
noted w (MakeView object columns own targets) = []
noted w (ReplaceRows object rows) = []
noted w (WriteRange object time start end rows) = []
noted w (RecordRange object start end) = []
noted w (RecordMarks object marks) = []
noted w (SetPending env list expires) = []
noted w (PointView view target) = []
noted w (DropView view) = []
noted w (Finalize env) = []
noted w (Expire env) = []
noted w (ForgetVersion object) = []
noted w (DropObject object) = []
noted w (DeleteSnapshot name fingerprint) = []
noted w (DeleteEnv env) = []
noted w (ForgetUnits list) = []
noted w (Migrate renames) = map snapshot_thing w.book.snapshots

-- the things that a change names, of the world after it
abbrev pub about : World → Change → List Thing
about v (Moment t) = things.Head ∷ []
about v (Load name columns rows keep) = things.Source name ∷ []
about v (PutSnapshot snapshot) = snapshot_thing snapshot ∷ things.Version snapshot.object ∷ []
about v (MakeTable object columns) = things.Object object ∷ things.Version object ∷ []
about v (MakeView object columns own targets) = things.Object object ∷ things.Version object ∷ []
about v (ReplaceRows object rows) = things.Object object ∷ []
about v (WriteRange object time start end rows) = things.Object object ∷ []
about v (RecordRange object start end) = things.Version object ∷ []
about v (RecordMarks object marks) = things.Version object ∷ []
about v (SetPending env list expires) = things.Env env ∷ []
about v (PointView view target) = things.View view ∷ []
about v (DropView view) = things.View view ∷ []
about v (Finalize env) = things.Env env ∷ []
about v (Expire env) = things.Env env ∷ []
about v (ForgetVersion object) = things.Version object ∷ []
about v (DropObject object) = things.Object object ∷ []
about v (DeleteSnapshot name fingerprint) = things.Snapshot (record { name = name; fingerprint = fingerprint }) ∷ []
about v (DeleteEnv env) = things.Env env ∷ []
about v (ForgetUnits list) = map forget_thing list
about v (Migrate renames) = moved_things v.book

-- the things that a change of a world is about
abbrev pub touched : World → Change → List Thing
touched w c = noted w c ++ about (step w c) c

-- the change was made, and these are the writes by which records follow it, which a program can hold
pub record Follows (w : World) (c : Change) (v : World) (ws : List Write) : Type 0 where
  pub stepped : v ≡ step w c
  pub writes : ws ≡ map (write_of v) (touched w c)
  pub fits : list_all (thing_fits v) (touched w c) ≡ true
