-- A change leaves all but the things that it is about: every change but a migration.
use Rattle.std.proofs.Common.{◌≡◌, ℕ, ℤ, Bool, true, false, cond, List, [], ◌∷◌, ◌++◌, Some, None, refl, ap, ◌∙◌, map}
use Rattle.std.specs.declared.option.Option.{Option}
use Rattle.std.specs.declared.cmp.Ordering.{Ordering}
use Rattle.std.specs.Ordering.{is_eq}
use Rattle.std.specs.Int.Signed.{lt_z}
use Rattle.std.proofs.lemmas.Map.Lookups.{CmpEqualImpliesEq, exact_bytes}
use Rattle.mesh_list.specs.Keyed.{exchanged, found, placed, without}
use Rattle.mesh_base_values.specs.declared.values.Cell.{Cell}
use Rattle.mesh_base_values.specs.declared.values.Column.{Column}
use Rattle.mesh_base_values.specs.declared.values.Name.{Name}
use Rattle.mesh_base_values.specs.declared.values.Pair.{Pair}
use Rattle.mesh_base_values.specs.Names.{name_cmp, text_cmp}
use Rattle.mesh_base_values.specs.NameOrder.{names_exact}
use Rattle.mesh_base.specs.declared.definitions.Own.{Own}
use Rattle.mesh_base.specs.declared.forgets.Forget.{Forget}
use Rattle.mesh_base.specs.declared.forgets.Forget.TheVariants.{Range, Marks}
use Rattle.mesh_base.specs.declared.jobs.Input.{Input}
use Rattle.mesh_base.specs.declared.snapshots.Env.{Env}
use Rattle.mesh_base.specs.declared.snapshots.Ref.{Ref}
use Rattle.mesh_base.specs.declared.snapshots.Snapshot.{Snapshot}
use Rattle.mesh_base.specs.Keys.{env_name, input_name, ref_cmp, refs_exact, snapshot_ref}
use Rattle.mesh_house_book.specs.declared.book.Book.{Book}
use Rattle.mesh_house_book.specs.declared.versions.Version.{Version}
use Rattle.mesh_house_book.specs.Changes.{as_expired, as_final, as_table, as_view, at_env, at_version, delete_env, delete_snapshot, expire, finalize, forget_version, make_table as table_made, make_view as view_made, new_version, previous_of, put, put_for, put_snapshot, record_marks, record_range, set_pending, version_object, with_marks, with_range, with_version}
use Rattle.mesh_house_book.proofs.Exchanged.{found_key}
use Rattle.mesh_house_book.specs.moves.Forgets.{forget, forget_units, without_marks, without_range}
use Rattle.mesh_house.specs.declared.objects.Body.{Body}
use Rattle.mesh_house.specs.declared.objects.Body.TheVariants.{Rows, Stored}
use Rattle.mesh_house.specs.declared.objects.Object.{Object}
use Rattle.mesh_house.specs.declared.world.World.{World}
use Rattle.mesh_house.specs.Objects.{is_physical, object_name}
use Rattle.mesh_house.specs.Step.{drop_object, drop_view, filled, filled_at, kept_rows, load, make, make_table, make_view, point_view, replace_rows, with_book, with_object, write_range, written_at, written_object}
use Rattle.mesh_house.specs.declared.world.ViewOf.{ViewOf}
use Rattle.mesh_house.specs.World.{object_at, source_at, view_name}
use Rattle.mesh_keep_house.specs.declared.touched.things.Thing.TheVariants as things
use Rattle.mesh_keep_house.specs.touched.Touched.{forget_thing}
use Rattle.mesh_keep_house.proofs.touched.Elsewhere.{found_beside, found_exchanged, found_without}
use Rattle.mesh_keep_house.proofs.touched.Spared.{Spares, only_envs, only_objects, only_snapshots, only_sources, only_versions, only_views, spares_both, spares_same}

-- an item that takes the place of the one of its key, or joins the others
found_put : {A K : Type 0} (R : K → K → Ordering) → CmpEqualImpliesEq R → (key : A → K) (k : K) (y : A) (xs : List A) → is_eq (R (key y) k) ≡ false → found R key k (put R key y xs) ≡ found R key k xs
found_put {A = A} R exact key k y xs other = at (found R key (key y) xs)
  where
    at : (o : Option A) → found R key k (put_for o R key y xs) ≡ found R key k xs
    at None = found_beside R exact key k y xs other
    at (Some old) = found_exchanged R exact key k y xs other

-- an item that is found is changed and keeps its key
found_changed : {A K : Type 0} (R : K → K → Ordering) → CmpEqualImpliesEq R → (key : A → K) (j k : K) (x y : A) (xs : List A) → found R key j xs ≡ Some x → key y ≡ key x → is_eq (R j k) ≡ false → found R key k (exchanged R key y xs) ≡ found R key k xs
found_changed R exact key j k x y xs there keeps other =
    found_exchanged R exact key k y xs (ap (λ n. is_eq (R n k)) (keeps ∙ found_key R key exact j x xs there) ∙ other)

version_spared : (w : World) (object : Name) (f : Version → Version) → ((v : Version) → (f v).object ≡ v.object) → Spares (things.Version object ∷ []) w (with_book w (at_version (found name_cmp version_object object w.book.versions) f w.book))
version_spared w object f keeps = at (found name_cmp version_object object w.book.versions) refl
  where
    at : (o : Option Version) → found name_cmp version_object object w.book.versions ≡ o → Spares (things.Version object ∷ []) w (with_book w (at_version o f w.book))
    at None e = spares_same (things.Version object ∷ []) w
    at (Some v) e = only_versions w object (exchanged name_cmp version_object (f v) w.book.versions) (λ k other. found_changed name_cmp names_exact version_object object k v (f v) w.book.versions e (keeps v) other)

env_spared : (w : World) (name : List ℕ) (f : Env → Env) → ((e : Env) → (f e).name ≡ e.name) → Spares (things.Env name ∷ []) w (with_book w (at_env (found text_cmp env_name name w.book.environments) f w.book))
env_spared w name f keeps = at (found text_cmp env_name name w.book.environments) refl
  where
    at : (o : Option Env) → found text_cmp env_name name w.book.environments ≡ o → Spares (things.Env name ∷ []) w (with_book w (at_env o f w.book))
    at None e = spares_same (things.Env name ∷ []) w
    at (Some v) e = only_envs w name (exchanged text_cmp env_name (f v) w.book.environments) (λ k other. found_changed text_cmp exact_bytes env_name name k v (f v) w.book.environments e (keeps v) other)

pub table_spared : (w : World) (object : Name) → Spares (things.Version object ∷ []) w (with_book w (table_made w.book object))
table_spared w object = version_spared w object as_table (λ v. refl)

pub view_spared : (w : World) (object : Name) → Spares (things.Version object ∷ []) w (with_book w (view_made w.book object))
view_spared w object = version_spared w object as_view (λ v. refl)

pub marks_spared : (w : World) (object : Name) (marks : List ℤ) → Spares (things.Version object ∷ []) w (with_book w (record_marks w.book object marks))
marks_spared w object marks = version_spared w object (with_marks marks) (λ v. refl)

pub range_spared : (w : World) (object : Name) (start end : ℤ) → Spares (things.Version object ∷ []) w (with_book w (record_range w.book object start end))
range_spared w object start end = at (lt_z start end)
  where
    at : (b : Bool) → Spares (things.Version object ∷ []) w (with_book w (cond b (at_version (found name_cmp version_object object w.book.versions) (with_range start end) w.book) w.book))
    at true = version_spared w object (with_range start end) (λ v. refl)
    at false = spares_same (things.Version object ∷ []) w

pub final_spared : (w : World) (name : List ℕ) → Spares (things.Env name ∷ []) w (with_book w (finalize w.book name))
final_spared w name = env_spared w name as_final (λ e. refl)

pub expired_spared : (w : World) (name : List ℕ) → Spares (things.Env name ∷ []) w (with_book w (expire w.book name))
expired_spared w name = env_spared w name as_expired (λ e. refl)

pub forgotten_spared : (w : World) (object : Name) → Spares (things.Version object ∷ []) w (with_book w (forget_version w.book object))
forgotten_spared w object = only_versions w object (without name_cmp version_object object w.book.versions) (λ k other. found_without name_cmp names_exact version_object k object w.book.versions other)

pub snapshot_gone : (w : World) (r : Ref) → Spares (things.Snapshot r ∷ []) w (with_book w (delete_snapshot w.book r))
snapshot_gone w r = only_snapshots w r (without ref_cmp snapshot_ref r w.book.snapshots) (λ k other. found_without ref_cmp refs_exact snapshot_ref k r w.book.snapshots other)

pub env_gone : (w : World) (name : List ℕ) → Spares (things.Env name ∷ []) w (with_book w (delete_env w.book name))
env_gone w name = only_envs w name (without text_cmp env_name name w.book.environments) (λ k other. found_without text_cmp exact_bytes env_name k name w.book.environments other)

pub pending_spared : (w : World) (name : List ℕ) (list : List Ref) (expires : Option ℤ) → Spares (things.Env name ∷ []) w (with_book w (set_pending w.book name list expires))
pending_spared w name list expires =
    let e : Env = record { name = name; pending = true; list = list; previous = previous_of (found text_cmp env_name name w.book.environments); expires = expires } in
    only_envs w name (put text_cmp env_name e w.book.environments) (λ k other. found_put text_cmp exact_bytes env_name k e w.book.environments other)

-- a snapshot, and then the version of its object
joined_spared : (w : World) (object : Name) → Spares (things.Version object ∷ []) w (with_book w (record w.book { versions = with_version (found name_cmp version_object object w.book.versions) object w.book.versions }))
joined_spared w object = only_versions w object (with_version (found name_cmp version_object object w.book.versions) object w.book.versions) (λ k other. at k other (found name_cmp version_object object w.book.versions))
  where
    at : (k : Name) → is_eq (name_cmp object k) ≡ false → (o : Option Version) → found name_cmp version_object k (with_version o object w.book.versions) ≡ found name_cmp version_object k w.book.versions
    at k other None = found_beside name_cmp names_exact version_object k (new_version object) w.book.versions other
    at k other (Some v) = refl

pub snapshot_spared : (w : World) (s : Snapshot) → Spares (things.Snapshot (snapshot_ref s) ∷ things.Version s.object ∷ []) w (with_book w (put_snapshot w.book s))
snapshot_spared w s =
    let v : World = with_book w (record w.book { snapshots = put ref_cmp snapshot_ref s w.book.snapshots }) in
    spares_both (things.Snapshot (snapshot_ref s)) (things.Version s.object ∷ []) w v (with_book w (put_snapshot w.book s))
    (only_snapshots w (snapshot_ref s) (put ref_cmp snapshot_ref s w.book.snapshots) (λ k other. found_put ref_cmp refs_exact snapshot_ref k s w.book.snapshots other))
    (joined_spared v s.object)

source_spared : (w : World) (new : Input) → Spares (things.Source new.name ∷ []) w (cond (is_physical new.name) w (record w { sources = placed name_cmp input_name new w.sources }))
source_spared w new = at (is_physical new.name)
  where
    at : (b : Bool) → Spares (things.Source new.name ∷ []) w (cond b w (record w { sources = placed name_cmp input_name new w.sources }))
    at true = spares_same (things.Source new.name ∷ []) w
    at false = only_sources w new.name (placed name_cmp input_name new w.sources) (λ k other. found_beside name_cmp names_exact input_name k new w.sources other)

pub load_spared : (w : World) (name : Name) (columns : List Column) (rows : List (List Cell)) (keep : Bool) → Spares (things.Source name ∷ []) w (load w name columns rows keep)
load_spared w name columns rows keep = source_spared w (record { name = name; columns = columns; rows = kept_rows keep (source_at w name) ++ rows })

object_spared : (w : World) (o : Object) → Spares (things.Object o.name ∷ []) w (with_object w o)
object_spared w o = only_objects w o.name (placed name_cmp object_name o w.objects) (λ k other. found_beside name_cmp names_exact object_name k o w.objects other)

-- an object, and then its version
make_spared : (w : World) (o : Object) (b : Book) → Spares (things.Version o.name ∷ []) (with_object w o) (with_book (with_object w o) b) → Spares (things.Object o.name ∷ things.Version o.name ∷ []) w (make w o b)
make_spared w o b rest = at (is_physical o.name)
  where
    at : (t : Bool) → Spares (things.Object o.name ∷ things.Version o.name ∷ []) w (cond t (with_book (with_object w o) b) w)
    at true = spares_both (things.Object o.name) (things.Version o.name ∷ []) w (with_object w o) (with_book (with_object w o) b) (object_spared w o) rest
    at false = spares_same (things.Object o.name ∷ things.Version o.name ∷ []) w

pub table_made_spared : (w : World) (name : Name) (columns : List Column) → Spares (things.Object name ∷ things.Version name ∷ []) w (make_table w name columns)
table_made_spared w name columns =
    let o : Object = record { name = name; columns = columns; body = Rows [] } in
    make_spared w o (table_made w.book name) (table_spared (with_object w o) name)

pub view_made_spared : (w : World) (name : Name) (columns : List Column) (own : Own) (targets : List Pair) → Spares (things.Object name ∷ things.Version name ∷ []) w (make_view w name columns own targets)
view_made_spared w name columns own targets =
    let o : Object = record { name = name; columns = columns; body = Stored own targets } in
    make_spared w o (view_made w.book name) (view_spared (with_object w o) name)

pub rows_spared : (w : World) (name : Name) (rows : List (List Cell)) → Spares (things.Object name ∷ []) w (replace_rows w name rows)
rows_spared w name rows = at (object_at w name)
  where
    by_body : (b : Body) (columns : List Column) → Spares (things.Object name ∷ []) w (filled b columns w name rows)
    by_body (Rows old) columns = object_spared w (record { name = name; columns = columns; body = Rows rows })
    by_body (Stored own targets) columns = spares_same (things.Object name ∷ []) w

    at : (o : Option Object) → Spares (things.Object name ∷ []) w (filled_at o w name rows)
    at None = spares_same (things.Object name ∷ []) w
    at (Some o) = by_body o.body o.columns

-- an object of a world, by its name
found_at : (w : World) (name : Name) (o : Object) → object_at w name ≡ Some o → found name_cmp object_name name w.objects ≡ Some o
found_at w name o h = at (is_physical name) h
  where
    at : (b : Bool) → cond b (found name_cmp object_name name w.objects) None ≡ Some o → found name_cmp object_name name w.objects ≡ Some o
    at true e = e
    at false e = absurd cc

pub range_written_spared : (w : World) (name : Name) (time : List ℕ) (start end : ℤ) (rows : List (List Cell)) → Spares (things.Object name ∷ []) w (write_range w name time start end rows)
range_written_spared w name time start end rows = at (object_at w name) refl
  where
    at : (o : Option Object) → object_at w name ≡ o → Spares (things.Object name ∷ []) w (written_at o w time start end rows)
    at None e = spares_same (things.Object name ∷ []) w
    at (Some o) e =
        let new : Object = written_object o time start end rows in
        only_objects w name (exchanged name_cmp object_name new w.objects) (λ k other. found_changed name_cmp names_exact object_name name k o new w.objects (found_at w name o e) refl other)

pub pointed_spared : (w : World) (view target : Name) → Spares (things.View view ∷ []) w (point_view w view target)
pointed_spared w view target =
    let v : ViewOf = record { view = view; target = target } in
    only_views w view (placed name_cmp view_name v w.views) (λ k other. found_beside name_cmp names_exact view_name k v w.views other)

pub view_gone : (w : World) (view : Name) → Spares (things.View view ∷ []) w (drop_view w view)
view_gone w view = only_views w view (without name_cmp view_name view w.views) (λ k other. found_without name_cmp names_exact view_name k view w.views other)

pub object_gone : (w : World) (name : Name) → Spares (things.Object name ∷ []) w (drop_object w name)
object_gone w name = only_objects w name (without name_cmp object_name name w.objects) (λ k other. found_without name_cmp names_exact object_name k name w.objects other)

-- what is forgotten of objects, one after another
forget_spared : (w : World) (f : Forget) → Spares (forget_thing f ∷ []) w (with_book w (forget w.book f))
forget_spared w (Range object start end) = at (lt_z start end)
  where
    at : (b : Bool) → Spares (things.Version object ∷ []) w (with_book w (cond b (at_version (found name_cmp version_object object w.book.versions) (without_range start end) w.book) w.book))
    at true = version_spared w object (without_range start end) (λ v. refl)
    at false = spares_same (things.Version object ∷ []) w
forget_spared w (Marks object) = version_spared w object without_marks (λ v. refl)

pub units_spared : (w : World) (list : List Forget) → Spares (map forget_thing list) w (with_book w (forget_units w.book list))
units_spared w [] = spares_same [] w
units_spared w (f ∷ fs) =
    let v : World = with_book w (forget w.book f) in
    spares_both (forget_thing f) (map forget_thing fs) w v (with_book v (forget_units v.book fs)) (forget_spared w f) (units_spared v fs)
