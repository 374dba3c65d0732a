-- The lists of a world stay in order where it changes.
use Rattle.std.proofs.Common.{◌≡◌, ℕ, ℤ, Bool, true, false, cond, not, List, [], ◌∷◌, ◌++◌, Some, None, refl, ap, ◌∙◌, map}
use Rattle.std.specs.declared.option.Option.{Option}
use Rattle.std.specs.declared.cmp.Ordering.{Ordering}
use Rattle.std.specs.Cmp.{IsTotalOrder}
use Rattle.std.specs.Int.Signed.{lt_z}
use Rattle.std.proofs.lemmas.Bool.{and_from}
use Rattle.mesh_list.specs.Keyed.{ascends, below_first, exchanged, found, placed, without}
use Rattle.mesh_list.proofs.Ascends.{and_left, and_right, ascends-placed}
use Rattle.mesh_list.proofs.Standing.{ascends-exchanged, ascends-without}
use Rattle.mesh_base_values.specs.declared.values.Cell.{Cell}
use Rattle.mesh_base_values.specs.declared.values.Name.{Name}
use Rattle.mesh_base_values.specs.Names.{name_cmp, text_cmp}
use Rattle.mesh_base_values.specs.NameOrder.{names_exact, names_total, texts_total}
use Rattle.mesh_base.specs.declared.forgets.Forget.{Forget}
use Rattle.mesh_base.specs.declared.forgets.Forget.TheVariants.{Range, Marks}
use Rattle.mesh_base.specs.declared.forgets.Rename.{Rename}
use Rattle.mesh_base.specs.declared.jobs.Input.{Input}
use Rattle.mesh_base.specs.declared.snapshots.Env.{Env}
use Rattle.mesh_base.specs.declared.snapshots.Ref.{Ref}
use Rattle.mesh_base.specs.declared.snapshots.Snapshot.{Snapshot}
use Rattle.mesh_base.specs.Keys.{env_name, input_name, ref_cmp, refs_total, snapshot_ref}
use Rattle.mesh_house_book.specs.declared.book.Book.{Book}
use Rattle.mesh_house_book.specs.declared.versions.Version.{Version}
use Rattle.mesh_house_book.specs.Changes.{as_expired, as_final, as_table, as_view, at_env, at_version, make_table as table_made, make_view as view_made, new_version, previous_of, put, put_for, version_object, with_marks, with_range, with_version}
use Rattle.mesh_house_book.specs.moves.Forgets.{forget, forget_units, without_marks, without_range}
use Rattle.mesh_house_book.specs.moves.Renames.{has_twins, in_order, renamed_all, renamed_env}
use Rattle.mesh_house.specs.declared.objects.Body.{Body}
use Rattle.mesh_house.specs.declared.objects.Body.TheVariants.{Rows, Stored}
use Rattle.mesh_house.specs.declared.objects.Object.{Object}
use Rattle.mesh_house.specs.declared.world.ViewOf.{ViewOf}
use Rattle.mesh_house.specs.declared.world.World.{World}
use Rattle.mesh_house.specs.declared.world.Change.{Change}
use Rattle.mesh_house.specs.declared.world.Change.TheVariants.{Moment, Load, PutSnapshot, MakeTable, MakeView, ReplaceRows, WriteRange, RecordRange, RecordMarks, SetPending, PointView, DropView, Finalize, Expire, ForgetVersion, DropObject, DeleteSnapshot, DeleteEnv, ForgetUnits, Migrate}
use Rattle.mesh_house.specs.Objects.{is_physical, object_name}
use Rattle.mesh_house.specs.Step.{filled, filled_at, kept_rows, make, step, with_book, with_object, written_at, written_object}
use Rattle.mesh_house.specs.World.{object_at, source_at, view_name}
use Rattle.mesh_keep.specs.Holds.{IsOrdered}
use Rattle.mesh_keep_house.proofs.touched.Elsewhere.{all_exchanged, all_fewer, all_placed}

-- one list of a world is another one in order
with_snapshots : (w : World) (xs : List Snapshot) → IsOrdered w → ascends ref_cmp snapshot_ref xs ≡ true → IsOrdered (with_book w (record w.book { snapshots = xs }))
with_snapshots w xs o up = record { snapshots = up; versions = o.versions; environments = o.environments; views = o.views; objects = o.objects; sources = o.sources; physical = o.physical; plain = o.plain }

with_versions : (w : World) (xs : List Version) → IsOrdered w → ascends name_cmp version_object xs ≡ true → IsOrdered (with_book w (record w.book { versions = xs }))
with_versions w xs o up = record { snapshots = o.snapshots; versions = up; environments = o.environments; views = o.views; objects = o.objects; sources = o.sources; physical = o.physical; plain = o.plain }

with_envs : (w : World) (xs : List Env) → IsOrdered w → ascends text_cmp env_name xs ≡ true → IsOrdered (with_book w (record w.book { environments = xs }))
with_envs w xs o up = record { snapshots = o.snapshots; versions = o.versions; environments = up; views = o.views; objects = o.objects; sources = o.sources; physical = o.physical; plain = o.plain }

with_views : (w : World) (xs : List ViewOf) → IsOrdered w → ascends name_cmp view_name xs ≡ true → IsOrdered (record w { views = xs })
with_views w xs o up = record { snapshots = o.snapshots; versions = o.versions; environments = o.environments; views = up; objects = o.objects; sources = o.sources; physical = o.physical; plain = o.plain }

-- an item that takes the place of the one of its key, or joins the others
put_up : {A K : Type 0} (R : K → K → Ordering) → IsTotalOrder R → (key : A → K) (y : A) (xs : List A) → ascends R key xs ≡ true → ascends R key (put R key y xs) ≡ true
put_up {A = A} R total key y xs up = at (found R key (key y) xs)
  where
    at : (o : Option A) → ascends R key (put_for o R key y xs) ≡ true
    at None = ascends-placed R total key y xs up
    at (Some old) = ascends-exchanged R total key y xs up

version_ordered : (w : World) (o : Option Version) (f : Version → Version) → IsOrdered w → IsOrdered (with_book w (at_version o f w.book))
version_ordered w None f ord = ord
version_ordered w (Some v) f ord = with_versions w (exchanged name_cmp version_object (f v) w.book.versions) ord (ascends-exchanged name_cmp names_total version_object (f v) w.book.versions ord.versions)

env_ordered : (w : World) (o : Option Env) (f : Env → Env) → IsOrdered w → IsOrdered (with_book w (at_env o f w.book))
env_ordered w None f ord = ord
env_ordered w (Some e) f ord = with_envs w (exchanged text_cmp env_name (f e) w.book.environments) ord (ascends-exchanged text_cmp texts_total env_name (f e) w.book.environments ord.environments)

joined_up : (o : Option Version) (object : Name) (xs : List Version) → ascends name_cmp version_object xs ≡ true → ascends name_cmp version_object (with_version o object xs) ≡ true
joined_up None object xs up = ascends-placed name_cmp names_total version_object (new_version object) xs up
joined_up (Some v) object xs up = up

object_ordered : (w : World) (o : Object) → is_physical o.name ≡ true → IsOrdered w → IsOrdered (with_object w o)
object_ordered w o fits ord = record {
  snapshots = ord.snapshots;
  versions = ord.versions;
  environments = ord.environments;
  views = ord.views;
  sources = ord.sources;
  plain = ord.plain;
  objects = ascends-placed name_cmp names_total object_name o w.objects ord.objects;
  physical = all_placed name_cmp names_exact object_name is_physical o w.objects fits ∙ ord.physical;
}

-- an object, and then its version
make_ordered : (w : World) (o : Object) (b : Book) → (IsOrdered (with_object w o) → IsOrdered (with_book (with_object w o) b)) → IsOrdered w → IsOrdered (make w o b)
make_ordered w o b more ord = at (is_physical o.name) refl
  where
    at : (t : Bool) → is_physical o.name ≡ t → IsOrdered (cond t (with_book (with_object w o) b) w)
    at true e = more (object_ordered w o e ord)
    at false e = ord

-- an object of a world has a name that it may have
named_so : (w : World) (name : Name) (o : Object) → object_at w name ≡ Some o → is_physical name ≡ true
named_so w name o h = at (is_physical name) h
  where
    at : (b : Bool) → cond b (found name_cmp object_name name w.objects) None ≡ Some o → b ≡ true
    at true e = refl
    at false e = absurd cc

filled_ordered : (w : World) (name : Name) (rows : List (List Cell)) → IsOrdered w → (o : Option Object) → object_at w name ≡ o → IsOrdered (filled_at o w name rows)
filled_ordered w name rows ord None e = ord
filled_ordered w name rows ord (Some o) e = by_body o.body
  where
    by_body : (b : Body) → IsOrdered (filled b o.columns w name rows)
    by_body (Rows old) = object_ordered w (record { name = name; columns = o.columns; body = Rows rows }) (named_so w name o e) ord
    by_body (Stored own targets) = ord

written_ordered : (w : World) (o : Option Object) (time : List ℕ) (start end : ℤ) (rows : List (List Cell)) → IsOrdered w → IsOrdered (written_at o w time start end rows)
written_ordered w None time start end rows ord = ord
written_ordered w (Some o) time start end rows ord =
    let new : Object = written_object o time start end rows in
    record {
      snapshots = ord.snapshots;
      versions = ord.versions;
      environments = ord.environments;
      views = ord.views;
      sources = ord.sources;
      plain = ord.plain;
      objects = ascends-exchanged name_cmp names_total object_name new w.objects ord.objects;
      physical = all_exchanged name_cmp names_exact object_name is_physical new w.objects ∙ ord.physical;
    }

load_ordered : (w : World) (new : Input) → IsOrdered w → IsOrdered (cond (is_physical new.name) w (record w { sources = placed name_cmp input_name new w.sources }))
load_ordered w new ord = at (is_physical new.name) refl
  where
    at : (b : Bool) → is_physical new.name ≡ b → IsOrdered (cond b w (record w { sources = placed name_cmp input_name new w.sources }))
    at true e = ord
    at false e = record {
      snapshots = ord.snapshots;
      versions = ord.versions;
      environments = ord.environments;
      views = ord.views;
      objects = ord.objects;
      physical = ord.physical;
      sources = ascends-placed name_cmp names_total input_name new w.sources ord.sources;
      plain = all_placed name_cmp names_exact input_name (λ n. not (is_physical n)) new w.sources (ap not e) ∙ ord.plain;
    }

drop_ordered : (w : World) (name : Name) → IsOrdered w → IsOrdered (record w { objects = without name_cmp object_name name w.objects })
drop_ordered w name ord = record {
  snapshots = ord.snapshots;
  versions = ord.versions;
  environments = ord.environments;
  views = ord.views;
  sources = ord.sources;
  plain = ord.plain;
  objects = ascends-without name_cmp names_total object_name name w.objects ord.objects;
  physical = all_fewer name_cmp names_exact object_name is_physical name w.objects ord.physical;
}

forget_ordered : (w : World) (f : Forget) → IsOrdered w → IsOrdered (with_book w (forget w.book f))
forget_ordered w (Range object start end) ord = at (lt_z start end)
  where
    at : (b : Bool) → IsOrdered (with_book w (cond b (at_version (found name_cmp version_object object w.book.versions) (without_range start end) w.book) w.book))
    at true = version_ordered w (found name_cmp version_object object w.book.versions) (without_range start end) ord
    at false = ord
forget_ordered w (Marks object) ord = version_ordered w (found name_cmp version_object object w.book.versions) without_marks ord

units_ordered : (w : World) (list : List Forget) → IsOrdered w → IsOrdered (with_book w (forget_units w.book list))
units_ordered w [] ord = ord
units_ordered w (f ∷ fs) ord = units_ordered (with_book w (forget w.book f)) fs (forget_ordered w f ord)

-- snapshots in the order of their new fingerprints, and environments that keep their names
in_order_up : (xs : List Snapshot) → ascends ref_cmp snapshot_ref (in_order xs) ≡ true
in_order_up [] = refl
in_order_up (x ∷ xs) = ascends-placed ref_cmp refs_total snapshot_ref x (in_order xs) (in_order_up xs)

first_renamed : (renames : List Rename) (name : List ℕ) (es : List Env) → below_first text_cmp env_name name (map (renamed_env renames) es) ≡ below_first text_cmp env_name name es
first_renamed renames name [] = refl
first_renamed renames name (e ∷ es) = refl

renamed_up : (renames : List Rename) (es : List Env) → ascends text_cmp env_name es ≡ true → ascends text_cmp env_name (map (renamed_env renames) es) ≡ true
renamed_up renames [] up = refl
renamed_up renames (e ∷ es) up =
    and_from (below_first text_cmp env_name e.name (map (renamed_env renames) es)) (ascends text_cmp env_name (map (renamed_env renames) es))
    (first_renamed renames e.name es ∙ and_left (below_first text_cmp env_name e.name es) (ascends text_cmp env_name es) up)
    (renamed_up renames es (and_right (below_first text_cmp env_name e.name es) (ascends text_cmp env_name es) up))

abbrev after : Book → List Rename → Book
after b renames = record b { version = 2; snapshots = in_order (renamed_all renames b.snapshots); environments = map (renamed_env renames) b.environments }

moved_ordered : (w : World) (renames : List Rename) → IsOrdered w → IsOrdered (step w (Migrate renames))
moved_ordered w renames ord = at (has_twins (renamed_all renames w.book.snapshots))
  where
    at : (t : Bool) → IsOrdered (with_book w (cond t w.book (after w.book renames)))
    at true = ord
    at false = record {
      versions = ord.versions;
      views = ord.views;
      objects = ord.objects;
      sources = ord.sources;
      physical = ord.physical;
      plain = ord.plain;
      snapshots = in_order_up (renamed_all renames w.book.snapshots);
      environments = renamed_up renames w.book.environments ord.environments;
    }

pub step_ordered : (w : World) (c : Change) → IsOrdered w → IsOrdered (step w c)
step_ordered w (Moment t) o = record { snapshots = o.snapshots; versions = o.versions; environments = o.environments; views = o.views; objects = o.objects; sources = o.sources; physical = o.physical; plain = o.plain }
step_ordered w (Load name columns rows keep) o = load_ordered w (record { name = name; columns = columns; rows = kept_rows keep (source_at w name) ++ rows }) o
step_ordered w (PutSnapshot s) o =
    let v : World = with_book w (record w.book { snapshots = put ref_cmp snapshot_ref s w.book.snapshots }) in
    let p : IsOrdered v = with_snapshots w (put ref_cmp snapshot_ref s w.book.snapshots) o (put_up ref_cmp refs_total snapshot_ref s w.book.snapshots o.snapshots) in
    with_versions v (with_version (found name_cmp version_object s.object w.book.versions) s.object w.book.versions) p
    (joined_up (found name_cmp version_object s.object w.book.versions) s.object w.book.versions o.versions)
step_ordered w (MakeTable object columns) o =
    let t : Object = record { name = object; columns = columns; body = Rows [] } in
    make_ordered w t (table_made w.book object) (version_ordered (with_object w t) (found name_cmp version_object object w.book.versions) as_table) o
step_ordered w (MakeView object columns own targets) o =
    let t : Object = record { name = object; columns = columns; body = Stored own targets } in
    make_ordered w t (view_made w.book object) (version_ordered (with_object w t) (found name_cmp version_object object w.book.versions) as_view) o
step_ordered w (ReplaceRows object rows) o = filled_ordered w object rows o (object_at w object) refl
step_ordered w (WriteRange object time start end rows) o = written_ordered w (object_at w object) time start end rows o
step_ordered w (RecordRange object start end) o = at (lt_z start end)
  where
    at : (b : Bool) → IsOrdered (with_book w (cond b (at_version (found name_cmp version_object object w.book.versions) (with_range start end) w.book) w.book))
    at true = version_ordered w (found name_cmp version_object object w.book.versions) (with_range start end) o
    at false = o
step_ordered w (RecordMarks object marks) o = version_ordered w (found name_cmp version_object object w.book.versions) (with_marks marks) o
step_ordered w (SetPending env list expires) o =
    let e : Env = record { name = env; pending = true; list = list; previous = previous_of (found text_cmp env_name env w.book.environments); expires = expires } in
    with_envs w (put text_cmp env_name e w.book.environments) o (put_up text_cmp texts_total env_name e w.book.environments o.environments)
step_ordered w (PointView view target) o =
    let v : ViewOf = record { view = view; target = target } in
    with_views w (placed name_cmp view_name v w.views) o (ascends-placed name_cmp names_total view_name v w.views o.views)
step_ordered w (DropView view) o = with_views w (without name_cmp view_name view w.views) o (ascends-without name_cmp names_total view_name view w.views o.views)
step_ordered w (Finalize env) o = env_ordered w (found text_cmp env_name env w.book.environments) as_final o
step_ordered w (Expire env) o = env_ordered w (found text_cmp env_name env w.book.environments) as_expired o
step_ordered w (ForgetVersion object) o = with_versions w (without name_cmp version_object object w.book.versions) o (ascends-without name_cmp names_total version_object object w.book.versions o.versions)
step_ordered w (DropObject object) o = drop_ordered w object o
step_ordered w (DeleteSnapshot name fingerprint) o =
    let r : Ref = record { name = name; fingerprint = fingerprint } in
    with_snapshots w (without ref_cmp snapshot_ref r w.book.snapshots) o (ascends-without ref_cmp refs_total snapshot_ref r w.book.snapshots o.snapshots)
step_ordered w (DeleteEnv env) o = with_envs w (without text_cmp env_name env w.book.environments) o (ascends-without text_cmp texts_total env_name env w.book.environments o.environments)
step_ordered w (ForgetUnits list) o = units_ordered w list o
step_ordered w (Migrate renames) o = moved_ordered w renames o
