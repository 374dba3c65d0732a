-- A change leaves all but the things that it is about: a migration, and so every change.
use Rattle.std.proofs.Common.{◌≡◌, ℕ, Bool, true, false, cond, List, [], ◌∷◌, ◌++◌, Some, None, refl, sym, ◌∙◌, map}
use Rattle.std.specs.declared.option.Option.{Option}
use Rattle.std.specs.Ordering.{is_eq}
use Rattle.std.specs.Int.{int_max}
use Rattle.std.specs.Option.{option_map}
use Rattle.std.proofs.lemmas.Map.Lookups.{exact_bytes}
use Rattle.mesh_list.specs.Keyed.{found}
use Rattle.mesh_base_values.specs.Names.{text_cmp}
use Rattle.mesh_base.specs.declared.forgets.Rename.{Rename}
use Rattle.mesh_base.specs.declared.snapshots.Env.{Env}
use Rattle.mesh_base.specs.Keys.{env_name, ref_cmp, refs_exact, snapshot_ref}
use Rattle.mesh_house_book.specs.declared.book.Book.{Book}
use Rattle.mesh_house_book.specs.moves.Renames.{has_twins, in_order, renamed_all, renamed_env}
use Rattle.mesh_house.specs.declared.world.World.{World}
use Rattle.mesh_house.specs.declared.world.Change.{Change}
use Rattle.mesh_house.specs.declared.world.Change.TheVariants.{Moment, Load, PutSnapshot, MakeTable, MakeView, ReplaceRows, WriteRange, RecordRange, RecordMarks, SetPending, PointView, DropView, Finalize, Expire, ForgetVersion, DropObject, DeleteSnapshot, DeleteEnv, ForgetUnits, Migrate}
use Rattle.mesh_house.specs.Step.{step, with_book}
use Rattle.mesh_keep_house.specs.declared.touched.things.Thing.{Thing}
use Rattle.mesh_keep_house.specs.declared.touched.things.Thing.TheVariants as things
use Rattle.mesh_keep_house.specs.touched.Touched.{env_thing, moved_things, snapshot_thing, touched}
use Rattle.mesh_keep_house.proofs.touched.Spared.{Spares, head_untouched, none_touched, only_head, spares_same, touches, touches_parts}
use Rattle.mesh_keep_house.proofs.touched.Steps.{env_gone, expired_spared, final_spared, forgotten_spared, load_spared, marks_spared, object_gone, pending_spared, pointed_spared, range_spared, range_written_spared, rows_spared, snapshot_gone, snapshot_spared, table_made_spared, units_spared, view_gone, view_made_spared}

-- environments keep their names where their lists get new fingerprints
found_renamed : (renames : List Rename) (k : List ℕ) (es : List Env) → found text_cmp env_name k (map (renamed_env renames) es) ≡ option_map (renamed_env renames) (found text_cmp env_name k es)
found_renamed renames k [] = refl
found_renamed renames k (e ∷ es) = at (is_eq (text_cmp e.name k)) (found_renamed renames k es)
  where
    at : (b : Bool) → found text_cmp env_name k (map (renamed_env renames) es) ≡ option_map (renamed_env renames) (found text_cmp env_name k es) → cond b (Some (renamed_env renames e)) (found text_cmp env_name k (map (renamed_env renames) es)) ≡ option_map (renamed_env renames) (cond b (Some e) (found text_cmp env_name k es))
    at true more = refl
    at false more = more

none_before : {A B : Type 0} (f : A → B) (o : Option A) → option_map f o ≡ None → o ≡ None
none_before f None e = refl
none_before f (Some x) e = absurd cc

module _ (w : World) (renames : List Rename) where
  -- the book of a map that gives no two snapshots one name and one fingerprint
  abbrev after : Book
  after = record w.book {
    version = 2;
    snapshots = in_order (renamed_all renames w.book.snapshots);
    environments = map (renamed_env renames) w.book.environments;
  }

  abbrev all : Book → List Thing
  all b = map snapshot_thing w.book.snapshots ++ moved_things b

  behind : (u : Thing) → touches (all after) u ≡ false → (touches (map snapshot_thing w.book.snapshots) u ≡ false) × (touches (things.Head ∷ []) u ≡ false) × (touches (map snapshot_thing after.snapshots) u ≡ false) × (touches (map env_thing after.environments) u ≡ false)
  behind u h =
      let p = touches_parts (map snapshot_thing w.book.snapshots) (moved_things after) u h in
      let q = touches_parts (things.Head ∷ []) (map snapshot_thing after.snapshots ++ map env_thing after.environments) u p.1 in
      let r = touches_parts (map snapshot_thing after.snapshots) (map env_thing after.environments) u q.1 in
      (p.0, q.0, r.0, r.1)

  moved : Spares (all after) w (with_book w after)
  moved things.Head h = absurd (head_untouched [] (behind things.Head h).1)
  moved (things.Snapshot k) h =
      let p = behind (things.Snapshot k) h in
      none_touched ref_cmp refs_exact things.Snapshot snapshot_ref k after.snapshots p.2
      ∙ sym (none_touched ref_cmp refs_exact things.Snapshot snapshot_ref k w.book.snapshots p.0)
  moved (things.Version k) h = refl
  moved (things.Env k) h =
      let p = behind (things.Env k) h in
      let none : found text_cmp env_name k after.environments ≡ None = none_touched text_cmp exact_bytes things.Env env_name k after.environments p.3 in
      none ∙ sym (none_before (renamed_env renames) (found text_cmp env_name k w.book.environments) (sym (found_renamed renames k w.book.environments) ∙ none))
  moved (things.View k) h = refl
  moved (things.Object k) h = refl
  moved (things.Source k) h = refl

  pub moved_spared : Spares (touched w (Migrate renames)) w (step w (Migrate renames))
  moved_spared = at (has_twins (renamed_all renames w.book.snapshots))
    where
      at : (t : Bool) → Spares (all (cond t w.book after)) w (with_book w (cond t w.book after))
      at true = spares_same (all w.book) w
      at false = moved

pub spared : (w : World) (c : Change) → Spares (touched w c) w (step w c)
spared w (Moment t) = only_head w w.book.version (int_max w.book.moment t)
spared w (Load name columns rows keep) = load_spared w name columns rows keep
spared w (PutSnapshot snapshot) = snapshot_spared w snapshot
spared w (MakeTable object columns) = table_made_spared w object columns
spared w (MakeView object columns own targets) = view_made_spared w object columns own targets
spared w (ReplaceRows object rows) = rows_spared w object rows
spared w (WriteRange object time start end rows) = range_written_spared w object time start end rows
spared w (RecordRange object start end) = range_spared w object start end
spared w (RecordMarks object marks) = marks_spared w object marks
spared w (SetPending env list expires) = pending_spared w env list expires
spared w (PointView view target) = pointed_spared w view target
spared w (DropView view) = view_gone w view
spared w (Finalize env) = final_spared w env
spared w (Expire env) = expired_spared w env
spared w (ForgetVersion object) = forgotten_spared w object
spared w (DropObject object) = object_gone w object
spared w (DeleteSnapshot name fingerprint) = snapshot_gone w (record { name = name; fingerprint = fingerprint })
spared w (DeleteEnv env) = env_gone w env
spared w (ForgetUnits list) = units_spared w list
spared w (Migrate renames) = moved_spared w renames
