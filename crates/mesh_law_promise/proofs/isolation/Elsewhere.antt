-- What a change leaves of the environments, the views and the objects that it isn't about.
use Rattle.std.proofs.Common.{◌≡◌, ℕ, ℤ, Bool, true, false, cond, List, [], ◌∷◌, ◌++◌, Some, None, refl, sym, ◌∙◌, ap}
use Rattle.std.specs.Cmp.{Equal-is}
use Rattle.std.specs.Int.Signed.{lt_z}
use Rattle.std.specs.Ordering.{is_eq}
use Rattle.std.specs.declared.cmp.Ordering.{Ordering}
use Rattle.std.specs.declared.option.Option.{Option}
use Rattle.std.proofs.lemmas.Map.Lookups.{CmpEqualImpliesEq, exact_bytes}
use Rattle.mesh_list.specs.Keyed.{exchanged, found, placed, without}
use Rattle.mesh_list.proofs.Found.{found-placed}
use Rattle.mesh_base_values.specs.Names.{name_cmp, text_cmp}
use Rattle.mesh_base_values.specs.NameOrder.{names_exact}
use Rattle.mesh_base_values.specs.declared.values.Cell.{Cell}
use Rattle.mesh_base_values.specs.declared.values.Column.{Column}
use Rattle.mesh_base_values.specs.declared.values.Name.{Name}
use Rattle.mesh_base.specs.Keys.{env_name, input_name}
use Rattle.mesh_base.specs.declared.jobs.Input.{Input}
use Rattle.mesh_base.specs.declared.snapshots.Env.{Env}
use Rattle.mesh_base.specs.declared.snapshots.Ref.{Ref}
use Rattle.mesh_house_book.specs.Changes.{as_expired, as_final, as_table, as_view, at_env, at_version, make_table as table_made, make_view as view_made, previous_of, put, put_for, with_marks, with_range}
use Rattle.mesh_house_book.specs.declared.book.Book.{Book}
use Rattle.mesh_house_book.specs.declared.versions.Version.{Version}
use Rattle.mesh_house_book.proofs.Exchanged.{found_key}
use Rattle.mesh_house_book.proofs.moves.Changed.{all_forgotten_is}
use Rattle.mesh_house.specs.Objects.{is_physical, object_name}
use Rattle.mesh_house.specs.Step.{filled, filled_at, kept_rows, make, step, with_book, with_object, written_at, written_object}
use Rattle.mesh_house.specs.World.{object_at, source_at, target_of, version_of, view, view_name}
use Rattle.mesh_house.specs.declared.objects.Body.{Body}
use Rattle.mesh_house.specs.declared.objects.Body.TheVariants.{Rows, Stored}
use Rattle.mesh_house.specs.declared.objects.Object.{Object}
use Rattle.mesh_house.specs.declared.world.Change.{Change}
use Rattle.mesh_house.specs.declared.world.Change.TheVariants.{DropObject, DropView, ForgetUnits, Load, MakeTable, MakeView, Moment, PointView, PutSnapshot, RecordMarks, RecordRange, ReplaceRows, SetPending, WriteRange}
use Rattle.mesh_house.specs.declared.world.World.{World}
use Rattle.mesh_spec_changes.specs.Environments.{env_at}
use Rattle.mesh_spec_promise.proofs.Found.{found-exchanged}

-- keys that differ
module _ {K : Type 0} (R : K → K → Ordering) (exact : CmpEqualImpliesEq R) where
  pub differ : (j k : K) → (j ≡ k → ⊥) → is_eq (R j k) ≡ false
  differ j k other = go (is_eq (R j k)) refl
    where
      go : (b : Bool) → is_eq (R j k) ≡ b → b ≡ false
      go false e = refl
      go true e = absurd (other (exact j k ((Equal-is (R j k)).0 e)))

  -- what is found of another key stays where an item joins, takes the place of its own, or goes
  module _ {A : Type 0} (key : A → K) (k : K) where
    pub found_beside : (y : A) (xs : List A) → (key y ≡ k → ⊥) → found R key k (placed R key y xs) ≡ found R key k xs
    found_beside y xs other = found-placed R exact key y k xs ∙ ap (λ (b : Bool). cond b (Some y) (found R key k xs)) (differ (key y) k other)

    pub found_changed : (y old : A) (xs : List A) → found R key (key y) xs ≡ Some old → (key y ≡ k → ⊥) → found R key k (exchanged R key y xs) ≡ found R key k xs
    found_changed y old xs there other = found-exchanged R exact key y k old xs there ∙ ap (λ (b : Bool). cond b (Some y) (found R key k xs)) (differ (key y) k other)

    pub found_put : (y : A) (xs : List A) → (key y ≡ k → ⊥) → found R key k (put R key y xs) ≡ found R key k xs
    found_put y xs other = go (found R key (key y) xs) refl
      where
        go : (o : Option A) → found R key (key y) xs ≡ o → found R key k (put_for o R key y xs) ≡ found R key k xs
        go None e = found_beside y xs other
        go (Some old) e = found_changed y old xs e other

    pub found_without : (j : K) (xs : List A) → (j ≡ k → ⊥) → found R key k (without R key j xs) ≡ found R key k xs
    found_without j [] other = refl
    found_without j (x ∷ xs) other = go (is_eq (R (key x) j)) refl (found_without j xs other)
      where
        go : (b : Bool) → is_eq (R (key x) j) ≡ b → found R key k (without R key j xs) ≡ found R key k xs
            → found R key k (cond b xs (x ∷ without R key j xs)) ≡ cond (is_eq (R (key x) k)) (Some x) (found R key k xs)
        go true e more =
            let same : key x ≡ j = exact (key x) j ((Equal-is (R (key x) j)).0 e) in
            sym (ap (λ (b : Bool). cond b (Some x) (found R key k xs)) (differ (key x) k (λ is. other (sym same ∙ is))))
        go false e more = ap (cond (is_eq (R (key x) k)) (Some x)) more

-- an object that is found has its name
pub named_found : (w : World) (name : Name) (o : Object) → object_at w name ≡ Some o → (o.name ≡ name) × (found name_cmp object_name name w.objects ≡ Some o)
named_found w name o e = let f = go (is_physical name) e in (found_key name_cmp object_name names_exact name o w.objects f, f)
  where
    go : (b : Bool) → cond b (found name_cmp object_name name w.objects) None ≡ Some o → found name_cmp object_name name w.objects ≡ Some o
    go true f = f
    go false f = absurd (let g : None ≡ Some o = f in cc)

-- the environments of a book where one of them changes
module _ (b : Book) (name k : List ℕ) (other : name ≡ k → ⊥) where
  at_env_other : (f : Env → Env) → ((e : Env) → (f e).name ≡ e.name) → (o : Option Env) → env_at b name ≡ o → env_at (at_env o f b) k ≡ env_at b k
  at_env_other f keeps None e = refl
  at_env_other f keeps (Some old) e =
      let named : (f old).name ≡ name = keeps old ∙ found_key text_cmp env_name exact_bytes name old b.environments e in
      found_changed text_cmp exact_bytes env_name k (f old) old b.environments (ap (λ (n : List ℕ). found text_cmp env_name n b.environments) named ∙ e) (λ is. other (sym named ∙ is))

  pub finalized_other : env_at (at_env (env_at b name) as_final b) k ≡ env_at b k
  finalized_other = at_env_other as_final (λ e. refl) (env_at b name) refl

  pub expired_other : env_at (at_env (env_at b name) as_expired b) k ≡ env_at b k
  expired_other = at_env_other as_expired (λ e. refl) (env_at b name) refl

  pub pending_other : (list : List Ref) (expires : Option ℤ) (w : World) → w.book ≡ b → env_at (step w (SetPending name list expires)).book k ≡ env_at w.book k
  pending_other list expires w is =
      let new : Env = record { name = name; pending = true; list = list; previous = previous_of (found text_cmp env_name name w.book.environments); expires = expires } in
      found_put text_cmp exact_bytes env_name k new w.book.environments other

-- the views of a world where one of them changes
module _ (w : World) (name k : Name) (other : name ≡ k → ⊥) where
  pub pointed_other : (target : Name) → view (step w (PointView name target)) k ≡ view w k
  pointed_other target = ap target_of (found_beside name_cmp names_exact view_name k (record { view = name; target = target }) w.views other)

  pub dropped_other : view (step w (DropView name)) k ≡ view w k
  dropped_other = ap target_of (found_without name_cmp names_exact view_name k name w.views other)

-- changes of tables, sources and snapshots, and of what is recorded
abbrev pub IsOfTables : Change → Type 0
IsOfTables (Moment t) = Unit {0}
IsOfTables (Load name columns rows keep) = Unit {0}
IsOfTables (PutSnapshot s) = Unit {0}
IsOfTables (ForgetUnits list) = Unit {0}
IsOfTables (MakeTable object columns) = Unit {0}
IsOfTables (MakeView object columns own targets) = Unit {0}
IsOfTables (ReplaceRows object rows) = Unit {0}
IsOfTables (WriteRange object time start end rows) = Unit {0}
IsOfTables (RecordRange object start end) = Unit {0}
IsOfTables (RecordMarks object marks) = Unit {0}
IsOfTables other = ⊥

-- a world has the environments and the views of another
abbrev pub HasEnvs : World → World → Type 0
HasEnvs w v = (v.book.environments ≡ w.book.environments) × (v.views ≡ w.views)

version_alone : (w : World) (o : Option Version) (f : Version → Version) → (at_version o f w.book).environments ≡ w.book.environments
version_alone w None f = refl
version_alone w (Some v) f = refl

make_alone : (w : World) (o : Object) (b : Book) → b.environments ≡ w.book.environments → HasEnvs w (make w o b)
make_alone w o b same = go (is_physical o.name)
  where
    go : (t : Bool) → HasEnvs w (cond t (with_book (with_object w o) b) w)
    go true = (same, refl)
    go false = (refl, refl)

-- these change neither environments nor views
pub tables_alone : (w : World) (c : Change) → IsOfTables c → HasEnvs w (step w c)
tables_alone w (Moment t) h = (refl, refl)
tables_alone w (Load name columns rows keep) h =
    let source : Input = record { name = name; columns = columns; rows = kept_rows keep (source_at w name) ++ rows } in
    go (is_physical name) (record w { sources = placed name_cmp input_name source w.sources }) (refl, refl)
  where
    go : (b : Bool) (v : World) → HasEnvs w v → HasEnvs w (cond b w v)
    go true v h = (refl, refl)
    go false v h = h
tables_alone w (PutSnapshot s) h = (refl, refl)
tables_alone w (ForgetUnits list) h = (ap (λ (c : Book). c.environments) (sym (all_forgotten_is w.book list)), refl)
tables_alone w (MakeTable object columns) h =
    make_alone w (record { name = object; columns = columns; body = Rows [] }) (table_made w.book object) (version_alone w (version_of w.book object) as_table)
tables_alone w (MakeView object columns own targets) h =
    make_alone w (record { name = object; columns = columns; body = Stored own targets }) (view_made w.book object) (version_alone w (version_of w.book object) as_view)
tables_alone w (ReplaceRows object rows) h = go (object_at w object)
  where
    bodied : (columns : List Column) (b : Body) → HasEnvs w (filled b columns w object rows)
    bodied columns (Rows old) = (refl, refl)
    bodied columns (Stored own targets) = (refl, refl)

    go : (o : Option Object) → HasEnvs w (filled_at o w object rows)
    go None = (refl, refl)
    go (Some o) = bodied o.columns o.body
tables_alone w (WriteRange object time start end rows) h = go (object_at w object)
  where
    go : (o : Option Object) → HasEnvs w (written_at o w time start end rows)
    go None = (refl, refl)
    go (Some o) = (refl, refl)
tables_alone w (RecordRange object start end) h = go (lt_z start end)
  where
    go : (b : Bool) → HasEnvs w (with_book w (cond b (at_version (version_of w.book object) (with_range start end) w.book) w.book))
    go true = (version_alone w (version_of w.book object) (with_range start end), refl)
    go false = (refl, refl)
tables_alone w (RecordMarks object marks) h = (version_alone w (version_of w.book object) (with_marks marks), refl)
tables_alone w other h = absurd h

-- changes of other objects than this one, and of no object
abbrev pub IsElsewhere : Name → Change → Type 0
IsElsewhere name (MakeTable object columns) = object ≡ name → ⊥
IsElsewhere name (MakeView object columns own targets) = object ≡ name → ⊥
IsElsewhere name (ReplaceRows object rows) = object ≡ name → ⊥
IsElsewhere name (WriteRange object time start end rows) = object ≡ name → ⊥
IsElsewhere name (DropObject object) = ⊥
IsElsewhere name other = Unit {0}

-- they leave it
module _ (w : World) (name : Name) where
  abbrev Stays : World → Type 0
  Stays v = object_at v name ≡ object_at w name

  by_found : (v : World) → found name_cmp object_name name v.objects ≡ found name_cmp object_name name w.objects → Stays v
  by_found v same = ap (λ (o : Option Object). cond (is_physical name) o None) same

  one_put : (o : Object) → (o.name ≡ name → ⊥) → Stays (with_object w o)
  one_put o other = by_found (with_object w o) (found_beside name_cmp names_exact object_name name o w.objects other)

  one_made : (o : Object) (b : Book) → (o.name ≡ name → ⊥) → Stays (make w o b)
  one_made o b other = go (is_physical o.name)
    where
      go : (t : Bool) → Stays (cond t (with_book (with_object w o) b) w)
      go true = one_put o other
      go false = refl

  one_written : (object : Name) (time : List ℕ) (start end : ℤ) (rows : List (List Cell)) → (object ≡ name → ⊥) → Stays (step w (WriteRange object time start end rows))
  one_written object time start end rows other = go (object_at w object) refl
    where
      go : (o : Option Object) → object_at w object ≡ o → Stays (written_at o w time start end rows)
      go None e = refl
      go (Some o) e =
          let (named, there) = named_found w object o e in
          by_found (written_at (Some o) w time start end rows)
          (found_changed name_cmp names_exact object_name name (written_object o time start end rows) o w.objects
          (ap (λ (n : Name). found name_cmp object_name n w.objects) named ∙ there) (λ is. other (sym named ∙ is)))

  one_filled : (object : Name) (rows : List (List Cell)) → (object ≡ name → ⊥) → Stays (step w (ReplaceRows object rows))
  one_filled object rows other = go (object_at w object)
    where
      bodied : (columns : List Column) (b : Body) → Stays (filled b columns w object rows)
      bodied columns (Rows old) = one_put (record { name = object; columns = columns; body = Rows rows }) other
      bodied columns (Stored own targets) = refl

      go : (o : Option Object) → Stays (filled_at o w object rows)
      go None = refl
      go (Some o) = bodied o.columns o.body

  one_loaded : (source : Name) (ss : List Input) → Stays (cond (is_physical source) w (record w { sources = ss }))
  one_loaded source ss = go (is_physical source)
    where
      go : (t : Bool) → Stays (cond t w (record w { sources = ss }))
      go true = refl
      go false = refl

  pub object_other : (c : Change) → IsElsewhere name c → Stays (step w c)
  object_other (Moment t) h = refl
  object_other (Load source columns rows keep) h =
      one_loaded source (placed name_cmp input_name (record { name = source; columns = columns; rows = kept_rows keep (source_at w source) ++ rows }) w.sources)
  object_other (MakeTable object columns) h = one_made (record { name = object; columns = columns; body = Rows [] }) (table_made w.book object) h
  object_other (MakeView object columns own targets) h = one_made (record { name = object; columns = columns; body = Stored own targets }) (view_made w.book object) h
  object_other (ReplaceRows object rows) h = one_filled object rows h
  object_other (WriteRange object time start end rows) h = one_written object time start end rows h
  object_other (DropObject object) h = absurd h
  object_other other h = refl
