-- What a snapshot's object shows, where it and all that it stands on are up to date: its rows from scratch.
use Rattle.std.proofs.Common.{◌≡◌, ℕ, zero, suc, ◌<◌, Bool, true, false, cond, List, [], ◌∷◌, ◌++◌, map, Some, None, refl, sym, ◌∙◌, ap, subst, arith}
use Rattle.std.proofs.lemmas.List.{map-append}
use Rattle.std.specs.declared.option.Option.{Option}
use Rattle.std.specs.List.{AllZip, Contains, find, slice_index_or}
use Rattle.std.specs.Option.{option_map, option_and_then, option_to_list}
use Rattle.std.specs.Ordering.{is_eq}
use Rattle.mesh_base_values.specs.Bag.{IsSameBag}
use Rattle.mesh_base_values.specs.Names.{name_cmp}
use Rattle.mesh_base.specs.Outputs.{columns_of}
use Rattle.mesh_base_values.specs.declared.values.Cell.{Cell}
use Rattle.mesh_base_values.specs.declared.values.Name.{Name}
use Rattle.mesh_base_values.specs.declared.values.Pair.{Pair}
use Rattle.mesh_base.specs.declared.jobs.Input.{Input}
use Rattle.mesh_base_values.specs.declared.kinds.Kind.{Kind}
use Rattle.mesh_base_values.specs.declared.kinds.Kind.TheVariants.{Full, View, Seed as SeedKind, Incremental}
use Rattle.mesh_base.specs.declared.definitions.Defn.{Defn}
use Rattle.mesh_base.specs.declared.definitions.Defn.TheVariants.{Seed, Sql}
use Rattle.mesh_base.specs.declared.definitions.Own.{Own}
use Rattle.mesh_base.specs.declared.queries.Query.{Query}
use Rattle.mesh_base.specs.declared.snapshots.Ref.{Ref}
use Rattle.mesh_base.specs.declared.snapshots.Snapshot.{Snapshot}
use Rattle.mesh_base.specs.rules.Proper.{is_body_of, is_body_seen}
use Rattle.mesh_base.specs.rules.Relations.{parent_relation, read_relations, source_relation}
use Rattle.mesh_base.specs.rules.Seen.{or_no_columns}
use Rattle.mesh_spec_query.specs.Sel.{Sel}
use Rattle.mesh_house_book.specs.WellFormed.{snapshot_at, parents_of}
use Rattle.mesh_spec_model.specs.Closures.{own_of, with_parent}
use Rattle.mesh_spec_model.specs.Horizons.{Clock, Shows as ShowsMoment}
use Rattle.mesh_spec_model.specs.Sources.{declared}
use Rattle.mesh_spec_model.specs.Scratch.{from_scratch, tables, table_of, no_bounds}
use Rattle.mesh_spec_model.proofs.Rows.{views}
use Rattle.mesh_law_query.specs.Alike.{names, IsSameTable}
use Rattle.mesh_law_query.proofs.Lists.{Each}
use Rattle.mesh_law_query.proofs.Zips.{zip_append, zip_itself}
use Rattle.mesh_law_query.proofs.Bags.{sel_bag}
use Rattle.mesh_house.specs.declared.objects.Body.{Body}
use Rattle.mesh_house.specs.declared.objects.Body.TheVariants.{Rows, Stored}
use Rattle.mesh_house.specs.declared.objects.Object.{Object}
use Rattle.mesh_house.specs.declared.world.World.{World}
use Rattle.mesh_house.specs.World.{object_at, columns_of as columns_at, body_of, rows_of}
use Rattle.mesh_spec_changes.specs.listed.Closing.{closing, parents_by, IsSnapshot}
use Rattle.mesh_spec_promise.specs.Current.{IsRecorded, IsCurrent, AllCurrent, current}
use Rattle.mesh_spec_changes.specs.due.Parts.{Parts}
use Rattle.mesh_spec_changes.specs.shown.Shown.{each_there, target_table, stored_relations, stored_rows, body_rows, rows_through, object_rows, target_relation, is_query_there}
use Rattle.mesh_spec_promise.specs.Sound.{Sound, IsMade, IsBodyOf, IsTableSound, table_rows, parent_objects}
use Rattle.mesh_law_query.proofs.Has.{Has_from}
use Rattle.mesh_base.specs.declared.rules.relations.Relation.{Relation}
use Rattle.mesh_spec_changes.proofs.listed.Books.{fits, its_ref}
use Rattle.mesh_spec_promise.proofs.Fits.{its_body, its_names, its_rank}
use Rattle.mesh_spec_changes.proofs.listed.Depths.{closing_is}
use Rattle.mesh_spec_promise.proofs.Tables.{closed_own, table_shown, table_held, each_member}
use Rattle.mesh_spec_promise.proofs.There.{relation_name, seen_there}

-- tables of one name, with the same columns and one bag of rows
pub record IsOne (x y : Input) : Type 0 where
  pub name : x.name ≡ y.name
  pub columns : x.columns ≡ y.columns
  pub rows : IsSameBag x.rows y.rows

pub found_one : (name : Name) (xs ys : List Input) → AllZip IsOne xs ys → IsSameTable (find (λ input. is_eq (name_cmp input.name name)) xs) (find (λ input. is_eq (name_cmp input.name name)) ys)
found_one name [] [] z = (refl, λ row. refl)
found_one name [] (y ∷ ys) z = absurd z
found_one name (x ∷ xs) [] z = absurd z
found_one name (x ∷ xs) (y ∷ ys) z = go (is_eq (name_cmp x.name name)) (is_eq (name_cmp y.name name)) (ap (λ n. is_eq (name_cmp n name)) z.0.name) (found_one name xs ys z.1)
  where
    go : (b c : Bool) → b ≡ c → IsSameTable (find (λ input. is_eq (name_cmp input.name name)) xs) (find (λ input. is_eq (name_cmp input.name name)) ys)
        → IsSameTable (cond b (Some x) (find (λ input. is_eq (name_cmp input.name name)) xs)) (cond c (Some y) (find (λ input. is_eq (name_cmp input.name name)) ys))
    go true true e h = (z.0.columns, z.0.rows)
    go false false e h = h
    go true false e h = absurd (cc)
    go false true e h = absurd (cc)

pub itself : (x : Input) → IsOne x x
itself x = record { name = refl; columns = refl; rows = λ row. refl }

-- what a parent's object shows are the parent's rows from scratch
record Shows (w : World) (clock : Clock) (below : Name → Option (List (List Cell))) (r : Ref) : Type 0 where
  snapshot : Snapshot
  known : snapshot_at w.book.snapshots r ≡ Some snapshot
  name : snapshot.own.name ≡ r.name
  rows : List (List Cell)
  shown : below snapshot.object ≡ Some rows
  same : IsSameBag rows (from_scratch w.sources clock (closing w.book.snapshots snapshot))
  columns : or_no_columns (columns_at (object_at w snapshot.object)) ≡ columns_of snapshot.own

module _ (w : World) (clock : Clock) (below : Name → Option (List (List Cell))) where
  abbrev Tables : List Ref → Type 0
  Tables refs =
      (ts : List Input) × (each_there (map (target_table below w) (parent_objects w.book.snapshots refs)) ≡ Some ts)
      × AllZip IsOne ts (tables w.sources clock (parents_by (closing w.book.snapshots) w.book.snapshots refs))

  one_shown : (r : Ref) (rs : List Ref) → Shows w clock below r → Tables rs → Tables (r ∷ rs)
  one_shown r rs h (ts, there, z) =
      let p = h.snapshot in
      let c = closing w.book.snapshots p in
      let own_is : own_of c ≡ p.own = ap own_of (closed_own w.book.snapshots p.rank p).1 in
      let t : Input = record { name = r.name; columns = columns_of p.own; rows = h.rows } in
      let target : target_table below w (record { first = r.name; second = p.object }) ≡ Some t =
      (λ i. option_map (λ rows. record { name = r.name; columns = h.columns i; rows = rows }) (h.shown i)) in
      let first : each_there (map (target_table below w) (parent_objects w.book.snapshots (r ∷ rs)))
      ≡ each_there (target_table below w (record { first = r.name; second = p.object }) ∷ map (target_table below w) (parent_objects w.book.snapshots rs)) =
      ap (λ (o : Option Snapshot). each_there (map (target_table below w) (map (λ (s : Snapshot). record { first = r.name; second = s.object }) (option_to_list o) ++ parent_objects w.book.snapshots rs))) h.known in
      let all : each_there (map (target_table below w) (parent_objects w.book.snapshots (r ∷ rs))) ≡ Some (t ∷ ts) =
      first ∙ (λ i. option_and_then (λ x. option_map (λ xs. x ∷ xs) (there i)) (target i)) in
      let parents : tables w.sources clock (parents_by (closing w.book.snapshots) w.book.snapshots (r ∷ rs))
      ≡ table_of (own_of c) (from_scratch w.sources clock c) ∷ tables w.sources clock (parents_by (closing w.book.snapshots) w.book.snapshots rs) =
      ap (λ (o : Option Snapshot). tables w.sources clock (with_parent (option_map (closing w.book.snapshots) o) (parents_by (closing w.book.snapshots) w.book.snapshots rs))) h.known in
      let one : IsOne t (table_of (own_of c) (from_scratch w.sources clock c)) =
      record { name = sym h.name ∙ ap (λ (o : Own). o.name) (sym own_is); columns = ap columns_of (sym own_is); rows = h.same } in
      (t ∷ ts, all, subst (λ (us : List Input). AllZip IsOne (t ∷ ts) us) (sym parents) (one, z))

  tables_shown : (refs : List Ref) → Each (Shows w clock below) refs → Tables refs
  tables_shown [] h = ([], refl, tt)
  tables_shown (r ∷ rs) h = one_shown r rs h.0 (tables_shown rs h.1)

  -- parents are named alike as relations and as targets
  targets_named : (refs : List Ref) → Each (Shows w clock below) refs → map relation_name (map parent_relation (parents_of w.book.snapshots refs)) ≡ map relation_name (map target_relation (parent_objects w.book.snapshots refs))
  targets_named [] h = refl
  targets_named (r ∷ rs) h =
      (λ i. r.name ∷ targets_named rs h.1 i)
      ∙ sym (ap (λ (o : Option Snapshot). map relation_name (map target_relation (map (λ (s : Snapshot). record { first = r.name; second = s.object }) (option_to_list o) ++ parent_objects w.book.snapshots rs))) h.0.known)

pub each_holds : {X : Type 0} (P : X → Type 0) (xs : List X) → Each P xs → (x : X) → Contains xs x → P x
each_holds P [] h x (k, l, e) = absurd (omega (arith, l))
each_holds P (y ∷ ys) h x (zero, l, e) = subst P e h.0
each_holds P (y ∷ ys) h x (suc k, l, e) = each_holds P ys h.1 x (k, omega (arith, l), e)

-- what stands behind a snapshot that is no view is a table
pub tabular : (all : List Snapshot) (s : Snapshot) (kind : Kind) → (kind ≡ View → ⊥) → (b : Body) → IsBodyOf all s kind b → (rows : List (List Cell)) × (b ≡ Rows rows)
tabular all s View other b h = absurd (other refl)
tabular all s Full other (Rows rows) h = (rows, refl)
tabular all s Full other (Stored own targets) h = absurd h
tabular all s SeedKind other (Rows rows) h = (rows, refl)
tabular all s SeedKind other (Stored own targets) h = absurd h
tabular all s (Incremental time lookback) other (Rows rows) h = (rows, refl)
tabular all s (Incremental time lookback) other (Stored own targets) h = absurd h

module _ (x : Parts) (w : World) (clock : Clock) (sound : Sound x w) (now : ShowsMoment clock w.book.moment) where
  abbrev Scratched : ℕ → Snapshot → Type 0
  Scratched depth s = (rows : List (List Cell)) × (rows_through depth w s.object ≡ Some rows) × IsSameBag rows (from_scratch w.sources clock (closing w.book.snapshots s))

  known_of : {s : Snapshot} → AllCurrent clock x w.book s → IsSnapshot w.book.snapshots s
  known_of (current s known now_is above) = known

  current_of : {s : Snapshot} → AllCurrent clock x w.book s → IsCurrent clock x w.book s
  current_of (current s known now_is above) = now_is

  above_of : {s : Snapshot} → AllCurrent clock x w.book s → (r : Ref) → Contains s.parents r → (p : Snapshot) → snapshot_at w.book.snapshots r ≡ Some p → AllCurrent clock x w.book p
  above_of (current s known now_is above) = above

  made_of : (s : Snapshot) → IsSnapshot w.book.snapshots s → IsCurrent clock x w.book s → IsMade w s
  made_of s known c = sound.objects.made s known c.version c.known c.made

  body_is : (s : Snapshot) (known : IsSnapshot w.book.snapshots s) (c : IsCurrent clock x w.book s) → IsBodyOf w.book.snapshots s s.own.kind (made_of s known c).object.body
  body_is s known c = sound.objects.bodies s known (made_of s known c).object (made_of s known c).stands

  of_table : (depth : ℕ) (s : Snapshot) → IsSnapshot w.book.snapshots s → IsCurrent clock x w.book s → (kind : Kind) → s.own.kind ≡ kind → (kind ≡ View → ⊥) → Scratched depth s
  of_table depth s known c kind e other =
      let made = made_of s known c in
      let P : Kind → Type 0 = λ k. IsBodyOf w.book.snapshots s k made.object.body in
      let table = tabular w.book.snapshots s kind other made.object.body (subst P e (body_is s known c)) in
      let at : table_rows w s.object ≡ Some table.0 = ap (λ (o : Option Object). rows_of (body_of o)) made.stands ∙ ap (λ (b : Body). rows_of (Some b)) table.1 in (
        table.0,
        table_shown depth w s.object table.0 at,
        table_held clock x w s c.version c.made table.0 at kind e other
            (subst (λ (k : Kind). is_body_of k s.own.defn ≡ true) e (its_body w.book s sound.book.well_formed known))
            (subst (λ (k : Kind). IsTableSound clock x w s c.version k) e (sound.tables clock now s known c.version c.known))
            (subst (λ (k : Kind). IsRecorded clock x s (closing w.book.snapshots s) c.version k) e c.recorded),
      )

  -- the rows of a view, by what its parents show
  module _ (depth : ℕ) (s : Snapshot) (known : IsSnapshot w.book.snapshots s) (c : IsCurrent clock x w.book s) (e : s.own.kind ≡ View) (shows : Each (Shows w clock (rows_through depth w)) s.parents) where
    abbrev below : Name → Option (List (List Cell))
    below = rows_through depth w

    abbrev objects : List Pair
    objects = parent_objects w.book.snapshots s.parents

    abbrev read : List Input
    read = (tables_shown w clock below s.parents shows).0

    abbrev own_sources : List Input
    own_sources = map (declared w.sources) s.own.sources

    abbrev scratch_tables : List Input
    scratch_tables = tables w.sources clock (parents_by (closing w.book.snapshots) w.book.snapshots s.parents)

    abbrev parent_names : List Relation
    parent_names = map parent_relation (parents_of w.book.snapshots s.parents)

    there : (q : Query) → s.own.defn ≡ Sql q → is_query_there (stored_relations s.own objects) q ≡ true
    there q is =
        let declared_names : List Relation = map source_relation s.own.sources in
        let names : map relation_name (declared_names ++ parent_names) ≡ map relation_name (declared_names ++ map target_relation objects) =
        map-append relation_name declared_names parent_names
        ∙ ap (λ (l : List Name). map relation_name declared_names ++ l) (targets_named w clock below s.parents shows)
        ∙ sym (map-append relation_name declared_names (map target_relation objects)) in
        seen_there (declared_names ++ parent_names) (declared_names ++ map target_relation objects) names q
        (subst (λ (d : Defn). is_body_seen (read_relations s.own.sources (parents_of w.book.snapshots s.parents)) d ≡ true) is (its_names w.book s sound.book.well_formed known))

    answered : (q : Query) → s.own.defn ≡ Sql q
        → stored_rows s.own objects s.own.defn w.sources (each_there (map (target_table below w) objects)) ≡ Some (Sel q (own_sources ++ read) no_bounds)
    answered q is =
        ap (λ (d : Defn). stored_rows s.own objects d w.sources (each_there (map (target_table below w) objects))) is
        ∙ ap (λ (b : Bool). cond b (option_map (λ ts. Sel q (own_sources ++ ts) no_bounds) (each_there (map (target_table below w) objects))) None) (there q is)
        ∙ ap (option_map (λ ts. Sel q (own_sources ++ ts) no_bounds)) (tables_shown w clock below s.parents shows).1

    stored : (b : Body) → IsBodyOf w.book.snapshots s View b → body_rows below w b ≡ stored_rows s.own objects s.own.defn w.sources (each_there (map (target_table below w) objects))
    stored (Rows rows) h = absurd h
    stored (Stored own targets) h = λ i. stored_rows (h.0 i) (h.1 i) (h.0 i).defn w.sources (each_there (map (target_table below w) (h.1 i)))

    shown_is : (q : Query) → s.own.defn ≡ Sql q → rows_through (suc depth) w s.object ≡ Some (Sel q (own_sources ++ read) no_bounds)
    shown_is q is =
        let made = made_of s known c in
        let P : Kind → Type 0 = λ k. IsBodyOf w.book.snapshots s k made.object.body in
        ap (λ (o : Option Object). option_and_then (body_rows below w) (body_of o)) made.stands
        ∙ stored made.object.body (subst P e (body_is s known c))
        ∙ answered q is

    scratched : (q : Query) → s.own.defn ≡ Sql q → IsSameBag (Sel q (own_sources ++ read) no_bounds) (from_scratch w.sources clock (closing w.book.snapshots s))
    scratched q is =
        let parents = parents_by (closing w.book.snapshots) w.book.snapshots s.parents in
        let z : AllZip IsOne (own_sources ++ read) (own_sources ++ scratch_tables) =
        zip_append IsOne own_sources own_sources read scratch_tables (zip_itself IsOne itself own_sources) (tables_shown w clock below s.parents shows).2 in
        let same : IsSameBag (Sel q (own_sources ++ read) no_bounds) (Sel q (own_sources ++ scratch_tables) no_bounds) =
        sel_bag q (own_sources ++ read) (own_sources ++ scratch_tables) (λ k d l. found_one (slice_index_or (names q) k d) (own_sources ++ read) (own_sources ++ scratch_tables) z) no_bounds in
        subst (λ (rows : List (List Cell)). IsSameBag (Sel q (own_sources ++ read) no_bounds) rows)
        (sym (ap (from_scratch w.sources clock) (closing_is w.book sound.book.well_formed s known) ∙ views w.sources clock s.own parents q e is)) same

    by_defn : (d : Defn) → s.own.defn ≡ d → is_body_of View d ≡ true → Scratched (suc depth) s
    by_defn (Seed columns rows) is body = absurd (let f : false ≡ true = body in cc)
    by_defn (Sql q) is body = (Sel q (own_sources ++ read) no_bounds, shown_is q is, scratched q is)

    of_view : Scratched (suc depth) s
    of_view = by_defn s.own.defn refl (subst (λ (k : Kind). is_body_of k s.own.defn ≡ true) e (its_body w.book s sound.book.well_formed known))

  -- what is known of one parent
  parent_shows : (depth : ℕ) (r : Ref) (p : Snapshot) → snapshot_at w.book.snapshots r ≡ Some p → AllCurrent clock x w.book p → Scratched depth p → Shows w clock (rows_through depth w) r
  parent_shows depth r p at h scratched =
      let known = known_of h in
      let made = made_of p known (current_of h) in
      record {
        snapshot = p;
        known = at;
        name = (fits w.book p sound.book.well_formed known).name ∙ ap (λ (k : Ref). k.name) (its_ref w.book.snapshots r p at);
        rows = scratched.0;
        shown = scratched.1;
        same = scratched.2;
        columns = ap (λ (o : Option Object). or_no_columns (columns_at o)) made.stands ∙ made.columns;
      }

  pub snapshot_shown : (depth : ℕ) (s : Snapshot) → AllCurrent clock x w.book s → s.rank < depth → Scratched depth s
  snapshot_shown zero s h l = absurd (omega arith)
  snapshot_shown (suc depth) s h l =
      by_kind s.own.kind refl (λ p below less. snapshot_shown depth p below less)
    where
      parents : ((p : Snapshot) → AllCurrent clock x w.book p → p.rank < depth → Scratched depth p) → Each (Shows w clock (rows_through depth w)) s.parents
      parents more =
          let fit = fits w.book s sound.book.well_formed (known_of h) in
          each_member (Shows w clock (rows_through depth w)) s.parents
          (λ r k. let q = fit.parents r (Has_from s.parents r k) in
          let below = above_of h r k q.snapshot q.known in
          parent_shows depth r q.snapshot q.known below (more q.snapshot below (omega (arith, q.lower, l))))

      by_kind : (kind : Kind) → s.own.kind ≡ kind → ((p : Snapshot) → AllCurrent clock x w.book p → p.rank < depth → Scratched depth p) → Scratched (suc depth) s
      by_kind View e more = of_view depth s (known_of h) (current_of h) e (parents more)
      by_kind Full e more = of_table (suc depth) s (known_of h) (current_of h) Full e (λ f. cc)
      by_kind SeedKind e more = of_table (suc depth) s (known_of h) (current_of h) SeedKind e (λ f. cc)
      by_kind (Incremental time lookback) e more = of_table (suc depth) s (known_of h) (current_of h) (Incremental time lookback) e (λ f. cc)

  -- what the object of a snapshot shows, where it and all that it stands on are up to date
  pub object_shown : (s : Snapshot) → AllCurrent clock x w.book s → (rows : List (List Cell)) × (object_rows w s.object ≡ Some rows) × IsSameBag rows (from_scratch w.sources clock (closing w.book.snapshots s))
  object_shown s h = snapshot_shown 4096 s h (let low = its_rank w.book s sound.book.well_formed (known_of h) in omega (arith, low))
