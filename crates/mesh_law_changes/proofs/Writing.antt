-- A world stays well kept where the rows of a unit are written of which no second is recorded.
use Rattle.std.proofs.Common.{◌≡◌, ℕ, suc, ℤ, Bool, true, false, cond, not, List, [], ◌∷◌, ◌++◌, Some, None, refl, sym, ◌∙◌, ap, subst, arith}
use Rattle.std.specs.declared.option.Option.{Option}
use Rattle.std.specs.List.{All, Contains, filter}
use Rattle.std.specs.Ordering.{is_eq}
use Rattle.std.proofs.lemmas.List.{append-nil}
use Rattle.std.proofs.lemmas.List.Elements.{All-append, All-head, All-tail, All-nil, All-cons, filter-append}
use Rattle.mesh_list.specs.Keyed.{exchanged, found}
use Rattle.mesh_list.proofs.Standing.{ascends-exchanged}
use Rattle.mesh_base_values.specs.Bag.{IsSameBag}
use Rattle.mesh_base_values.specs.Kinds.{time_column}
use Rattle.mesh_base_values.specs.Names.{name_cmp}
use Rattle.mesh_base_values.specs.NameOrder.{names_exact, names_total}
use Rattle.mesh_base_values.specs.declared.kinds.Kind.{Kind}
use Rattle.mesh_base_values.specs.declared.kinds.Kind.TheVariants.{Incremental}
use Rattle.mesh_base_values.specs.declared.times.Bounds.{Bounds}
use Rattle.mesh_base_values.specs.declared.values.Cell.{Cell}
use Rattle.mesh_base_values.specs.declared.values.Column.{Column}
use Rattle.mesh_base_values.specs.declared.values.Name.{Name}
use Rattle.mesh_base_values.proofs.Equals.{name_is as object_is}
use Rattle.mesh_base.specs.Outputs.{columns_of}
use Rattle.mesh_base.specs.declared.snapshots.Snapshot.{Snapshot}
use Rattle.mesh_time.specs.Ranges.{Has, IsWithin, is_held}
use Rattle.mesh_time.proofs.Held.{has_if_held}
use Rattle.mesh_house_book.specs.declared.versions.Version.{Version}
use Rattle.mesh_house_book.proofs.Exchanged.{found_key}
use Rattle.mesh_time_days.specs.seconds.Times.{lies_in}
use Rattle.mesh_spec_model.specs.Closures.{Closure}
use Rattle.mesh_spec_model.specs.Horizons.{Clock, Shows, schedule}
use Rattle.mesh_spec_model.specs.Scratch.{is_of_unit, lies_by, piece}
use Rattle.mesh_spec_model.proofs.Cut.{by_second}
use Rattle.mesh_house.specs.declared.objects.Body.{Body}
use Rattle.mesh_house.specs.declared.objects.Body.TheVariants.{Rows}
use Rattle.mesh_house.specs.declared.objects.Object.{Object}
use Rattle.mesh_house.specs.declared.world.World.{World}
use Rattle.mesh_house.specs.declared.world.Change.TheVariants.{WriteRange}
use Rattle.mesh_house.specs.Objects.{is_physical, object_name}
use Rattle.mesh_house.specs.Step.{step, written_at, written_body, written_object}
use Rattle.mesh_time_days.specs.seconds.Rows.{rewritten}
use Rattle.mesh_house.specs.World.{body_of, object_at, rows_of, version_of}
use Rattle.mesh_house.proofs.Tested.{all-exchanged}
use Rattle.mesh_spec_changes.specs.listed.Closing.{closing, IsSnapshot}
use Rattle.mesh_spec_changes.specs.due.Parts.{Parts}
use Rattle.mesh_spec_promise.specs.Sound.{Sound, IsBodyOf, IsTableSound, lies_among, table_rows}
use Rattle.mesh_spec_promise.proofs.Joined.{passed}
use Rattle.mesh_spec_promise.proofs.Found.{found-exchanged}
use Rattle.mesh_spec_promise.proofs.Seconds.{any_of}
use Rattle.mesh_spec_promise.proofs.Views.{tabular}
use Rattle.mesh_law_changes.proofs.Making.{used_physical}
use Rattle.mesh_law_changes.proofs.ObjectGone.{table_unmade}
use Rattle.mesh_law_changes.proofs.ObjectPut.{object_put}
use Rattle.mesh_law_changes.proofs.Recorded.{same_object}

-- an object that is found has its name
named_found : (w : World) (name : Name) (o : Object) → object_at w name ≡ Some o → (o.name ≡ name) × (found name_cmp object_name name w.objects ≡ Some o)
named_found w name o e = let f = go (is_physical name) e in (found_key name_cmp object_name names_exact name o w.objects f, f)
  where
    go : (b : Bool) → cond b (found name_cmp object_name name w.objects) None ≡ Some o → found name_cmp object_name name w.objects ≡ Some o
    go true f = f
    go false f = absurd (let g : None ≡ Some o = f in cc)

-- a row of a recorded unit lies in no unit of which no second is recorded
lies_elsewhere : (columns : List Column) (time : List ℕ) (ranges : List Bounds) (u d : Bounds) → ((t : ℤ) → IsWithin u.start u.end t → Has ranges t → ⊥) → is_held ranges d.start d.end ≡ true
    → (row : List Cell) → lies_in columns time d row ≡ true → lies_in columns time u row ≡ false
lies_elsewhere columns time ranges u d free held row lies = go (lies_in columns time u row) refl
  where
    some_is : (t r : ℤ) → ◌≡◌ {A = Option ℤ} (Some t) (Some r) → t ≡ r
    some_is t r e = cc

    go : (b : Bool) → lies_in columns time u row ≡ b → b ≡ false
    go false e = refl
    go true e =
        let a = (by_second columns time u row).0 e in
        let b = (by_second columns time d row).0 lies in
        let same : a.0 ≡ b.0 = some_is a.0 b.0 (sym a.1 ∙ b.1) in
        absurd (free a.0 a.2 (subst (Has ranges) (sym same) (has_if_held ranges d.start d.end held b.0 b.2.0 b.2.1)))

none_pass : {X : Type 0} (p : X → Bool) (xs : List X) → ((x : X) → Contains xs x → p x ≡ false) → filter p xs ≡ []
none_pass p [] h = refl
none_pass p (x ∷ xs) h = go (p x) (h x (0, omega arith, refl)) (none_pass p xs (λ y k. h y (suc k.0, omega (k.1, arith), k.2)))
  where
    go : (b : Bool) → b ≡ false → filter p xs ≡ [] → cond b (x ∷ filter p xs) (filter p xs) ≡ []
    go true e more = cc
    go false e more = more

all_filter : {X : Type 0} (P : X → Type 0) (p : X → Bool) (xs : List X) → All P xs → All P (filter p xs)
all_filter P p [] h = All-nil P
all_filter P p (x ∷ xs) h = go (p x) (all_filter P p xs (All-tail P x xs h))
  where
    go : (b : Bool) → All P (filter p xs) → All P (cond b (x ∷ filter p xs) (filter p xs))
    go true more = All-cons P x (filter p xs) (All-head P x xs h) more
    go false more = more

all_members : {X : Type 0} (P : X → Type 0) (xs : List X) → ((x : X) → Contains xs x → P x) → All P xs
all_members P [] h = All-nil P
all_members P (x ∷ xs) h = All-cons P x xs (h x (0, omega arith, refl)) (all_members P xs (λ y k. h y (suc k.0, omega (k.1, arith), k.2)))

module _ (x : Parts) (w : World) (sound : Sound x w) (object : Name) (time : List ℕ) (start end : ℤ) (rows : List (List Cell))
    (timed : (s : Snapshot) → IsSnapshot w.book.snapshots s → s.object ≡ object → (lookback : ℕ) × (s.own.kind ≡ Incremental time lookback))
    (scheduled : (s : Snapshot) → IsSnapshot w.book.snapshots s → s.object ≡ object → (clock : Clock) → Shows clock w.book.moment → Contains (schedule clock (closing w.book.snapshots s)) (record { start = start; end = end }))
    (lie : (s : Snapshot) → IsSnapshot w.book.snapshots s → s.object ≡ object → (row : List Cell) → Contains rows row → is_of_unit s.own (record { start = start; end = end }) row ≡ true)
    (free : (v : Version) → version_of w.book object ≡ Some v → (t : ℤ) → IsWithin start end t → Has v.ranges t → ⊥) where
  abbrev u : Bounds
  u = record { start = start; end = end }

  module _ (o : Object) (here : object_at w object ≡ Some o) where
    abbrev new : Object
    new = written_object o time start end rows

    abbrev objects : List Object
    objects = exchanged name_cmp object_name new w.objects

    abbrev after : World
    after = record w { objects = objects }

    named : o.name ≡ object
    named = (named_found w object o here).0

    there : found name_cmp object_name o.name w.objects ≡ Some o
    there = ap (λ (n : Name). found name_cmp object_name n w.objects) named ∙ (named_found w object o here).1

    physical : is_physical o.name ≡ true
    physical = ap is_physical named ∙ used_physical x w sound object (sound.objects.named object o here)

    found_after : (q : Name) → object_at after q ≡ cond (is_eq (name_cmp o.name q)) (Some new) (object_at w q)
    found_after q =
        ap (λ (f : Option Object). cond (is_physical q) f None) (found-exchanged name_cmp names_exact object_name new q o w.objects there)
        ∙ go (is_physical q) (is_eq (name_cmp o.name q)) (λ same. ap is_physical (sym (object_is o.name q same)) ∙ physical)
      where
        go : (a b : Bool) → (b ≡ true → a ≡ true) → cond a (cond b (Some new) (found name_cmp object_name q w.objects)) None ≡ cond b (Some new) (cond a (found name_cmp object_name q w.objects) None)
        go true b h = refl
        go false false h = refl
        go false true h = absurd (let f : false ≡ true = h refl in cc)

    its_body : (s : Snapshot) → IsSnapshot w.book.snapshots s → s.object ≡ object → (r : List (List Cell)) × (o.body ≡ Rows r)
    its_body s known same =
        let k = timed s known same in
        tabular w.book.snapshots s (Incremental time k.0) (λ f. cc) o.body (subst (λ (kind : Kind). IsBodyOf w.book.snapshots s kind o.body) k.1 (sound.objects.bodies s known o (ap (object_at w) same ∙ here)))

    rows_is : (before : List (List Cell)) → o.body ≡ Rows before → new.body ≡ Rows (rewritten o.columns time start end rows before)
    rows_is before was = ap (written_body o.columns time start end rows) was

    body : (s : Snapshot) → IsSnapshot w.book.snapshots s → s.object ≡ o.name → IsBodyOf w.book.snapshots s s.own.kind new.body
    body s known same =
        let k = timed s known (same ∙ named) in
        let b = its_body s known (same ∙ named) in
        subst (λ (kind : Kind). IsBodyOf w.book.snapshots s kind new.body) (sym k.1) (subst (IsBodyOf w.book.snapshots s (Incremental time k.0)) (sym (rows_is b.0 b.1)) tt)

    columns : (s : Snapshot) → IsSnapshot w.book.snapshots s → s.object ≡ o.name → (v : Version) → version_of w.book s.object ≡ Some v → v.made ≡ true → o.columns ≡ columns_of s.own
    columns s known same v at m =
        let i = sound.objects.made s known v at m in
        let one : o ≡ i.object = let both : Some o ≡ Some i.object = sym here ∙ ap (object_at w) (sym (same ∙ named)) ∙ i.stands in cc in
        ap (λ (p : Object). p.columns) one ∙ i.columns

    module _ (clock : Clock) (shows : Shows clock w.book.moment) (s : Snapshot) (known : IsSnapshot w.book.snapshots s) (same : s.object ≡ o.name) (v : Version) (at : version_of w.book s.object ≡ Some v) where
      its : s.object ≡ object
      its = same ∙ named

      abbrev lookback : ℕ
      lookback = (timed s known its).0

      kind : s.own.kind ≡ Incremental time lookback
      kind = (timed s known its).1

      abbrev before : List (List Cell)
      before = (its_body s known its).0

      abbrev now : List (List Cell)
      now = rewritten o.columns time start end rows before

      abbrev c : Closure
      c = closing w.book.snapshots s

      lies_is : (d : Bounds) (row : List Cell) → is_of_unit s.own d row ≡ lies_in (columns_of s.own) time d row
      lies_is d row = ap (λ (k : Kind). lies_by (time_column k) (columns_of s.own) d row) kind

      apart : (d : Bounds) → is_held v.ranges d.start d.end ≡ true → (row : List Cell) → is_of_unit s.own d row ≡ true → is_of_unit s.own u row ≡ false
      apart d held row h = lies_is u row ∙ lies_elsewhere (columns_of s.own) time v.ranges u d (free v (ap (version_of w.book) (sym its) ∙ at)) held row (sym (lies_is d row) ∙ h)

      at_before : table_rows w s.object ≡ Some before
      at_before = ap (table_rows w) its ∙ ap (λ (p : Option Object). rows_of (body_of p)) here ∙ ap (λ (b : Body). rows_of (Some b)) (its_body s known its).1

      at_now : table_rows after s.object ≡ Some now
      at_now =
          ap (λ (p : Option Object). rows_of (body_of p)) (found_after s.object ∙ ap (λ (b : Bool). cond b (Some new) (object_at w s.object)) (ap (λ (n : Name). is_eq (name_cmp o.name n)) same ∙ same_object o.name))
          ∙ ap (λ (b : Body). rows_of (Some b)) (rows_is before (its_body s known its).1)

      module _ (made : v.made ≡ true) where
        now_is : now ≡ filter (λ row. not (is_of_unit s.own u row)) before ++ rows
        now_is =
            ap (λ (cs : List Column). rewritten cs time start end rows before) (columns s known same v at made)
            ∙ ap (λ (k : Kind). filter (λ row. not (lies_by (time_column k) (columns_of s.own) u row)) before ++ rows) (sym kind)

        kept_rows : (d : Bounds) → is_held v.ranges d.start d.end ≡ true → filter (is_of_unit s.own d) now ≡ filter (is_of_unit s.own d) before
        kept_rows d held =
            ap (filter (is_of_unit s.own d)) now_is
            ∙ filter-append (is_of_unit s.own d) (filter (λ row. not (is_of_unit s.own u row)) before) rows
            ∙ (λ i. passed {U = Bounds} (is_of_unit s.own) (is_of_unit s.own d) (is_of_unit s.own u) (apart d held) before i
            ++ none_pass (is_of_unit s.own d) rows (λ row k. elsewhere row (lie s known its row k)) i)
            ∙ append-nil (filter (is_of_unit s.own d) before)
          where
            elsewhere : (row : List Cell) → is_of_unit s.own u row ≡ true → is_of_unit s.own d row ≡ false
            elsewhere row e = go (is_of_unit s.own d row) refl
              where
                go : (b : Bool) → is_of_unit s.own d row ≡ b → b ≡ false
                go false f = refl
                go true f = let h : true ≡ false = sym e ∙ apart d held row f in absurd (cc)

        table_made : IsTableSound clock x w s v (Incremental time lookback) → IsTableSound clock x after s v (Incremental time lookback)
        table_made was = record {
          units = was.units;
          within = λ m rs at_rs.
              let rs_is : now ≡ rs = let both : Some now ≡ Some rs = sym at_now ∙ at_rs in cc in
              subst (All (lies_among s.own (schedule clock c))) (sym now_is ∙ rs_is)
              (All-append (lies_among s.own (schedule clock c)) (filter (λ row. not (is_of_unit s.own u row)) before) rows
              (all_filter (lies_among s.own (schedule clock c)) (λ row. not (is_of_unit s.own u row)) before (was.within m before at_before))
              (all_members (lies_among s.own (schedule clock c)) rows (λ row k. any_of (λ d. is_of_unit s.own d row) (schedule clock c) u (scheduled s known its clock shows) (lie s known its row k))));
          pieces = λ m d k held clear rs at_rs.
              let rs_is : now ≡ rs = let both : Some now ≡ Some rs = sym at_now ∙ at_rs in cc in
              subst (λ (l : List (List Cell)). IsSameBag l (piece w.sources clock c d)) (sym (kept_rows d held) ∙ ap (filter (is_of_unit s.own d)) rs_is) (was.pieces m d k held clear before at_before);
        }

      by_made : (b : Bool) → v.made ≡ b → IsTableSound clock x after s v s.own.kind
      by_made false m = table_unmade clock x w after s v refl refl m (sound.book.marks s.object v at m) s.own.kind (sound.tables clock shows s known v at)
      by_made true m = subst (IsTableSound clock x after s v) (sym kind) (table_made m (subst (IsTableSound clock x w s v) kind (sound.tables clock shows s known v at)))

    written : Sound x after
    written =
        object_put x w sound new objects (ascends-exchanged name_cmp names_total object_name new w.objects sound.typed.objects)
        (all-exchanged name_cmp object_name (λ (p : Object). is_physical p.name) new physical w.objects sound.typed.physical)
        found_after (sound.objects.named o.name o (ap (object_at w) named ∙ here)) body columns
        (λ clock shows s known same v at. by_made clock shows s known same v at v.made refl)

  at_object : (o : Option Object) → object_at w object ≡ o → Sound x (written_at o w time start end rows)
  at_object None here = sound
  at_object (Some o) here = written o here

  pub unit_written : Sound x (step w (WriteRange object time start end rows))
  unit_written = at_object (object_at w object) refl
