-- An object stays as it is where another one is made or filled.
use Rattle.std.proofs.Common.{◌≡◌, ℤ, ℕ, Bool, true, false, cond, List, [], ◌∷◌, ◌++◌, map, Some, None, refl, sym, ap, ◌∙◌}
use Rattle.std.specs.Prelude.{◌&&◌, not}
use Rattle.std.specs.Cmp.{Equal-is}
use Rattle.std.specs.List.{flat_map}
use Rattle.std.specs.Ordering.{is_eq}
use Rattle.std.specs.declared.cmp.Ordering.{Ordering}
use Rattle.std.specs.declared.option.Option.{Option}
use Rattle.std.proofs.lemmas.Map.Lookups.{CmpEqualImpliesEq}
use Rattle.mesh_list.specs.Keyed.{exchanged, found}
use Rattle.mesh_base_values.specs.NameOrder.{names_exact}
use Rattle.mesh_base_values.specs.Names.{name_cmp}
use Rattle.mesh_base_values.specs.declared.kinds.Kind.{Kind}
use Rattle.mesh_base_values.specs.declared.kinds.Kind.TheVariants.{Full, View, Seed, Incremental}
use Rattle.mesh_base_values.specs.declared.values.Cell.{Cell}
use Rattle.mesh_base_values.specs.declared.values.Column.{Column}
use Rattle.mesh_base_values.specs.declared.values.Name.{Name}
use Rattle.mesh_base_values.specs.declared.values.Pair.{Pair}
use Rattle.mesh_base.specs.Outputs.{columns_of}
use Rattle.mesh_base.specs.declared.definitions.Own.{Own}
use Rattle.mesh_base.specs.declared.plans.Due.{Due}
use Rattle.mesh_base.specs.declared.plans.Due.TheVariants.{Whole, Unit as OfUnit}
use Rattle.mesh_house_book.specs.Changes.{make_table as table_made, make_view as view_made}
use Rattle.mesh_house_book.specs.declared.book.Book.{Book}
use Rattle.mesh_house_book.proofs.Exchanged.{found_key}
use Rattle.mesh_house.specs.Objects.{is_physical, object_name}
use Rattle.mesh_house.specs.Step.{filled as filled_body, filled_at, run, step, with_book, with_object, written_at, written_object}
use Rattle.mesh_house.specs.World.{object_at}
use Rattle.mesh_house.specs.declared.objects.Body.{Body}
use Rattle.mesh_house.specs.declared.objects.Body.TheVariants.{Rows, Stored}
use Rattle.mesh_house.specs.declared.objects.Object.{Object}
use Rattle.mesh_house.specs.declared.world.Change.{Change}
use Rattle.mesh_house.specs.declared.world.Change.TheVariants.{MakeTable, MakeView, ReplaceRows, WriteRange}
use Rattle.mesh_house.specs.declared.world.World.{World}
use Rattle.mesh_house.proofs.After.{object_at-with_object}
use Rattle.mesh_house.proofs.Runs.{run-append}
use Rattle.mesh_spec_changes.specs.due.Plans.{Planned}
use Rattle.mesh_spec_changes.specs.Changes.{makes, parents_in, target_of}
use Rattle.mesh_exec_works.specs.Written.{written}

-- what is found by another key stays where an item is exchanged
module _ {A K : Type 0} (R : K → K → Ordering) (exact : CmpEqualImpliesEq R) (key : A → K) (y : A) (k : K) (other : is_eq (R (key y) k) ≡ false) where
  found_other : (xs : List A) → found R key k (exchanged R key y xs) ≡ found R key k xs
  found_other [] = refl
  found_other (x ∷ xs) = go (is_eq (R (key x) (key y))) refl (found_other xs)
    where
      go : (b : Bool) → is_eq (R (key x) (key y)) ≡ b → found R key k (exchanged R key y xs) ≡ found R key k xs
          → found R key k (cond b (y ∷ xs) (x ∷ exchanged R key y xs)) ≡ cond (is_eq (R (key x) k)) (Some x) (found R key k xs)
      go true is more =
          let same : key x ≡ key y = exact (key x) (key y) ((Equal-is (R (key x) (key y))).0 is) in
          ap (λ (b : Bool). cond b (Some y) (found R key k xs)) other
          ∙ sym (ap (λ (n : K). cond (is_eq (R n k)) (Some x) (found R key k xs)) same ∙ ap (λ (b : Bool). cond b (Some x) (found R key k xs)) other)
      go false is more = ap (cond (is_eq (R (key x) k)) (Some x)) more

module _ (name q : Name) (other : is_eq (name_cmp name q) ≡ false) where
  put_stays : (w : World) (o : Object) → o.name ≡ name → is_physical name ≡ true → object_at (with_object w o) q ≡ object_at w q
  put_stays w o named physical =
      object_at-with_object w o q (ap is_physical named ∙ physical)
      ∙ ap (λ (n : Name). cond (is_eq (name_cmp n q)) (Some o) (object_at w q)) named
      ∙ ap (λ (b : Bool). cond b (Some o) (object_at w q)) other

  make_stays : (b : Bool) (w : World) (o : Object) (k : Book) → is_physical name ≡ b → o.name ≡ name → object_at (cond b (with_book (with_object w o) k) w) q ≡ object_at w q
  make_stays true w o k physical named = put_stays w o named physical
  make_stays false w o k physical named = refl

  table_made_stays : (w : World) (columns : List Column) → object_at (step w (MakeTable name columns)) q ≡ object_at w q
  table_made_stays w columns = make_stays (is_physical name) w (record { name = name; columns = columns; body = Rows [] }) (table_made w.book name) refl refl

  view_made_stays : (w : World) (columns : List Column) (own : Own) (targets : List Pair) → object_at (step w (MakeView name columns own targets)) q ≡ object_at w q
  view_made_stays w columns own targets = make_stays (is_physical name) w (record { name = name; columns = columns; body = Stored own targets }) (view_made w.book name) refl refl

  body_stays : (b : Body) (columns : List Column) (w : World) (rows : List (List Cell)) → is_physical name ≡ true → object_at (filled_body b columns w name rows) q ≡ object_at w q
  body_stays (Rows old) columns w rows physical = put_stays w (record { name = name; columns = columns; body = Rows rows }) refl physical
  body_stays (Stored own targets) columns w rows physical = refl

  filled_stays : (o : Option Object) (w : World) (rows : List (List Cell)) → is_physical name ≡ true → object_at (filled_at o w name rows) q ≡ object_at w q
  filled_stays None w rows physical = refl
  filled_stays (Some o) w rows physical = body_stays o.body o.columns w rows physical

  rows_stay : (w : World) (rows : List (List Cell)) → object_at (step w (ReplaceRows name rows)) q ≡ object_at w q
  rows_stay w rows = go (is_physical name) refl
    where
      go : (b : Bool) → is_physical name ≡ b → object_at (filled_at (cond b (found name_cmp object_name name w.objects) None) w name rows) q ≡ object_at w q
      go true physical = filled_stays (found name_cmp object_name name w.objects) w rows physical
      go false physical = refl

  range_stays : (w : World) (time : List ℕ) (start end : ℤ) (rows : List (List Cell)) → object_at (step w (WriteRange name time start end rows)) q ≡ object_at w q
  range_stays w time start end rows = go (is_physical name)
    where
      there : (o : Option Object) → found name_cmp object_name name w.objects ≡ o → object_at (written_at o w time start end rows) q ≡ object_at w q
      there None e = refl
      there (Some o) e =
          let named : o.name ≡ name = found_key name_cmp object_name names_exact name o w.objects e in
          ap (λ (f : Option Object). cond (is_physical q) f None)
          (found_other name_cmp names_exact object_name (written_object o time start end rows) q (ap (λ (n : Name). is_eq (name_cmp n q)) named ∙ other) w.objects)

      go : (b : Bool) → object_at (written_at (cond b (found name_cmp object_name name w.objects) None) w time start end rows) q ≡ object_at w q
      go true = there (found name_cmp object_name name w.objects) refl
      go false = refl

-- where another model's object is made or filled
module _ (p : Planned) (q : Name) (other : is_eq (name_cmp p.object q) ≡ false) where
  either : (b : Bool) (w : World) (c : Change) → object_at (step w c) q ≡ object_at w q → object_at (run w (cond b [] (c ∷ []))) q ≡ object_at w q
  either true w c h = refl
  either false w c h = h

  pub makes_stay : (w : World) (all : List Planned) (k : Kind) (made due : Bool) → object_at (run w (makes made all p k due)) q ≡ object_at w q
  makes_stay w all View made due =
      either (made && not due) w (MakeView p.object (columns_of p.node.own) p.node.own (map target_of (parents_in all p)))
      (view_made_stays p.object q other w (columns_of p.node.own) p.node.own (map target_of (parents_in all p)))
  makes_stay w all Full made due = either made w (MakeTable p.object (columns_of p.node.own)) (table_made_stays p.object q other w (columns_of p.node.own))
  makes_stay w all Seed made due = either made w (MakeTable p.object (columns_of p.node.own)) (table_made_stays p.object q other w (columns_of p.node.own))
  makes_stay w all (Incremental time lookback) made due = either made w (MakeTable p.object (columns_of p.node.own)) (table_made_stays p.object q other w (columns_of p.node.own))

  pub written_stays : (w : World) (k : Kind) (d : Due) (rows : List (List Cell)) → object_at (run w (written p k d rows)) q ≡ object_at w q
  written_stays w (Incremental time lookback) (OfUnit place start end) rows = range_stays p.object q other w time start end rows
  written_stays w (Incremental time lookback) (Whole place marks) rows = refl
  written_stays w View (Whole place marks) rows = refl
  written_stays w View (OfUnit place start end) rows = refl
  written_stays w Full (Whole place marks) rows = rows_stay p.object q other w rows
  written_stays w Full (OfUnit place start end) rows = refl
  written_stays w Seed (Whole place marks) rows = rows_stay p.object q other w rows
  written_stays w Seed (OfUnit place start end) rows = refl

  pub each_stays : (f : Due → List Change) → ((w : World) (d : Due) → object_at (run w (f d)) q ≡ object_at w q) → (w : World) (ds : List Due) → object_at (run w (flat_map f ds)) q ≡ object_at w q
  each_stays f h w [] = refl
  each_stays f h w (d ∷ ds) = ap (λ (v : World). object_at v q) (run-append w (f d) (flat_map f ds)) ∙ each_stays f h (run w (f d)) ds ∙ h w d
