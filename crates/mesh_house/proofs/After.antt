-- What is read after a change.
use Rattle.std.proofs.Common.{◌≡◌, Bool, true, false, cond, List, [], ◌∷◌, Some, None, refl, sym, ◌∙◌, ap}
use Rattle.std.specs.declared.option.Option.{Option}
use Rattle.std.specs.Cmp.{Equal-is}
use Rattle.std.proofs.lemmas.Cmp.{tied_itself}
use Rattle.std.specs.Ordering.{is_eq}
use Rattle.mesh_list.specs.Keyed.{found}
use Rattle.mesh_list.proofs.Found.{found-placed}
use Rattle.mesh_base_values.specs.declared.values.Cell.{Cell}
use Rattle.mesh_base_values.specs.declared.values.Column.{Column}
use Rattle.mesh_base_values.specs.declared.values.Name.{Name}
use Rattle.mesh_base_values.specs.Names.{name_cmp, has_two_underscores}
use Rattle.mesh_house.specs.declared.objects.Body.TheVariants.{Rows}
use Rattle.mesh_house.specs.declared.objects.Object.{Object}
use Rattle.mesh_house.specs.declared.world.ViewOf.{ViewOf}
use Rattle.mesh_house.specs.declared.world.World.{World}
use Rattle.mesh_house.specs.declared.world.Change.TheVariants.{MakeTable, ReplaceRows, PointView}
use Rattle.mesh_base_values.specs.NameOrder.{names_total, names_exact}
use Rattle.mesh_house.specs.Objects.{object_name, is_physical}
use Rattle.mesh_house_book.specs.Changes.{make_table as table_made}
use Rattle.mesh_house.specs.World.{view_name, source_at, as_table, object_at, kept_at, columns_of, body_of, target_of, head, body, view}
use Rattle.mesh_house.specs.Step.{with_book, with_object, filled_at, step, run}

-- two names are one
abbrev pub same_name : Name → Name → Bool
same_name a b = is_eq (name_cmp a b)

same_itself : (a : Name) → same_name a a ≡ true
same_itself a = (Equal-is (name_cmp a a)).1 (tied_itself names_total a)

-- what is found behind the gate of a test, where what is put has passed it
gated : {T : Type 0} (gate same : Bool) (x y : T) (none : T) → (same ≡ true → gate ≡ true) → cond gate (cond same x y) none ≡ cond same x (cond gate y none)
gated true same x y none h = refl
gated false false x y none h = refl
gated false true x y none h = absurd (let clash : false ≡ true = h refl in cc)

pub object_at-with_object : (w : World) (o : Object) (q : Name) → is_physical o.name ≡ true → object_at (with_object w o) q ≡ cond (same_name o.name q) (Some o) (object_at w q)
object_at-with_object w o q physical =
    ap (λ (f : Option Object). cond (is_physical q) f None) (found-placed name_cmp names_exact object_name o q w.objects)
    ∙ gated (is_physical q) (same_name o.name q) (Some o) (found name_cmp object_name q w.objects) None
    (λ same. ap is_physical (sym (names_exact o.name q ((Equal-is (name_cmp o.name q)).0 same))) ∙ physical)

pub kept_at-with_object : (w : World) (o : Object) (q : Name) → is_physical o.name ≡ true → kept_at (with_object w o) q ≡ cond (same_name o.name q) (Some o) (kept_at w q)
kept_at-with_object w o q physical =
    ap (λ (f : Option Object). cond (is_physical q) f (as_table (source_at w q))) (found-placed name_cmp names_exact object_name o q w.objects)
    ∙ gated (is_physical q) (same_name o.name q) (Some o) (found name_cmp object_name q w.objects) (as_table (source_at w q))
    (λ same. ap is_physical (sym (names_exact o.name q ((Equal-is (name_cmp o.name q)).0 same))) ∙ physical)

-- a function of a choice
chosen : {S T : Type 0} (f : S → T) (b : Bool) (x y : S) → f (cond b x y) ≡ cond b (f x) (f y)
chosen f true x y = refl
chosen f false x y = refl

twice : {T : Type 0} (b : Bool) (x y z : T) → cond b x (cond b y z) ≡ cond b x z
twice true x y z = refl
twice false x y z = refl

abbrev table : Name → List Column → List (List Cell) → Object
table n columns rows = record { name = n; columns = columns; body = Rows rows }

abbrev made : World → Name → List Column → World
made w n columns = with_book (with_object w (table n columns [])) (table_made w.book n)

made_is : (w : World) (n : Name) (columns : List Column) → is_physical n ≡ true → step w (MakeTable n columns) ≡ made w n columns
made_is w n columns physical = rw physical refl

filled_is : (w : World) (n : Name) (columns : List Column) (rows : List (List Cell)) → is_physical n ≡ true → run w (MakeTable n columns ∷ ReplaceRows n rows ∷ []) ≡ with_object (made w n columns) (table n columns rows)
filled_is w n columns rows physical =
    let empty : Object = table n columns [] in
    let there : object_at (made w n columns) n ≡ Some empty = object_at-with_object w empty n physical ∙ ap (λ (b : Bool). cond b (Some empty) (object_at w n)) (same_itself n) in
    ap (λ (v : World). step v (ReplaceRows n rows)) (made_is w n columns physical)
    ∙ ap (λ (o : Option Object). filled_at o (made w n columns) n rows) there

module _ (w : World) (n : Name) (columns : List Column) (rows : List (List Cell)) (physical : has_two_underscores n.schema ≡ true) where
  kept-filled : (q : Name) → kept_at (run w (MakeTable n columns ∷ ReplaceRows n rows ∷ [])) q ≡ cond (same_name n q) (Some (table n columns rows)) (kept_at w q)
  kept-filled q =
      ap (λ (v : World). kept_at v q) (filled_is w n columns rows physical)
      ∙ kept_at-with_object (made w n columns) (table n columns rows) q physical
      ∙ ap (cond (same_name n q) (Some (table n columns rows))) (kept_at-with_object w (table n columns []) q physical)
      ∙ twice (same_name n q) (Some (table n columns rows)) (Some (table n columns [])) (kept_at w q)

  -- a table that is made and filled has these rows, and others keep theirs
  pub body-filled : (q : Name) → body (run w (MakeTable n columns ∷ ReplaceRows n rows ∷ [])) q ≡ cond (is_eq (name_cmp n q)) (Some (Rows rows)) (body w q)
  body-filled q = ap body_of (kept-filled q) ∙ chosen body_of (same_name n q) (Some (table n columns rows)) (kept_at w q)

  -- a table that is made and filled has these columns, and others keep theirs
  pub head-filled : (q : Name) → head (run w (MakeTable n columns ∷ ReplaceRows n rows ∷ [])) q ≡ cond (is_eq (name_cmp n q)) (Some columns) (head w q)
  head-filled q = ap columns_of (kept-filled q) ∙ chosen columns_of (same_name n q) (Some (table n columns rows)) (kept_at w q)

  -- views stay where a table is made and filled
  pub view-filled : (q : Name) → view (run w (MakeTable n columns ∷ ReplaceRows n rows ∷ [])) q ≡ view w q
  view-filled q = ap (λ (v : World). view v q) (filled_is w n columns rows physical)

-- a view that is pointed shows its new target, and others keep theirs
pub view-pointed : (w : World) (v t q : Name) → view (step w (PointView v t)) q ≡ cond (is_eq (name_cmp v q)) (Some t) (view w q)
view-pointed w v t q =
    let pointed : ViewOf = record { view = v; target = t } in
    ap target_of (found-placed name_cmp names_exact view_name pointed q w.views)
    ∙ chosen target_of (same_name v q) (Some pointed) (found name_cmp view_name q w.views)

-- tables stay where a view is pointed
pub body-pointed : (w : World) (v t q : Name) → body (step w (PointView v t)) q ≡ body w q
body-pointed w v t q = refl

pub head-pointed : (w : World) (v t q : Name) → head (step w (PointView v t)) q ≡ head w q
head-pointed w v t q = refl
