-- A table that keeps the rows of a part of it, each as often, under changes of other objects and under writes that
-- give them again.
use Rattle.std.proofs.Common.{◌≡◌, ℕ, ℤ, Bool, true, false, cond, List, Some, None, refl, sym, ◌∙◌, ap}
use Rattle.std.specs.Ordering.{is_eq}
use Rattle.std.specs.declared.option.Option.{Option}
use Rattle.mesh_list.specs.Keyed.{exchanged, found}
use Rattle.mesh_base_values.specs.Bag.{IsSameBag}
use Rattle.mesh_base_values.specs.Names.{name_cmp}
use Rattle.mesh_base_values.specs.NameOrder.{names_exact}
use Rattle.mesh_base_values.specs.declared.values.Cell.{Cell}
use Rattle.mesh_base_values.specs.declared.values.Column.{Column}
use Rattle.mesh_base_values.specs.declared.values.Name.{Name}
use Rattle.mesh_base.specs.Outputs.{columns_of}
use Rattle.mesh_base.specs.declared.definitions.Own.{Own}
use Rattle.mesh_time_days.specs.seconds.Rows.{rewritten}
use Rattle.mesh_house.specs.Objects.{is_physical, object_name}
use Rattle.mesh_house.specs.Step.{filled, filled_at, step, with_object, written_at, written_body, written_object}
use Rattle.mesh_house.specs.World.{body_of, object_at, rows_of}
use Rattle.mesh_house.specs.declared.objects.Body.{Body}
use Rattle.mesh_house.specs.declared.objects.Body.TheVariants.{Rows, Stored}
use Rattle.mesh_house.specs.declared.objects.Object.{Object}
use Rattle.mesh_house.specs.declared.world.Change.{Change}
use Rattle.mesh_house.specs.declared.world.Change.TheVariants.{ReplaceRows, WriteRange}
use Rattle.mesh_house.specs.declared.world.World.{World}
use Rattle.mesh_house.proofs.After.{object_at-with_object}
use Rattle.mesh_spec_promise.specs.Sound.{table_rows}
use Rattle.mesh_spec_promise.proofs.Found.{found-exchanged}
use Rattle.mesh_law_changes.proofs.Recorded.{same_object}
use Rattle.mesh_law_promise.proofs.isolation.Elsewhere.{IsElsewhere, named_found, object_other}

-- an object is a model's table, and a part of its rows are these, each as often
pub record Keeps (part : Own → List (List Cell) → List (List Cell)) (fixed : List (List Cell)) (object : Name) (own : Own) (w : World) : Type 0 where
  pub table : Object
  pub there : object_at w object ≡ Some table
  pub columns : table.columns ≡ columns_of own
  pub rows : List (List Cell)
  pub body : table.body ≡ Rows rows
  pub same : IsSameBag (part own rows) fixed

-- a table that has rows stands, with these as its body
rows_body : (b : Body) (rows : List (List Cell)) → rows_of (Some b) ≡ Some rows → b ≡ Rows rows
rows_body (Rows old) rows e = let same : old ≡ rows = cc in ap Rows same
rows_body (Stored own targets) rows e = absurd (let f : None ≡ Some rows = e in cc)

module _ (part : Own → List (List Cell) → List (List Cell)) (fixed : List (List Cell)) (object : Name) (own : Own) where
  abbrev K : World → Type 0
  K = Keeps part fixed object own

  -- at first
  pub keeps_first : (w : World) (table : Object) → object_at w object ≡ Some table → table.columns ≡ columns_of own → (rows : List (List Cell)) → table_rows w object ≡ Some rows
      → IsSameBag (part own rows) fixed → K w
  keeps_first w table there columns rows at same = record {
    table = table;
    there = there;
    columns = columns;
    rows = rows;
    body = rows_body table.body rows (sym (ap (λ (o : Option Object). rows_of (body_of o)) there) ∙ at);
    same = same;
  }

  -- its rows
  pub keeps_rows : (w : World) (k : K w) → table_rows w object ≡ Some k.rows
  keeps_rows w k = ap (λ (o : Option Object). rows_of (body_of o)) k.there ∙ ap (λ (b : Body). rows_of (Some b)) k.body

  pub keeps_elsewhere : (w : World) (c : Change) → IsElsewhere object c → K w → K (step w c)
  keeps_elsewhere w c other k = record { table = k.table; there = object_other w object c other ∙ k.there; columns = k.columns; rows = k.rows; body = k.body; same = k.same }

  physical : (w : World) (o : Object) → object_at w object ≡ Some o → is_physical object ≡ true
  physical w o at = go (is_physical object) at
    where
      go : (b : Bool) → cond b (found name_cmp object_name object w.objects) None ≡ Some o → b ≡ true
      go true e = refl
      go false e = absurd (let f : None ≡ Some o = e in cc)

  -- rows of a range are written
  module _ (w : World) (time : List ℕ) (start end : ℤ) (rows : List (List Cell)) (k : K w) where
    abbrev new : Object
    new = written_object k.table time start end rows

    abbrev after : World
    after = record w { objects = exchanged name_cmp object_name new w.objects }

    written_there : object_at after object ≡ Some new
    written_there =
        let (named, there) = named_found w object k.table k.there in
        ap (λ (b : Bool). cond b (found name_cmp object_name object after.objects) None) (physical w k.table k.there)
        ∙ found-exchanged name_cmp names_exact object_name new object k.table w.objects (ap (λ (n : Name). found name_cmp object_name n w.objects) named ∙ there)
        ∙ ap (λ (b : Bool). cond b (Some new) (found name_cmp object_name object w.objects)) (ap (λ (n : Name). is_eq (name_cmp n object)) named ∙ same_object object)

    pub keeps_written : IsSameBag (part own (rewritten (columns_of own) time start end rows k.rows)) fixed → K (step w (WriteRange object time start end rows))
    keeps_written same = record {
      table = new;
      there = ap (λ (o : Option Object). object_at (written_at o w time start end rows) object) k.there ∙ written_there;
      columns = k.columns;
      rows = rewritten (columns_of own) time start end rows k.rows;
      body = ap (written_body k.table.columns time start end rows) k.body ∙ ap (λ (cs : List Column). Rows (rewritten cs time start end rows k.rows)) k.columns;
      same = same;
    }

  -- its rows are replaced
  module _ (w : World) (rows : List (List Cell)) (k : K w) where
    abbrev instead : Object
    instead = record { name = object; columns = k.table.columns; body = Rows rows }

    replaced_there : object_at (with_object w instead) object ≡ Some instead
    replaced_there = object_at-with_object w instead object (physical w k.table k.there) ∙ ap (λ (b : Bool). cond b (Some instead) (object_at w object)) (same_object object)

    pub keeps_replaced : IsSameBag (part own rows) fixed → K (step w (ReplaceRows object rows))
    keeps_replaced same = record {
      table = instead;
      there = ap (λ (o : Option Object). object_at (filled_at o w object rows) object) k.there ∙ ap (λ (b : Body). object_at (filled b k.table.columns w object rows) object) k.body ∙ replaced_there;
      columns = k.columns;
      rows = rows;
      body = refl;
      same = same;
    }
