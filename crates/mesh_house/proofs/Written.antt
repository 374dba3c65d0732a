-- A table that is taken out of a world, written and put back.
use Rattle.std.proofs.Common.{◌≡◌, Bool, true, cond, ℕ, List, Some, None, Ok, Err, Result, OnOk, OnErr, ℤ, sym, ◌∙◌, ap}
use Rattle.std.specs.declared.option.Option.{Option}
use Rattle.mesh_list.specs.Keyed.{found, exchanged}
use Rattle.mesh_base_values.specs.declared.values.Cell.{Cell}
use Rattle.mesh_base_values.specs.declared.values.Name.{Name}
use Rattle.mesh_base_values.specs.Names.{name_cmp}
use Rattle.mesh_base_values.specs.NameOrder.{names_total, names_exact}
use Rattle.mesh_house.specs.declared.objects.Object.{Object}
use Rattle.mesh_house.specs.declared.world.World.{World}
use Rattle.mesh_house.specs.Objects.{object_name, is_physical}
use Rattle.mesh_house.specs.Step.{written_object, written_at, write_range}
use Rattle.mesh_house_book.proofs.Exchanged.{exchanged_none, exchanged_itself, exchanged_twice, found_key}

pub name_kept : {T E : Type 0} (r : Result T E) (new o : Object) (time : List ℕ) (first last : ℤ) (rows : List (List Cell)) → OnOk r (new ≡ written_object o time first last rows) → OnErr r (new ≡ o) → new.name ≡ o.name
name_kept (Ok x) new o time first last rows ok err = ap object_name ok
name_kept (Err e) new o time first last rows ok err = ap object_name err

-- what was taken out by a name has it
pub taken_name : (w : World) (n key : Name) (o : Object) → key ≡ n → Some o ≡ found name_cmp object_name key w.objects → o.name ≡ n
taken_name w n key o same is = found_key name_cmp object_name names_exact key o w.objects (sym is) ∙ same

module _ (w : World) (n : Name) (time : List ℕ) (first last : ℤ) (rows : List (List Cell)) (physical : is_physical n ≡ true) (blank : Object) (named : blank.name ≡ n) (objects : List Object) (taken : objects ≡ exchanged name_cmp object_name blank w.objects) where
  written_is : (o : Option Object) → o ≡ found name_cmp object_name blank.name w.objects → write_range w n time first last rows ≡ written_at o w time first last rows
  written_is o is =
      ap (λ (b : Bool). written_at (cond b (found name_cmp object_name n w.objects) None) w time first last rows) physical
      ∙ ap (λ (f : Option Object). written_at f w time first last rows) (ap (λ (k : Name). found name_cmp object_name k w.objects) (sym named) ∙ sym is)

  -- where there was none, nothing happens
  pub none_written : None ≡ found name_cmp object_name blank.name w.objects → record w { objects = objects } ≡ write_range w n time first last rows
  none_written is =
      ap (λ (os : List Object). record w { objects = os }) (taken ∙ exchanged_none name_cmp object_name blank w.objects (sym is))
      ∙ sym (written_is None is)

  module _ (o new : Object) (is : Some o ≡ found name_cmp object_name blank.name w.objects) (kept : new.name ≡ o.name) (after : List Object) (put : after ≡ exchanged name_cmp object_name new objects) where
    put_back : after ≡ exchanged name_cmp object_name new w.objects
    put_back =
        put ∙ ap (exchanged name_cmp object_name new) taken
        ∙ exchanged_twice name_cmp object_name names_total new blank w.objects (kept ∙ taken_name w n blank.name o named is ∙ sym named)

    -- the table that was written is there
    pub some_written : new ≡ written_object o time first last rows → record w { objects = after } ≡ write_range w n time first last rows
    some_written h =
        ap (λ (os : List Object). record w { objects = os }) (put_back ∙ ap (λ (x : Object). exchanged name_cmp object_name x w.objects) h)
        ∙ sym (written_is (Some o) is)

    -- where it stayed as it was, so did the world
    pub none_changed : new ≡ o → record w { objects = after } ≡ w
    none_changed h =
        let here : found name_cmp object_name o.name w.objects ≡ Some o = ap (λ (k : Name). found name_cmp object_name k w.objects) (found_key name_cmp object_name names_exact blank.name o w.objects (sym is)) ∙ sym is in
        ap (λ (os : List Object). record w { objects = os })
        (put_back ∙ ap (λ (x : Object). exchanged name_cmp object_name x w.objects) h ∙ exchanged_itself name_cmp object_name o w.objects here)
