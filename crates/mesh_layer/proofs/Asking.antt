-- What views show: where one is lost, nothing is shown.
use Rattle.std.proofs.Common.{◌≡◌, ℕ, List, map, Some, None, Ok, Err, Result, IsTrue, refl, ap}
use Rattle.std.specs.Option.{option_map, option_and_then}
use Rattle.std.specs.declared.option.Option.{Option}
use Rattle.mesh_base_values.specs.declared.values.Name.{Name}
use Rattle.mesh_base.specs.declared.jobs.Input.{Input}
use Rattle.mesh_base.specs.declared.queries.Query.{Query}
use Rattle.mesh_house_book.specs.declared.book.Book.{Book}
use Rattle.mesh_spec_query.specs.Sel.{Sel}
use Rattle.mesh_spec_model.specs.Scratch.{no_bounds}
use Rattle.mesh_house.specs.declared.world.World.{World}
use Rattle.mesh_house.specs.House.{Told}
use Rattle.mesh_house.specs.Sources.{are_plain}
use Rattle.mesh_house.specs.World.{view}
use Rattle.mesh_spec_changes.specs.shown.Shown.{each_there, object_rows}
use Rattle.mesh_spec_changes.specs.Environments.{view_in}
use Rattle.mesh_layer.specs.declared.faults.ShowFault.{ShowFault}
use Rattle.mesh_layer.specs.Asked.{asked, asked_models, lost_asked, lost_model, lost_table, lost_view, shown_behind, shown_view, table_behind, view_table}
use Rattle.mesh_layer.specs.Lost.{first_of, lost_object}
use Rattle.mesh_layer.specs.Shows.{Finds, Shows}
use Rattle.mesh_layer.proofs.Heights.{lost_shows_none, none_lost, rows_found, target_found}

-- a call that finds what a world shows
pub shows : {T : Type 0} (shown : World → Option T) (lost : World → Option Name) (a b : Told) (r : Result T ShowFault)
    → ((w : World) (o : Name) → lost w ≡ Some o → shown w ≡ None) → Finds (λ w. IsTrue (are_plain w.sources)) (λ w x. shown w ≡ Some x) lost a b r → Shows shown lost a b r
shows shown lost a b (Ok x) none h = record {
  untouched = h.untouched;
  ok = λ w tells. h.ok w tells.world tells.plain;
  dangling = λ o is. absurd (cc);
  failed = h.failed;
}
shows shown lost a b (Err e) none h = record {
  untouched = h.untouched;
  ok = tt;
  dangling = λ o is w tells. let here = h.dangling o is w tells.world tells.plain in (none w o here, here);
  failed = h.failed;
}

pub finds : {T : Type 0} (shown : World → Option T) (lost : World → Option Name) (a b : Told) (r : Result T ShowFault) → Shows shown lost a b r → Finds (λ w. IsTrue (are_plain w.sources)) (λ w x. shown w ≡ Some x) lost a b r
finds shown lost a b (Ok x) h = record {
  untouched = h.untouched;
  ok = λ w told plain. h.ok w (record { world = told; plain = plain });
  dangling = λ o is. absurd (cc);
  failed = h.failed;
}
finds shown lost a b (Err e) h = record {
  untouched = h.untouched;
  ok = tt;
  dangling = λ o is w told plain. (h.dangling o is w (record { world = told; plain = plain })).1;
  failed = h.failed;
}

pub object_lost : (n : Name) (w : World) (o : Name) → lost_object w n ≡ Some o → object_rows w n ≡ None
object_lost n w o h = lost_shows_none w 4096 n o h

pub view_lost : (n : Name) (w : World) (o : Name) → lost_view w n ≡ Some o → shown_view w n ≡ None
view_lost n w o h = at (view w n) h
  where
    at : (t : Option Name) → option_and_then (lost_object w) t ≡ Some o → shown_behind w t ≡ None
    at None k = absurd (let no : None ≡ Some o = k in cc)
    at (Some target) k = ap (option_map Some) (object_lost target w o k)

-- a model whose view has a table isn't lost
pub view_found : (env : List ℕ) (w : World) (m : Name) (x : Input) → view_table env w m ≡ Some x → lost_model env w m ≡ None
view_found env w m x h = at (view w (view_in env m)) h
  where
    at : (t : Option Name) → table_behind w m t ≡ Some x → lost_table w (view_in env m) t ≡ None
    at None k = absurd (let no : None ≡ Some x = k in cc)
    at (Some target) k = target_found w (object_rows w) (lost_object w) (rows_found w 4096) (record { first = m; second = target }) x k

all_lost : {A : Type 0} (f : A → Option Input) (g : A → Option Name) → ((a : A) (x : Input) → f a ≡ Some x → g a ≡ None) → (xs : List A) (o : Name) → first_of (map g xs) ≡ Some o → each_there (map f xs) ≡ None
all_lost f g none xs o h = at (each_there (map f xs)) refl
  where
    at : (t : Option (List Input)) → each_there (map f xs) ≡ t → each_there (map f xs) ≡ None
    at None e = e
    at (Some ts) e = absurd (let found : first_of (map g xs) ≡ None = none_lost f g none xs ts e in cc)

pub asked_lost : (b : Book) (env : List ℕ) (q : Query) (w : World) (o : Name) → lost_asked b env q w ≡ Some o → asked b env q w ≡ None
asked_lost b env q w o h =
    ap (option_map (λ (tables : List Input). Sel q tables no_bounds)) (all_lost (view_table env w) (lost_model env w) (view_found env w) (asked_models b env q) o h)
