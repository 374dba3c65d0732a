-- What is known of the table that was written last, after a write and after other changes.
use Rattle.std.proofs.Common.{◌≡◌, ℕ, ℤ, Bool, true, false, cond, List, [], ◌∷◌, Some, None, IfSome, refl, sym, ◌∙◌, ap}
use Rattle.std.specs.declared.option.Option.{Option}
use Rattle.std.specs.declared.cmp.Ordering.{Ordering}
use Rattle.std.specs.Ordering.{is_eq}
use Rattle.std.specs.Int.Signed.{le_z}
use Rattle.std.specs.Cmp.{IsTotalOrder}
use Rattle.std.proofs.lemmas.Cmp.{tied_itself}
use Rattle.mesh_list.specs.Keyed.{found, exchanged}
use Rattle.mesh_base_values.specs.declared.values.Cell.{Cell}
use Rattle.mesh_base_values.specs.declared.values.Column.{Column}
use Rattle.mesh_base_values.specs.declared.values.Name.{Name}
use Rattle.mesh_base_values.specs.Names.{name_cmp}
use Rattle.mesh_base_values.specs.NameOrder.{names_total, names_exact}
use Rattle.mesh_house_book.proofs.Exchanged.{found_key}
use Rattle.mesh_time_days.specs.seconds.Rows.{are_before}
use Rattle.mesh_time_days.proofs.seconds.Before.{still_before, rewritten_before}
use Rattle.mesh_house.specs.declared.latest.Latest.{Latest}
use Rattle.mesh_house.specs.declared.objects.Body.{Body}
use Rattle.mesh_house.specs.declared.objects.Body.TheVariants.{Rows, Stored}
use Rattle.mesh_house.specs.declared.objects.Object.{Object}
use Rattle.mesh_house.specs.declared.world.World.{World}
use Rattle.mesh_house.specs.Objects.{object_name, is_physical}
use Rattle.mesh_house.specs.World.{object_at}
use Rattle.mesh_house.specs.declared.gone.Gone.{Gone}
use Rattle.mesh_house.specs.Gone.{settled}
use Rattle.mesh_house.proofs.Thinned.{outside_empty}
use Rattle.mesh_house.specs.Latest.{ends_body, ends_object, ends_rows, ends_now, is_known, kept_if}
use Rattle.mesh_house.specs.Step.{written_body, written_object, written_at, write_range}

-- what is before a second is before a later one
later_body : (columns : List Column) (time : List ℕ) (s e : ℤ) (b : Body) → le_z s e ≡ true → ends_body columns time s b ≡ true → ends_body columns time e b ≡ true
later_body columns time s e (Rows rows) le h = still_before columns time s e le rows h
later_body columns time s e (Stored own targets) le h = refl

later_object : (o : Option Object) (time : List ℕ) (s e : ℤ) → le_z s e ≡ true → ends_object o time s ≡ true → ends_object o time e ≡ true
later_object None time s e le h = refl
later_object (Some o) time s e le h = later_body o.columns time s e o.body le h

-- what is known of a table by its name and a column
pub known_behind : (w : World) (l : Latest) (object : Name) (time : List ℕ) (s : ℤ) → l.object ≡ object → l.time ≡ time → le_z l.end s ≡ true → is_known w (Some l) ≡ true → ends_object (object_at w object) time s ≡ true
known_behind w l object time s its by le h =
    later_object (object_at w object) time l.end s le (ap (λ n. ends_object (object_at w n) time l.end) (sym its) ∙ ap (λ t. ends_object (object_at w l.object) t l.end) (sym by) ∙ h)

-- an item is found where it was exchanged for another
module _ {A K : Type 0} (R : K → K → Ordering) (total : IsTotalOrder R) (key : A → K) (y o : A) (k : K) (same : key y ≡ k) where
  pub found-exchanged : (xs : List A) → found R key k xs ≡ Some o → found R key k (exchanged R key y xs) ≡ Some y
  found-exchanged [] h = cc
  found-exchanged (x ∷ xs) h =
      ap (λ (c : K). found R key k (cond (is_eq (R (key x) c)) (y ∷ xs) (x ∷ exchanged R key y xs))) same
      ∙ at (is_eq (R (key x) k)) refl (found-exchanged xs) h
    where
      at : (b : Bool) → is_eq (R (key x) k) ≡ b → (found R key k xs ≡ Some o → found R key k (exchanged R key y xs) ≡ Some y) → cond b (Some x) (found R key k xs) ≡ Some o
          → found R key k (cond b (y ∷ xs) (x ∷ exchanged R key y xs)) ≡ Some y
      at true is more h = ap (λ (c : Ordering). cond (is_eq c) (Some y) (found R key k xs)) (ap (λ (n : K). R n k) same ∙ tied_itself total k)
      at false is more h = ap (λ (b : Bool). cond b (Some x) (found R key k (exchanged R key y xs))) is ∙ more h

module _ (w : World) (object : Name) (time : List ℕ) (s e : ℤ) (rows : List (List Cell)) where
  -- a table that was written is found as it was written
  written_found : (b : Bool) (f : Option Object) (o : Object) → is_physical object ≡ b → found name_cmp object_name object w.objects ≡ f → cond b f None ≡ Some o
      → object_at (record w { objects = exchanged name_cmp object_name (written_object o time s e rows) w.objects }) object ≡ Some (written_object o time s e rows)
  written_found false f o physical is h = cc
  written_found true f o physical is h =
      let there : found name_cmp object_name object w.objects ≡ Some o = is ∙ h in
      let name : o.name ≡ object = found_key name_cmp object_name names_exact object o w.objects there in
      ap (λ (b : Bool). cond b (found name_cmp object_name object (exchanged name_cmp object_name (written_object o time s e rows) w.objects)) None) physical
      ∙ found-exchanged name_cmp names_total object_name (written_object o time s e rows) o object name w.objects there

  body_ends : (columns : List Column) (b : Body) → ends_body columns time s b ≡ true → le_z s e ≡ true → are_before columns time e rows ≡ true → ends_body columns time e (written_body columns time s e rows b) ≡ true
  body_ends columns (Rows old) h le new = rewritten_before columns time s e old rows h le new
  body_ends columns (Stored own targets) h le new = refl

  by_object : (o : Option Object) → object_at w object ≡ o → ends_object o time s ≡ true → le_z s e ≡ true → ends_rows (object_at (written_at o w time s e rows) object) time e rows ≡ true → ends_object (object_at (written_at o w time s e rows) object) time e ≡ true
  by_object None is h le new = ap (λ o. ends_object o time e) is
  by_object (Some o) is h le new =
      let now = written_found (is_physical object) (found name_cmp object_name object w.objects) o refl refl is in
      ap (λ f. ends_object f time e) now ∙ body_ends o.columns o.body h le (ap (λ f. ends_rows f time e rows) (sym now) ∙ new)

  -- where a write adds rows behind those that are there, it is enough to look at them
  pub write_ends : (others : Bool) (v : World) → (others ≡ true → (ends_object (object_at w object) time s ≡ true) × (le_z s e ≡ true)) → v ≡ write_range w object time s e rows → ends_now others (object_at v object) time e rows ≡ true → ends_object (object_at v object) time e ≡ true
  write_ends false v known is h = h
  write_ends true v known is h =
      let k = known refl in
      ap (λ (u : World). ends_object (object_at u object) time e) is
      ∙ by_object (object_at w object) refl k.0 k.1 (ap (λ (u : World). ends_rows (object_at u object) time e rows) (sym is) ∙ h)

-- what is known of a world is known of another with its objects
known_alike : (w v : World) (l : Option Latest) → v.objects ≡ w.objects → is_known w l ≡ true → is_known v l ≡ true
known_alike w v None same h = refl
known_alike w v (Some l) same h = ap (λ os. ends_object (cond (is_physical l.object) (found name_cmp object_name l.object os) None) l.time l.end) same ∙ h

-- what is kept where no objects go
pub known_settled : (w v : World) (g : Gone) (kept : Bool) (l m : Option Latest) → (kept ≡ true → g.objects ≡ []) → v ≡ settled w g → m ≡ kept_if kept l → is_known w l ≡ true → is_known v m ≡ true
known_settled w v g true l m none is kept known =
    ap (is_known v) kept ∙ known_alike w v l (ap (λ (u : World). u.objects) is ∙ outside_empty name_cmp object_name g.objects w.objects (none refl)) known
known_settled w v g false l m none is kept known = ap (is_known v) kept

-- what is told of a table is known of a world where it is so
pub known_made : (w : World) (object : Name) (time : List ℕ) (e : ℤ) (o : Option Latest) → IfSome o (λ l. l ≡ record { object = object; time = time; end = e }) → ends_object (object_at w object) time e ≡ true → is_known w o ≡ true
known_made w object time e None told ends = refl
known_made w object time e (Some l) told ends = ap (λ (k : Latest). is_known w (Some k)) told ∙ ends
