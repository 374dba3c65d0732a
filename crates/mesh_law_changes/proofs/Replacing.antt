-- A world stays well kept where the rows of a table are replaced that aren't recorded.
use Rattle.std.proofs.Common.{◌≡◌, ℕ, true, false, List, Some, None, refl, sym, ◌∙◌, ap, subst}
use Rattle.std.specs.declared.option.Option.{Option}
use Rattle.std.specs.Option.{is_some}
use Rattle.mesh_base_values.specs.declared.kinds.Kind.{Kind}
use Rattle.mesh_base_values.specs.declared.kinds.Kind.TheVariants.{Full, View, Seed, Incremental}
use Rattle.mesh_base_values.specs.declared.values.Cell.{Cell}
use Rattle.mesh_base_values.specs.declared.values.Name.{Name}
use Rattle.mesh_base.specs.declared.forgets.Forget.TheVariants.{Marks}
use Rattle.mesh_base.specs.declared.snapshots.Snapshot.{Snapshot}
use Rattle.mesh_house_book.specs.declared.versions.Version.{Version}
use Rattle.mesh_spec_model.specs.Horizons.{Clock, Shows}
use Rattle.mesh_house.specs.declared.objects.Body.{Body}
use Rattle.mesh_house.specs.declared.objects.Body.TheVariants.{Rows, Stored}
use Rattle.mesh_house.specs.declared.objects.Object.{Object}
use Rattle.mesh_house.specs.declared.world.World.{World}
use Rattle.mesh_house.specs.declared.world.Change.TheVariants.{ReplaceRows}
use Rattle.mesh_house.specs.Step.{filled, filled_at, step, with_object}
use Rattle.mesh_house.specs.World.{object_at, version_of}
use Rattle.mesh_spec_changes.specs.listed.Closing.{closing, IsSnapshot}
use Rattle.mesh_spec_changes.specs.due.Marks.{marks}
use Rattle.mesh_spec_changes.specs.due.Parts.{Parts}
use Rattle.mesh_spec_promise.specs.Sound.{Sound, IsBodyOf, IsTableSound}
use Rattle.mesh_law_changes.proofs.Making.{one_put}

module _ (x : Parts) (w : World) (sound : Sound x w) (object : Name) (rows : List (List Cell))
    (timeless : (s : Snapshot) → IsSnapshot w.book.snapshots s → s.object ≡ object → (time : List ℕ) (lookback : ℕ) → s.own.kind ≡ Incremental time lookback → ⊥)
    (full : (s : Snapshot) → IsSnapshot w.book.snapshots s → s.object ≡ object → s.own.kind ≡ Full → (v : Version) → version_of w.book object ≡ Some v → x (Marks object) ≡ false → (clock : Clock) → Shows clock w.book.moment
    → v.marks ≡ Some (marks clock (closing w.book.snapshots s)) → ⊥)
    (seed : (s : Snapshot) → IsSnapshot w.book.snapshots s → s.object ≡ object → s.own.kind ≡ Seed → (v : Version) → version_of w.book object ≡ Some v → v.marks ≡ None) where
  still_table : (s : Snapshot) (kind : Kind) (old : List (List Cell)) → IsBodyOf w.book.snapshots s kind (Rows old) → IsBodyOf w.book.snapshots s kind (Rows rows)
  still_table s View old h = h
  still_table s (Incremental time lookback) old h = tt
  still_table s Full old h = tt
  still_table s Seed old h = tt

  module _ (o : Object) (here : object_at w object ≡ Some o) (old : List (List Cell)) (was : o.body ≡ Rows old) where
    abbrev new : Object
    new = record { name = object; columns = o.columns; body = Rows rows }

    table : (clock : Clock) → Shows clock w.book.moment → (s : Snapshot) → IsSnapshot w.book.snapshots s → s.object ≡ object → (v : Version) → version_of w.book s.object ≡ Some v → (kind : Kind) → s.own.kind ≡ kind → IsTableSound clock x w s v kind → IsTableSound clock x (with_object w new) s v kind
    table clock shows s known same v at (Incremental time lookback) is h = absurd (timeless s known same time lookback is)
    table clock shows s known same v at Full is h = record {
      no_later = h.no_later;
      rows = λ equal free. absurd (full s known same is v (ap (version_of w.book) (sym same) ∙ at) (ap (λ (n : Name). x (Marks n)) (sym same) ∙ free) clock shows equal);
    }
    table clock shows s known same v at Seed is h = λ some. absurd (let f : false ≡ true = sym (ap is_some (seed s known same is v (ap (version_of w.book) (sym same) ∙ at))) ∙ some in cc)
    table clock shows s known same v at View is h = tt

    replaced : Sound x (with_object w new)
    replaced =
        one_put x w sound new (sound.objects.named object o here)
        (λ s known same. still_table s s.own.kind old (subst (IsBodyOf w.book.snapshots s s.own.kind) was (sound.objects.bodies s known o (ap (object_at w) same ∙ here))))
        (λ s known same v at m. let i = sound.objects.made s known v at m in
        let one : o ≡ i.object = let both : Some o ≡ Some i.object = sym here ∙ ap (object_at w) (sym same) ∙ i.stands in cc in
        ap (λ (p : Object). p.columns) one ∙ i.columns)
        (λ clock shows s known same v at. table clock shows s known same v at s.own.kind refl (sound.tables clock shows s known v at))

  by_body : (o : Object) → object_at w object ≡ Some o → (b : Body) → o.body ≡ b → Sound x (filled b o.columns w object rows)
  by_body o here (Rows old) was = replaced o here old was
  by_body o here (Stored own targets) was = sound

  by_object : (o : Option Object) → object_at w object ≡ o → Sound x (filled_at o w object rows)
  by_object None here = sound
  by_object (Some o) here = by_body o here o.body refl

  pub rows_replaced : Sound x (step w (ReplaceRows object rows))
  rows_replaced = by_object (object_at w object) refl
