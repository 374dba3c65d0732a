-- A model that is done stays so while another object's version changes, and while parts of other objects come into
-- doubt.
use Rattle.std.proofs.Common.{◌≡◌, Bool, true, false, cond, List, [], ◌∷◌, Some, refl, sym, ◌∙◌}
use Rattle.std.specs.Cmp.{Equal-is}
use Rattle.std.specs.List.{AllByRecursion}
use Rattle.std.specs.Ordering.{is_eq}
use Rattle.mesh_list.specs.Keyed.{exchanged}
use Rattle.mesh_base_values.specs.Names.{name_cmp}
use Rattle.mesh_base_values.specs.NameOrder.{names_exact}
use Rattle.mesh_base_values.specs.declared.kinds.Kind.{Kind}
use Rattle.mesh_base_values.specs.declared.kinds.Kind.TheVariants.{Full, View, Seed, Incremental}
use Rattle.mesh_base.specs.declared.snapshots.Snapshot.{Snapshot}
use Rattle.mesh_base_values.specs.declared.values.Name.{Name}
use Rattle.mesh_house_book.specs.declared.book.Book.{Book}
use Rattle.mesh_house_book.specs.declared.versions.Version.{Version}
use Rattle.mesh_house_book.specs.Changes.{version_object}
use Rattle.mesh_spec_model.specs.Closures.{Closure}
use Rattle.mesh_spec_model.specs.Horizons.{Clock}
use Rattle.mesh_house.specs.World.{version_of}
use Rattle.mesh_spec_changes.specs.listed.Closing.{closing}
use Rattle.mesh_spec_promise.specs.Current.{IsRecorded, IsCurrent, AreDone}
use Rattle.mesh_spec_changes.specs.due.Parts.{Parts, object_of, unit_of}
use Rattle.mesh_base.specs.declared.forgets.Forget.{Forget}
use Rattle.mesh_base.specs.declared.forgets.Forget.TheVariants.{Marks}
use Rattle.mesh_spec_changes.specs.due.Plans.{Planned}
use Rattle.mesh_spec_promise.proofs.Found.{found-exchanged}

module _ (clock : Clock) (x y : Parts) (b : Book) (old new : Version) (here : version_of b new.object ≡ Some old) (fewer : (q : Forget) → (object_of q ≡ new.object → ⊥) → x q ≡ false → y q ≡ false) where
  abbrev after : Book
  after = record b { versions = exchanged name_cmp version_object new b.versions }

  version_stays : (name : Name) → (name ≡ new.object → ⊥) → version_of after name ≡ version_of b name
  version_stays name other = found-exchanged name_cmp names_exact version_object new name old b.versions here ∙ go (is_eq (name_cmp new.object name)) refl
    where
      go : (c : Bool) → is_eq (name_cmp new.object name) ≡ c → cond c (Some new) (version_of b name) ≡ version_of b name
      go false e = refl
      go true e = absurd (other (sym (names_exact new.object name ((Equal-is (name_cmp new.object name)).0 e))))

  recorded_stays : (s : Snapshot) (c : Closure) (v : Version) → (s.object ≡ new.object → ⊥) → (kind : Kind) → IsRecorded clock x s c v kind → IsRecorded clock y s c v kind
  recorded_stays s c v other (Incremental time lookback) h = λ u k. ((h u k).0, fewer (unit_of s.object u) other (h u k).1)
  recorded_stays s c v other Full h = (h.0, fewer (Marks s.object) other h.1)
  recorded_stays s c v other View h = tt
  recorded_stays s c v other Seed h = h

  pub current_stays : (s : Snapshot) → (s.object ≡ new.object → ⊥) → IsCurrent clock x b s → IsCurrent clock y after s
  current_stays s other h = record {
    version = h.version;
    known = version_stays s.object other ∙ h.known;
    made = h.made;
    recorded = recorded_stays s (closing b.snapshots s) h.version other s.own.kind h.recorded;
  }

  pub done_stay : (ps : List Planned) → AllByRecursion (λ (p : Planned). p.object ≡ new.object → ⊥) ps → AreDone clock x b ps → AreDone clock y after ps
  done_stay [] others h = tt
  done_stay (p ∷ ps) others h = (
    record { snapshot = h.0.snapshot; known = h.0.known; own = h.0.own; object = h.0.object; closure = h.0.closure; current = current_stays h.0.snapshot (λ e. others.0 (sym h.0.object ∙ e)) h.0.current },
    done_stay ps others.1 h.1,
  )
