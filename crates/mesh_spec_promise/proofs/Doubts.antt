-- A world that is kept well but for some parts is so but for more.
use Rattle.std.proofs.Common.{◌≡◌, zero, suc, Bool, true, false, not, ◌&&◌, ◌||◌, List, [], ◌∷◌, refl, ap, ◌∙◌, arith}
use Rattle.std.specs.List.{Contains, list_any}
use Rattle.mesh_house.specs.declared.world.Change.{Change}
use Rattle.mesh_spec_promise.specs.Histories.{left, taken_by}
use Rattle.mesh_base_values.specs.declared.kinds.Kind.{Kind}
use Rattle.mesh_base_values.specs.declared.kinds.Kind.TheVariants.{Full, View, Seed, Incremental}
use Rattle.mesh_base.specs.declared.snapshots.Snapshot.{Snapshot}
use Rattle.mesh_house_book.specs.declared.versions.Version.{Version}
use Rattle.mesh_spec_model.specs.Horizons.{Clock}
use Rattle.mesh_house.specs.declared.world.World.{World}
use Rattle.mesh_spec_changes.specs.due.Parts.{Parts, unit_of}
use Rattle.mesh_base.specs.declared.forgets.Forget.{Forget}
use Rattle.mesh_base.specs.declared.forgets.Forget.TheVariants.{Marks}
use Rattle.mesh_spec_promise.specs.Sound.{Sound, IsTableSound}

module _ (x y : Parts) (w : World) (more : (p : Forget) → y p ≡ false → x p ≡ false) where
  table_so : (clock : Clock) (s : Snapshot) (v : Version) (kind : Kind) → IsTableSound clock x w s v kind → IsTableSound clock y w s v kind
  table_so clock s v (Incremental time lookback) h = record { units = h.units; within = h.within; pieces = λ m u k held free. h.pieces m u k held (more (unit_of s.object u) free) }
  table_so clock s v Full h = record { no_later = h.no_later; rows = λ at free. h.rows at (more (Marks s.object) free) }
  table_so clock s v Seed h = h
  table_so clock s v View h = tt

  pub doubted : Sound x w → Sound y w
  doubted h = record {
    typed = h.typed;
    book = h.book;
    tables = λ clock shows s known v at. table_so clock s v s.own.kind (h.tables clock shows s known v at);
    objects = h.objects;
    views = h.views;
  }

any_taken : (made : List Change) (q : Forget) (c : Change) → Contains made c → taken_by c q ≡ true → list_any (λ d. taken_by d q) made ≡ true
any_taken [] q c (k, l, e) taken = absurd (omega (arith, l))
any_taken (d ∷ ds) q c (zero, l, e) taken = first (taken_by d q) (list_any (λ d. taken_by d q) ds) (ap (λ f. taken_by f q) e ∙ taken)
  where
    first : (a b : Bool) → a ≡ true → (a || b) ≡ true
    first true b h = refl
    first false b h = cc
any_taken (d ∷ ds) q c (suc k, l, e) taken = second (taken_by d q) (list_any (λ d. taken_by d q) ds) (any_taken ds q c (k, omega (arith, l), e) taken)
  where
    second : (a b : Bool) → b ≡ true → (a || b) ≡ true
    second true b h = refl
    second false b h = h

pub taken_left : (made : List Change) (x : Parts) (q : Forget) (c : Change) → Contains made c → taken_by c q ≡ true → left made x q ≡ false
taken_left made x q c k taken = go (x q) (list_any (λ d. taken_by d q) made) (any_taken made q c k taken)
  where
    go : (a b : Bool) → b ≡ true → (a && not b) ≡ false
    go false b h = refl
    go true true h = refl
    go true false h = cc
