-- A snapshot's closure stays where other snapshots join the book, and where snapshots are put again with their
-- definitions and parents.
use Rattle.std.proofs.Common.{◌≡◌, ℕ, zero, suc, true, inl, inr, List, [], ◌∷◌, Some, refl, sym, ◌∙◌, ap}
use Rattle.std.specs.Option.{option_map}
use Rattle.std.specs.declared.option.Option.{Option}
use Rattle.mesh_base.specs.declared.snapshots.Ref.{Ref}
use Rattle.mesh_base.specs.declared.snapshots.Snapshot.{Snapshot}
use Rattle.mesh_house_book.specs.declared.book.Book.{Book}
use Rattle.mesh_house_book.specs.WellFormed.{snapshot_at, is_well_formed_book}
use Rattle.mesh_spec_model.specs.Closures.{Model, Alone, with_parent}
use Rattle.mesh_law_query.proofs.Has.{Has}
use Rattle.mesh_spec_changes.specs.listed.Closing.{closed, closing, parents_by, IsSnapshot, IsAlike}
use Rattle.mesh_spec_changes.proofs.listed.Books.{IsParent, fits, is_its_own}

module _ (b : Book) (well : is_well_formed_book b ≡ true) (all : List Snapshot) (alike : (r : Ref) (p : Snapshot) → snapshot_at b.snapshots r ≡ Some p → IsAlike all r p) where
  parents_stay : (depth : ℕ) → ((p q : Snapshot) → IsSnapshot b.snapshots p → q.own ≡ p.own → q.parents ≡ p.parents → closed all depth q ≡ closed b.snapshots depth p)
      → (rank : ℕ) (refs : List Ref) → ((r : Ref) → Has r refs → IsParent b.snapshots rank r) → parents_by (closed all depth) all refs ≡ parents_by (closed b.snapshots depth) b.snapshots refs
  parents_stay depth same rank [] h = refl
  parents_stay depth same rank (r ∷ rs) h =
      let p = h r (inl refl) in
      let q = alike r p.snapshot p.known in
      ap (λ (o : Option Snapshot). with_parent (option_map (closed all depth) o) (parents_by (closed all depth) all rs)) q.known
      ∙ (λ i. with_parent (Some (same p.snapshot q.snapshot (is_its_own b.snapshots r p.snapshot p.known) q.own q.parents i)) (parents_stay depth same rank rs (λ t k. h t (inr k)) i))
      ∙ sym (ap (λ (o : Option Snapshot). with_parent (option_map (closed b.snapshots depth) o) (parents_by (closed b.snapshots depth) b.snapshots rs)) p.known)

  closed_stays : (depth : ℕ) (p q : Snapshot) → IsSnapshot b.snapshots p → q.own ≡ p.own → q.parents ≡ p.parents → closed all depth q ≡ closed b.snapshots depth p
  closed_stays zero p q known own parents = λ i. Model (own i) Alone
  closed_stays (suc depth) p q known own parents =
      (λ i. Model (own i) (parents_by (closed all depth) all (parents i)))
      ∙ ap (Model p.own) (parents_stay depth (closed_stays depth) p.rank p.parents ((fits b p well known).parents))

  closing_stays : (p q : Snapshot) → IsSnapshot b.snapshots p → q.own ≡ p.own → q.parents ≡ p.parents → q.rank ≡ p.rank → closing all q ≡ closing b.snapshots p
  closing_stays p q known own parents rank = ap (λ (n : ℕ). closed all n q) rank ∙ closed_stays p.rank p q known own parents

pub closings_stay : (b : Book) → is_well_formed_book b ≡ true → (all : List Snapshot) → ((r : Ref) (p : Snapshot) → snapshot_at b.snapshots r ≡ Some p → IsAlike all r p)
    → (p q : Snapshot) → IsSnapshot b.snapshots p → q.own ≡ p.own → q.parents ≡ p.parents → q.rank ≡ p.rank → closing all q ≡ closing b.snapshots p
closings_stay b well all alike p q known own parents rank = closing_stays b well all alike p q known own parents rank
