-- A stored snapshot of a model's reference has the model's closure.
use Rattle.std.proofs.Common.{◌+◌, max, nat_eq, ◌≡◌, ℕ, zero, suc, ◌<◌, true, inl, inr, List, [], ◌∷◌, ◌++◌, map, refl, ap, sym, ◌∙◌, subst, arith}
use Rattle.std.specs.List.{AllByRecursion, flat_map, slice_get}
use Rattle.std.specs.Option.{option_map, option_to_list}
use Rattle.std.specs.declared.option.Option.{Option}
use Rattle.std.specs.declared.option.Option.TheVariants.{None, Some}
use Rattle.std.proofs.lemmas.Bool.{and_parts, eqb-true}
use Rattle.std.proofs.lemmas.Option.{slice_get_within}
use Rattle.mesh_base.specs.declared.snapshots.Node.{Node}
use Rattle.mesh_base.specs.declared.snapshots.Ref.{Ref}
use Rattle.mesh_base.specs.declared.snapshots.Snapshot.{Snapshot}
use Rattle.mesh_base.specs.declared.rules.relations.Parent.{Parent}
use Rattle.mesh_base.specs.rules.Relations.{rank_over}
use Rattle.mesh_base.specs.rules.Proper.{is_proper, is_well_formed, parent_at}
use Rattle.mesh_base.specs.rules.Proper as proper_rules
use Rattle.mesh_house_book.specs.declared.book.Book.{Book}
use Rattle.mesh_house_book.specs.WellFormed.{is_well_formed_book, parents_of, rank_at, snapshot_at}
use Rattle.mesh_spec_model.specs.Closures.{Closure, Closures, Model, Alone, With, closures, each_of, with_parent}
use Rattle.mesh_law_query.proofs.Finding.{get_map}
use Rattle.mesh_law_query.proofs.Has.{Has}
use Rattle.mesh_law_query.proofs.Projects.{before_it, closures_there}
use Rattle.mesh_spec_changes.specs.listed.Closing.{IsSnapshot, closing, parents_by}
use Rattle.mesh_spec_changes.proofs.listed.Books.{fits, is_its_own, its_ref}
use Rattle.mesh_spec_changes.proofs.listed.Depths.{closing_is}
use Rattle.mesh_spec_changes.specs.due.Plans.{Planned}
use Rattle.mesh_spec_changes.specs.Changes.{parents_in, planned_ref}
use Rattle.mesh_law_reuse.proofs.Projects.{at_place, its_rank}

-- lists
pub place_there : {X : Type 0} (xs : List X) (x : X) → Has x xs → (i : ℕ) × (slice_get xs i ≡ Some x)
place_there [] x h = absurd h
place_there (y ∷ xs) x (inl e) = (0, ap Some e)
place_there (y ∷ xs) x (inr h) = let (i, e) = place_there xs x h in (suc i, e)

in_front : {X : Type 0} (front rest : List X) (i : ℕ) (x : X) → slice_get front i ≡ Some x → slice_get (front ++ rest) i ≡ Some x
in_front [] rest i x e = absurd (cc)
in_front (y ∷ front) rest zero x e = e
in_front (y ∷ front) rest (suc i) x e = in_front front rest i x e

pub each_at : {X : Type 0} (P : X → Type 0) (xs : List X) → AllByRecursion P xs → (i : ℕ) (x : X) → slice_get xs i ≡ Some x → P x
each_at P [] h i x e = absurd (cc)
each_at P (y ∷ xs) h zero x e = let same : y ≡ x = cc in subst P same h.0
each_at P (y ∷ xs) h (suc i) x e = each_at P xs h.1 i x e

mapped_there : {X Y : Type 0} (f : X → Y) (o : Option X) (y : Y) → option_map f o ≡ Some y → (x : X) × ((o ≡ Some x) × (f x ≡ y))
mapped_there f None y e = absurd (cc)
mapped_there f (Some x) y e = (x, (refl, (let same : f x ≡ y = cc in same)))

-- parents are one list of closures
as_each : (cs ds : Closures) → each_of cs ≡ each_of ds → cs ≡ ds
as_each Alone Alone e = refl
as_each Alone (With d ds) e = absurd (cc)
as_each (With c cs) Alone e = absurd (cc)
as_each (With c cs) (With d ds) e =
    let first : c ≡ d = cc in
    let rest : each_of cs ≡ each_of ds = cc in
    λ i. With (first i) (as_each cs ds rest i)

-- the least rank above some
abbrev over : ℕ → List ℕ → ℕ
over rank [] = rank
over rank (r ∷ rs) = over (max rank (r + 1)) rs

abbrev parent_rank : Parent → ℕ
parent_rank p = p.rank

over_ranks : (rank : ℕ) (ps : List Parent) → rank_over rank ps ≡ over rank (map parent_rank ps)
over_ranks rank [] = refl
over_ranks rank (p ∷ ps) = over_ranks (max rank (p.rank + 1)) ps

-- The models of a project with their closures, and a book in which a fingerprint of one of them stands for it alone.
module _ (b : Book) (well : is_well_formed_book b ≡ true) (nodes : List Node) (proper : is_proper nodes ≡ true) (models : List Planned)
    (made : map (λ (p : Planned). p.node) models ≡ nodes) (closed : map (λ (p : Planned). p.closure) models ≡ closures nodes)
    (stored : (i : ℕ) (p : Planned) → slice_get models i ≡ Some p → (s : Snapshot) → IsSnapshot b.snapshots s → s.fingerprint ≡ p.node.fingerprint → (s.own ≡ p.node.own) × (s.parents ≡ map planned_ref (parents_in models p))) where
  abbrev all : List Snapshot
  all = b.snapshots

  abbrev node : Planned → Node
  node p = p.node

  abbrev closure : Planned → Closure
  closure p = p.closure

  pub node_at : (i : ℕ) (p : Planned) → slice_get models i ≡ Some p → slice_get nodes i ≡ Some p.node
  node_at i p e = ap (λ l. slice_get l i) (sym made) ∙ get_map node models i ∙ ap (option_map node) e

  pub closure_at : (i : ℕ) (p : Planned) → slice_get models i ≡ Some p → slice_get (closures nodes) i ≡ Some p.closure
  closure_at i p e = ap (λ l. slice_get l i) (sym closed) ∙ get_map closure models i ∙ ap (option_map closure) e

  model_at : (i : ℕ) (m : Node) → slice_get nodes i ≡ Some m → (q : Planned) × (slice_get models i ≡ Some q)
  model_at i m e =
      let (q, (there, same)) = mapped_there node (slice_get models i) m (sym (get_map node models i) ∙ ap (λ l. slice_get l i) made ∙ e) in
      (q, there)

  abbrev planned_at : List ℕ → List Planned
  planned_at js = flat_map (λ i. option_to_list (slice_get models i)) js

  -- a model's snapshot has its closure and its rank
  abbrev pub IsSame : Planned → Snapshot → Type 0
  IsSame q u = (closing all u ≡ q.closure) × (u.rank ≡ q.node.rank)

  -- a model at a place, where it has a snapshot
  abbrev Same_at : ℕ → Type 0
  Same_at j = (q : Planned) × ((slice_get models j ≡ Some q) × ((u : Snapshot) → snapshot_at all (planned_ref q) ≡ Some u → IsSame q u))

  abbrev Kept : List Ref → Type 0
  Kept refs = (r : Ref) → Has r refs → (u : Snapshot) × (snapshot_at all r ≡ Some u)

  same_parents : (js : List ℕ) → ((j : ℕ) → Has j js → Same_at j) → Kept (map planned_ref (planned_at js))
      → each_of (parents_by (closing all) all (map planned_ref (planned_at js))) ≡ flat_map (λ i. option_to_list (slice_get (closures nodes) i)) js
  same_parents [] f g = refl
  same_parents (j ∷ js) f g =
      let (q, (e, c)) = f j (inl refl) in
      let rest : List Ref = map planned_ref (planned_at js) in
      let kept : Kept (planned_ref q ∷ rest) = subst (λ o. Kept (map planned_ref (option_to_list o ++ planned_at js))) e g in
      let (u, known) = kept (planned_ref q) (inl refl) in
      ap (λ o. each_of (parents_by (closing all) all (map planned_ref (option_to_list o ++ planned_at js)))) e
      ∙ ap (λ o. each_of (with_parent (option_map (closing all) o) (parents_by (closing all) all rest))) known
      ∙ (λ i. (c u known).0 i ∷ same_parents js (λ k h. f k (inr h)) (λ r h. kept r (inr h)) i)
      ∙ sym (ap (λ o. option_to_list o ++ flat_map (λ i. option_to_list (slice_get (closures nodes) i)) js) (closure_at j q e))

  same_ranks : (js : List ℕ) → ((j : ℕ) → Has j js → Same_at j) → Kept (map planned_ref (planned_at js)) → map parent_rank (parents_of all (map planned_ref (planned_at js))) ≡ map parent_rank (proper_rules.parents_at nodes js)
  same_ranks [] f g = refl
  same_ranks (j ∷ js) f g =
      let (q, (e, c)) = f j (inl refl) in
      let kept : Kept (planned_ref q ∷ map planned_ref (planned_at js)) = subst (λ o. Kept (map planned_ref (option_to_list o ++ planned_at js))) e g in
      let (u, known) = kept (planned_ref q) (inl refl) in
      ap (λ o. map parent_rank (parents_of all (map planned_ref (option_to_list o ++ planned_at js)))) e
      ∙ (λ i. (ap rank_at known ∙ (c u known).1) i ∷ same_ranks js (λ k h. f k (inr h)) (λ r h. kept r (inr h)) i)
      ∙ sym (ap (λ o. map parent_rank (parent_at o ++ proper_rules.parents_at nodes js)) (node_at j q e))

  -- a snapshot of a model's reference has its closure and its rank
  one_known : (i : ℕ) (p : Planned) → slice_get models i ≡ Some p → ((j : ℕ) → j < i → (q : Planned) → slice_get models j ≡ Some q → (u : Snapshot) → snapshot_at all (planned_ref q) ≡ Some u → IsSame q u)
      → (t : Snapshot) → snapshot_at all (planned_ref p) ≡ Some t → IsSame p t
  one_known i p e rest t there =
      let (before, (after, (whole, size))) = at_place nodes i p.node (node_at i p e) in
      let (parents, here, are) = closures_there nodes proper before after p.node whole in
      let both : Some (Model p.node.own parents) ≡ Some p.closure = sym here ∙ ap (slice_get (closures nodes)) size ∙ closure_at i p e in
      let same : Model p.node.own parents ≡ p.closure = cc in
      let its : IsSnapshot all t = is_its_own all (planned_ref p) t there in
      let fit = fits b t well its in
      let (own, refs) = stored i p e t its (ap (λ (r : Ref). r.fingerprint) (its_ref all (planned_ref p) t there)) in
      let at : (j : ℕ) → Has j p.node.parents → Same_at j =
      λ j h.
      let (m, known, lower) = before_it nodes proper before after p.node whole j h in
      let (q, f) = model_at j m (ap (λ l. slice_get l j) (sym whole) ∙ in_front before (p.node ∷ after) j m known) in
      let inside = slice_get_within before j m known in
      (q, (f, rest j (omega (arith, inside, size)) q f)) in
      let kept : Kept (map planned_ref (planned_at p.node.parents)) =
      subst Kept refs (λ r h. let parent = fit.parents r h in (parent.snapshot, parent.known)) in
      let its_parents : parents_by (closing all) all t.parents ≡ parents =
      ap (parents_by (closing all) all) refs
      ∙ as_each (parents_by (closing all) all (map planned_ref (planned_at p.node.parents))) parents (same_parents p.node.parents at kept ∙ sym are) in
      let stands = (and_parts (nat_eq t.rank (rank_over 0 (parents_of all t.parents))) (is_well_formed (parents_of all t.parents) t.own) fit.stands).0 in
      let rank : t.rank ≡ p.node.rank =
      eqb-true t.rank (rank_over 0 (parents_of all t.parents)) stands
      ∙ ap (λ l. rank_over 0 (parents_of all l)) refs
      ∙ over_ranks 0 (parents_of all (map planned_ref (planned_at p.node.parents)))
      ∙ ap (over 0) (same_ranks p.node.parents at kept)
      ∙ sym (over_ranks 0 (proper_rules.parents_at nodes p.node.parents))
      ∙ sym (its_rank nodes proper before after p.node whole) in
      (closing_is b well t its ∙ (λ i. Model (own i) (its_parents i)) ∙ same, rank)

  pub known_below : (k i : ℕ) → i < k → (p : Planned) → slice_get models i ≡ Some p → (t : Snapshot) → snapshot_at all (planned_ref p) ≡ Some t → IsSame p t
  known_below zero i l p e t there = absurd (omega (arith, l))
  known_below (suc k) i l p e t there = one_known i p e (λ j less q f u it. known_below k j (omega (arith, l, less)) q f u it) t there
