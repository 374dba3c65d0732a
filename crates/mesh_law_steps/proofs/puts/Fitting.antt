-- The snapshot of a planned model, in a book that has those of its parents: it fits, and has the model's closure.
use Rattle.std.proofs.Common.{◌≡◌, ℕ, ℤ, zero, suc, ◌<◌, ◌≤◌, true, ◌&&◌, inl, inr, List, [], ◌∷◌, map, refl, ap, sym, ◌∙◌, arith}
use Rattle.std.specs.List.{slice_get}
use Rattle.std.specs.Option.{is_some, option_map}
use Rattle.std.specs.declared.option.Option.TheVariants.{None, Some}
use Rattle.std.proofs.lemmas.Bool.{le-leb, and_from as and_both}
use Rattle.mesh_base_values.specs.Names.{has_two_underscores}
use Rattle.mesh_base.specs.declared.snapshots.Node.{Node}
use Rattle.mesh_base.specs.declared.snapshots.Snapshot.{Snapshot}
use Rattle.mesh_base.specs.rules.Proper.{is_proper, stands_on}
use Rattle.mesh_house_book.specs.WellFormed.{are_kept, columns_at, is_snapshot_fit, parents_of, rank_at, snapshot_at, suits}
use Rattle.mesh_spec_model.specs.Closures.{Closure, Closures, Model, Alone, With, closures, each_of, with_parent}
use Rattle.mesh_law_query.proofs.Has.{Has}
use Rattle.mesh_spec_changes.specs.listed.Closing.{closed, closing, parents_by}
use Rattle.mesh_spec_changes.specs.due.Plans.{Planned}
use Rattle.mesh_spec_changes.specs.Changes.{parents_in, planned_ref, snapshot_of}
use Rattle.mesh_plan_due.proofs.Rows.{itself}
use Rattle.mesh_law_steps.proofs.puts.Models.{IsInFront, it_stands, its_closure, its_parents, planned_parent, rank_small}

-- parents are one list of closures
one_list : (cs ds : Closures) → each_of cs ≡ each_of ds → cs ≡ ds
one_list Alone Alone e = refl
one_list Alone (With d ds) e = absurd (cc)
one_list (With c cs) Alone e = absurd (cc)
one_list (With c cs) (With d ds) e =
    let first : c ≡ d = cc in
    let rest : each_of cs ≡ each_of ds = cc in
    λ i. With (first i) (one_list cs ds rest i)

module _ (nodes : List Node) (proper : is_proper nodes ≡ true) (models : List Planned) (made : map (λ (p : Planned). p.node) models ≡ nodes) (closes : map (λ (p : Planned). p.closure) models ≡ closures nodes)
    (t : ℤ) (all : List Snapshot) where
  abbrev closure : Planned → Closure
  closure p = p.closure

  -- a model's snapshot stands at its reference
  abbrev pub IsPut : Planned → Type 0
  IsPut q = snapshot_at all (planned_ref q) ≡ Some (snapshot_of t models q)

  closures_put : (depth : ℕ) (qs : List Planned) → ((q : Planned) → Has q qs → IsPut q × (closed all depth (snapshot_of t models q) ≡ q.closure)) → each_of (parents_by (closed all depth) all (map planned_ref qs)) ≡ map closure qs
  closures_put depth [] f = refl
  closures_put depth (q ∷ qs) f =
      let h = f q (inl refl) in
      ap (λ o. each_of (with_parent (option_map (closed all depth) o) (parents_by (closed all depth) all (map planned_ref qs)))) h.0
      ∙ (λ i. h.1 i ∷ closures_put depth qs (λ r k. f r (inr k)) i)

  parents_put : (qs : List Planned) → ((q : Planned) → Has q qs → IsPut q) → parents_of all (map planned_ref qs) ≡ map planned_parent qs
  parents_put [] f = refl
  parents_put (q ∷ qs) f = λ i. record { rank = rank_at (f q (inl refl) i); name = q.node.own.name; columns = columns_at (f q (inl refl) i) } ∷ parents_put qs (λ r k. f r (inr k)) i

  kept_put : (qs : List Planned) → ((q : Planned) → Has q qs → IsPut q) → are_kept all (map planned_ref qs) ≡ true
  kept_put [] f = refl
  kept_put (q ∷ qs) f = λ i. is_some (f q (inl refl) i) && kept_put qs (λ r k. f r (inr k)) i

  no_parents : (p : Planned) (qs : List Planned) → p.node.rank ≤ 0 → ((q : Planned) → Has q qs → q.node.rank < p.node.rank) → [] ≡ map closure qs
  no_parents p [] none f = refl
  no_parents p (q ∷ qs) none f = let low = f q (inl refl) in absurd (omega (arith, low, none))

  -- where the models at the first places are put
  module _ (bound : ℕ) (put : (j : ℕ) → j < bound → (q : Planned) → slice_get models j ≡ Some q → IsPut q) where
    abbrev Closes : ℕ → Planned → Type 0
    Closes depth q = q.node.rank ≤ depth → closed all depth (snapshot_of t models q) ≡ q.closure

    by_depth : (i : ℕ) → i ≤ bound → (p : Planned) → ((q : Planned) → Has q (parents_in models p) → IsInFront nodes proper models made closes i p q)
        → ((j : ℕ) → j < i → (q : Planned) → slice_get models j ≡ Some q → (depth : ℕ) → Closes depth q)
        → (parents : Closures) → each_of parents ≡ map closure (parents_in models p) → (depth : ℕ) → p.node.rank ≤ depth → closed all depth (snapshot_of t models p) ≡ Model p.node.own parents
    by_depth i inside p front rest parents are zero low = ap (Model p.node.own) (one_list Alone parents (no_parents p (parents_in models p) low (λ q h. (front q h).lower) ∙ sym are))
    by_depth i inside p front rest parents are (suc depth) low =
        ap (Model p.node.own) (one_list (parents_by (closed all depth) all (map planned_ref (parents_in models p))) parents (closures_put depth (parents_in models p) each ∙ sym are))
      where
        each : (q : Planned) → Has q (parents_in models p) → IsPut q × (closed all depth (snapshot_of t models q) ≡ q.closure)
        each q h =
            let f = front q h in
            let less = f.before in
            let lower = f.lower in
            (put f.place (omega (arith, less, inside)) q f.there, rest f.place less q f.there depth (omega (arith, lower, low)))

    closed_below : (k i : ℕ) → i < k → i ≤ bound → (p : Planned) → slice_get models i ≡ Some p → (depth : ℕ) → Closes depth p
    closed_below zero i l inside p e depth low = absurd (omega (arith, l))
    closed_below (suc k) i l inside p e depth low =
        let (parents, is, are) = its_closure nodes proper models made closes i p e in
        by_depth i inside p (its_parents nodes proper models made closes i p e) (λ j less q f. closed_below k j (omega (arith, l, less)) (omega (arith, inside, less)) q f) parents are depth low ∙ is

    -- the next one has its closure
    pub closing_put : (i : ℕ) → i ≤ bound → (p : Planned) → slice_get models i ≡ Some p → closing all (snapshot_of t models p) ≡ p.closure
    closing_put i inside p e = closed_below (suc i) i (omega arith) inside p e p.node.rank (omega arith)

    -- and fits the book, where two underscores adjoin in its object's schema
    pub fit_put : (i : ℕ) → i ≤ bound → (p : Planned) → slice_get models i ≡ Some p → (version : ℕ) → version ≡ 2 → has_two_underscores p.object.schema ≡ true → is_snapshot_fit version all None (snapshot_of t models p) ≡ true
    fit_put i inside p e version present underscores =
        let each : (q : Planned) → Has q (parents_in models p) → IsPut q = λ q h.
        let f = its_parents nodes proper models made closes i p e q h in
        let less = f.before in
        put f.place (omega (arith, less, inside)) q f.there in
        and_both _ _ underscores
        (and_both _ _ (itself p.node.own.name)
        (and_both _ _ (ap (λ v. suits v p.node.own.kind) present)
        (and_both _ _ (kept_put (parents_in models p) each)
        (and_both _ _ (le-leb p.node.rank 4095 (rank_small nodes proper models made closes i p e))
        (ap (λ ps. stands_on ps p.node.rank p.node.own) (parents_put (parents_in models p) each) ∙ it_stands nodes proper models made closes i p e)))))
