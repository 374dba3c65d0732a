-- Snapshots by descending rank are those of each rank, one rank after another.
use Rattle.std.proofs.Common.{◌≡◌, ℕ, ℤ, not, map, zero, suc, ◌≤◌, ◌<◌, Bool, true, false, cond, ◌&&◌, nat_eq, ◌⊎◌, inl, inr, List, [], ◌∷◌, ◌++◌, refl, sym, ap, ◌∙◌, arith, eqb-true}
use Rattle.std.specs.List.{All, filter, flat_map}
use Rattle.std.specs.Cmp.{nat_cmp_is}
use Rattle.std.proofs.lemmas.Bool.{eq-eqb}
use Rattle.std.proofs.lemmas.List.{map-append}
use Rattle.std.specs.Ordering.{nat_cmp, ordering_reverse, ordering_then}
use Rattle.std.specs.declared.cmp.Ordering.{Ordering}
use Rattle.std.specs.declared.cmp.Ordering.TheVariants.{Less, Equal, Greater}
use Rattle.mesh_list.specs.Keyed.{ascends, below_first, placed, put_by}
use Rattle.mesh_list.proofs.Ascends.{and_left, and_right}
use Rattle.mesh_base.specs.Keys.{ref_cmp, refs_total, snapshot_ref}
use Rattle.mesh_base.specs.declared.snapshots.Ref.{Ref}
use Rattle.mesh_base.specs.declared.snapshots.Snapshot.{Snapshot}
use Rattle.mesh_house_book.specs.declared.book.Book.{Book}
use Rattle.mesh_house_book.specs.WellFormed.{is_well_formed_book}
use Rattle.mesh_house.specs.declared.world.Change.{Change}
use Rattle.mesh_law_query.proofs.Has.{Has, Has_cases, Has_filter_from}
use Rattle.mesh_spec_changes.specs.listed.Listed.{snapshot_itself}
use Rattle.mesh_spec_changes.proofs.listed.Lists.{below_each}
use Rattle.mesh_spec_changes.specs.Kept.{down_cmp, downwards, gone_snapshots, is_kept}
use Rattle.mesh_janitor.specs.janitor.Walk.{by_layers, deletes, deletes_by, deletes_of, goes, gone_layer, stays}
use Rattle.mesh_janitor.specs.migrate.Walk.{limit_from}
use Rattle.mesh_janitor.proofs.janitor.Books.{below_limit, snapshots_ascend}
use Rattle.mesh_janitor.proofs.janitor.Used.{filter_same}

pub below_or : (a n : ℕ) → a < suc n → (a < n) ⊎ (a ≡ n)
below_or zero zero l = inr refl
below_or zero (suc n) l = inl (omega arith)
below_or (suc a) zero l = absurd (omega arith)
below_or (suc a) (suc n) l = go (below_or a n (omega arith))
  where
    go : (a < n) ⊎ (a ≡ n) → (suc a < suc n) ⊎ (suc a ≡ suc n)
    go (inl m) = inl (omega (arith, m))
    go (inr e) = inr (ap suc e)

pub differs : (a n : ℕ) → (a ≡ n → ⊥) → nat_eq a n ≡ false
differs a n isnt = go (nat_eq a n) refl
  where
    go : (b : Bool) → nat_eq a n ≡ b → nat_eq a n ≡ false
    go true e = absurd (isnt (eqb-true a n e))
    go false e = e

module _ (p : Snapshot → Bool) (s : Snapshot) (ss : List Snapshot) where
  -- a snapshot that fails the test, or of another rank, makes isnt difference
  skip_layer : (rank : ℕ) → (nat_eq s.rank rank && p s) ≡ false → gone_layer p rank (s ∷ ss) ≡ gone_layer p rank ss
  skip_layer rank isnt = ap (λ (b : Bool). cond b (s ∷ gone_layer p rank ss) (gone_layer p rank ss)) isnt

  fails : (b : Bool) → p s ≡ false → (b && p s) ≡ false
  fails true isnt = isnt
  fails false isnt = refl

  skip_failing : (n : ℕ) → p s ≡ false → by_layers p n (s ∷ ss) ≡ by_layers p n ss
  skip_failing zero isnt = refl
  skip_failing (suc n) isnt = λ i. skip_layer n (fails (nat_eq s.rank n) isnt) i ++ skip_failing n isnt i

  other : (rank : ℕ) → (s.rank ≡ rank → ⊥) → (nat_eq s.rank rank && p s) ≡ false
  other rank isnt = ap (λ (b : Bool). b && p s) (differs s.rank rank isnt)

  skip_higher : (n : ℕ) → n ≤ s.rank → by_layers p n (s ∷ ss) ≡ by_layers p n ss
  skip_higher zero l = refl
  skip_higher (suc n) l = λ i. skip_layer n (other n (λ e. omega (arith, l, e))) i ++ skip_higher n (omega arith) i

  -- what stands in a layer, and in layers
  in_layer : (rank : ℕ) (x : Snapshot) → Has x (gone_layer p rank ss) → Has x ss × (x.rank ≡ rank)
  in_layer rank x h =
      let a = Has_filter_from (λ (u : Snapshot). nat_eq u.rank rank && p u) ss x h in
      (a.0, eqb-true x.rank rank (and_left (nat_eq x.rank rank) (p x) a.1))

  in_layers : (n : ℕ) (x : Snapshot) → Has x (by_layers p n ss) → Has x ss × (x.rank < n)
  in_layers zero x h = absurd h
  in_layers (suc n) x h = go (Has_cases x (gone_layer p n ss) (by_layers p n ss) h) (in_layers n x)
    where
      go : Has x (gone_layer p n ss) ⊎ Has x (by_layers p n ss) → (Has x (by_layers p n ss) → Has x ss × (x.rank < n)) → Has x ss × (x.rank < suc n)
      go (inl k) more = let a = in_layer n x k in (a.0, omega (arith, a.1))
      go (inr k) more = let a = more k in (a.0, omega (arith, a.1))

  by_order : (o : Ordering) (x : Snapshot) (xs : List Snapshot) → down_cmp x s ≡ o → placed down_cmp snapshot_itself s (x ∷ xs) ≡ put_by o x s xs (placed down_cmp snapshot_itself s xs)
  by_order o x xs is = ap (λ (r : Ordering). put_by r x s xs (placed down_cmp snapshot_itself s xs)) is

  placed_first : (xs : List Snapshot) → ((x : Snapshot) → Has x xs → down_cmp x s ≡ Greater) → placed down_cmp snapshot_itself s xs ≡ s ∷ xs
  placed_first [] f = refl
  placed_first (x ∷ xs) f = by_order Greater x xs (f x (inl refl))

  placed_later : (xs ys : List Snapshot) → ((x : Snapshot) → Has x xs → down_cmp x s ≡ Less) → placed down_cmp snapshot_itself s (xs ++ ys) ≡ xs ++ placed down_cmp snapshot_itself s ys
  placed_later [] ys f = refl
  placed_later (x ∷ xs) ys f = by_order Less x (xs ++ ys) (f x (inl refl)) ∙ ap (λ (l : List Snapshot). x ∷ l) (placed_later xs ys (λ y h. f y (inr h)))

  by_rank : (x : Snapshot) (o : Ordering) → o ≡ nat_cmp s.rank x.rank → down_cmp x s ≡ ordering_then o (ref_cmp (snapshot_ref x) (snapshot_ref s))
  by_rank x o is = ap (λ (r : Ordering). ordering_then r (ref_cmp (snapshot_ref x) (snapshot_ref s))) (sym is)

  module _ (up : ascends ref_cmp snapshot_ref (s ∷ ss) ≡ true) (passes : p s ≡ true) where
    above : (x : Snapshot) → Has x ss → ref_cmp (snapshot_ref x) (snapshot_ref s) ≡ Greater
    above x h =
        let less = below_each ref_cmp refs_total snapshot_ref (snapshot_ref s) ss (and_left (below_first ref_cmp snapshot_ref (snapshot_ref s) ss) (ascends ref_cmp snapshot_ref ss) up)
        (and_right (below_first ref_cmp snapshot_ref (snapshot_ref s) ss) (ascends ref_cmp snapshot_ref ss) up) x h in
        refs_total.antisymm (snapshot_ref x) (snapshot_ref s) ∙ ap ordering_reverse less

    behind : (n : ℕ) → s.rank ≡ n → (x : Snapshot) → Has x (gone_layer p n ss ++ by_layers p n ss) → down_cmp x s ≡ Greater
    behind n e x h = go (Has_cases x (gone_layer p n ss) (by_layers p n ss) h)
      where
        go : Has x (gone_layer p n ss) ⊎ Has x (by_layers p n ss) → down_cmp x s ≡ Greater
        go (inl k) = let a = in_layer n x k in by_rank x Equal (nat_cmp_is s.rank x.rank Equal (e ∙ sym a.1)) ∙ above x a.0
        go (inr k) = let a = in_layers n x k in by_rank x Greater (nat_cmp_is s.rank x.rank Greater (omega (arith, a.1, e)))

    pub one_more : (n : ℕ) → s.rank < n → by_layers p n (s ∷ ss) ≡ placed down_cmp snapshot_itself s (by_layers p n ss)
    one_more zero l = absurd (omega arith)
    one_more (suc n) l = go (below_or s.rank n l) (one_more n)
      where
        taken : s.rank ≡ n → (nat_eq s.rank n && p s) ≡ true
        taken e = (λ i. nat_eq (e i) n && passes i) ∙ ap (λ (b : Bool). b && true) (eq-eqb n n refl)

        go : (s.rank < n) ⊎ (s.rank ≡ n) → (s.rank < n → by_layers p n (s ∷ ss) ≡ placed down_cmp snapshot_itself s (by_layers p n ss)) → by_layers p (suc n) (s ∷ ss) ≡ placed down_cmp snapshot_itself s (by_layers p (suc n) ss)
        go (inl m) more =
            (λ i. skip_layer n (other n (λ e. omega (arith, m, e))) i ++ more m i)
            ∙ sym (placed_later (gone_layer p n ss) (by_layers p n ss) (λ x h. let a = in_layer n x h in by_rank x Less (nat_cmp_is s.rank x.rank Less (omega (arith, m, a.1)))))
        go (inr e) more =
            (λ i. cond (taken e i) (s ∷ gone_layer p n ss) (gone_layer p n ss) ++ skip_higher n (omega (arith, e)) i)
            ∙ sym (placed_first (gone_layer p n ss ++ by_layers p n ss) (behind n e))

no_layers : (p : Snapshot → Bool) (n : ℕ) → by_layers p n [] ≡ []
no_layers p zero = refl
no_layers p (suc n) = no_layers p n

pub layers_down : (p : Snapshot → Bool) (n : ℕ) (ss : List Snapshot) → ascends ref_cmp snapshot_ref ss ≡ true → ((s : Snapshot) → Has s ss → s.rank < n) → by_layers p n ss ≡ downwards (filter p ss)
layers_down p n [] up low = no_layers p n
layers_down p n (s ∷ ss) up low =
    go (p s) refl (layers_down p n ss (and_right (below_first ref_cmp snapshot_ref (snapshot_ref s) ss) (ascends ref_cmp snapshot_ref ss) up) (λ t h. low t (inr h)))
  where
    go : (b : Bool) → p s ≡ b → by_layers p n ss ≡ downwards (filter p ss) → by_layers p n (s ∷ ss) ≡ downwards (cond b (s ∷ filter p ss) (filter p ss))
    go true e more = one_more p s ss up e n (low s (inl refl)) ∙ ap (placed down_cmp snapshot_itself s) more
    go false e more = skip_failing p s ss n e ∙ more

-- and the changes that take them out
layer_deletes : (p : Snapshot → Bool) (rank : ℕ) (ss : List Snapshot) → flat_map (deletes_of p rank) ss ≡ map deletes (gone_layer p rank ss)
layer_deletes p rank [] = refl
layer_deletes p rank (s ∷ ss) = go (nat_eq s.rank rank && p s) (layer_deletes p rank ss)
  where
    go : (b : Bool) → flat_map (deletes_of p rank) ss ≡ map deletes (gone_layer p rank ss)
        → cond b (deletes s ∷ []) [] ++ flat_map (deletes_of p rank) ss ≡ map deletes (cond b (s ∷ gone_layer p rank ss) (gone_layer p rank ss))
    go true more = ap (λ (l : List Change). deletes s ∷ l) more
    go false more = more

all_deletes : (p : Snapshot → Bool) (n : ℕ) (ss : List Snapshot) → deletes_by p n ss ≡ map deletes (by_layers p n ss)
all_deletes p zero ss = refl
all_deletes p (suc n) ss = (λ i. layer_deletes p n ss i ++ all_deletes p n ss i) ∙ sym (map-append deletes (gone_layer p n ss) (by_layers p n ss))

pub gone_deletes : (b : Book) → is_well_formed_book b ≡ true → (t : ℤ) (wanted : List Ref) → All (λ (s : Snapshot). stays t wanted s ≡ is_kept b t s) b.snapshots
    → deletes_by (goes t wanted) (limit_from 0 b.snapshots) b.snapshots ≡ map deletes (gone_snapshots b t)
gone_deletes b well t wanted same =
    all_deletes (goes t wanted) (limit_from 0 b.snapshots) b.snapshots
    ∙ ap (map deletes)
    (layers_down (goes t wanted) (limit_from 0 b.snapshots) b.snapshots (snapshots_ascend b well) (below_limit b.snapshots 0)
    ∙ ap downwards (filter_same (goes t wanted) (λ s. not (is_kept b t s)) b.snapshots (λ k d l. ap not (same k d l))))
