-- Maps of a book: there is one, and where no two of its renames give one reference, no two snapshots become one.
use Rattle.std.proofs.Common.{◌≡◌, ℕ, zero, suc, ◌<◌, ◌≤◌, ◌+◌, nat_lt, Bool, true, false, cond, List, [], ◌∷◌, map, inl, inr, Some, None, refl, sym, ◌∙◌, ap, arith}
use Rattle.std.specs.declared.option.Option.{Option}
use Rattle.std.specs.List.{count_by}
use Rattle.std.specs.Cmp.{Equal-is}
use Rattle.std.specs.Ordering.{is_eq}
use Rattle.std.proofs.lemmas.Bool.{le-ltb}
use Rattle.std.proofs.lemmas.Cmp.{tied_itself}
use Rattle.std.proofs.lemmas.List.Sums.{sum_by-cons}
use Rattle.mesh_list.specs.Keyed.{found}
use Rattle.mesh_base.specs.declared.forgets.Rename.{Rename}
use Rattle.mesh_base.specs.declared.snapshots.Ref.{Ref}
use Rattle.mesh_base.specs.declared.snapshots.Snapshot.{Snapshot}
use Rattle.mesh_base.specs.Keys.{ref_cmp, refs_exact, refs_total, snapshot_ref}
use Rattle.mesh_house_book.specs.declared.book.Book.{Book}
use Rattle.mesh_house_book.specs.WellFormed.{is_well_formed_book, snapshot_at}
use Rattle.mesh_law_query.proofs.Has.{Has}
use Rattle.mesh_spec_changes.proofs.listed.Books.{fits}
use Rattle.mesh_spec_changes.proofs.listed.Lists.{none_passes}
use Rattle.mesh_house_book.specs.moves.Renames.{has_twins, renamed, renamed_all, renamed_snapshot, times}
use Rattle.mesh_janitor.specs.migrate.Migration.{IsMap, fingerprint_by, first_twins, rename_by, rename_new, twins_or}
use Rattle.mesh_janitor.proofs.migrate.Books.{below_limit, is_there, its_own, snapshots_ascend}
use Rattle.mesh_janitor.proofs.migrate.Put.{each_same, print_of, given_at}
use Rattle.mesh_janitor.specs.migrate.Walk.{limit_from}

module _ (b : Book) (well : is_well_formed_book b ≡ true) where
  abbrev all : List Snapshot
  all = b.snapshots

  -- what a map gives a reference of the book
  gives : (renames : List Rename) → IsMap b renames → (r : Ref) (p : Snapshot) → snapshot_at all r ≡ Some p → renamed renames r ≡ record r { fingerprint = fingerprint_by renames p }
  gives renames is r p e = ap (λ (m : List Rename). renamed m r) is ∙ given_at (fingerprint_by renames) all r p e

  module _ (one other : List Rename) (is_one : IsMap b one) (is_other : IsMap b other) where
    one_print : (limit : ℕ) (s : Snapshot) → Has s all → s.rank < limit → fingerprint_by one s ≡ fingerprint_by other s
    one_print zero s h low = absurd (omega (arith, low))
    one_print (suc limit) s h low = print_of one other s (each_same (renamed one) (renamed other) s.parents (each (one_print limit)))
      where
        each : ((t : Snapshot) → Has t all → t.rank < limit → fingerprint_by one t ≡ fingerprint_by other t) → (r : Ref) → Has r s.parents → renamed one r ≡ renamed other r
        each lower r k =
            let p = (fits b s well (its_own all (snapshots_ascend b well) s h)).parents r k in
            let same = lower p.snapshot (is_there all r p.snapshot p.known) (omega (arith, low, p.lower)) in
            gives one is_one r p.snapshot p.known
            ∙ ap (λ (f : List ℕ). record r { fingerprint = f }) same
            ∙ sym (gives other is_other r p.snapshot p.known)

    pub one_map : one ≡ other
    one_map = is_one ∙ each_same (rename_by one) (rename_by other) all each ∙ sym is_other
      where
        each : (s : Snapshot) → Has s all → rename_by one s ≡ rename_by other s
        each s h = ap (λ (f : List ℕ). record { old = snapshot_ref s; new = f }) (one_print (limit_from 0 all) s h (below_limit all 0 s h))

-- snapshots, of which each becomes one with the reference that a rename gives
module _ (g : Snapshot → Snapshot) (f : Snapshot → Rename) where
  abbrev AreSame : List Snapshot → Type 0
  AreSame xs = (x : Snapshot) → Has x xs → snapshot_ref (g x) ≡ rename_new (f x)

  abbrev has_ref : Ref → Snapshot → Bool
  has_ref r s = is_eq (ref_cmp r (snapshot_ref s))

  is_itself : (r k : Ref) → is_eq (ref_cmp r k) ≡ true → r ≡ k
  is_itself r k e = refs_exact r k ((Equal-is (ref_cmp r k)).0 e)

  equal_to : (r k : Ref) → r ≡ k → is_eq (ref_cmp k r) ≡ true
  equal_to r k e = ap (λ (z : Ref). is_eq (ref_cmp k z)) e ∙ ap is_eq (tied_itself refs_total k)

  counted : (r : Ref) (s : Snapshot) (ss : List Snapshot) (d : Bool) → has_ref r s ≡ d → count_by (has_ref r) (s ∷ ss) ≡ cond d 1 0 + count_by (has_ref r) ss
  counted r s ss d h = sum_by-cons (λ (t : Snapshot). cond (has_ref r t) 1 0) s ss ∙ ap (λ (e : Bool). cond e 1 0 + count_by (has_ref r) ss) h

  none_counts : (r : Ref) (xs : List Snapshot) → AreSame xs → found ref_cmp rename_new r (map f xs) ≡ None → count_by (has_ref r) (map g xs) ≡ 0
  none_counts r [] same none = refl
  none_counts r (x ∷ xs) same none = go (none_counts r xs (λ y k. same y (inr k))) (is_eq (ref_cmp (rename_new (f x)) r)) refl none
    where
      go : (found ref_cmp rename_new r (map f xs) ≡ None → count_by (has_ref r) (map g xs) ≡ 0) → (c : Bool) → is_eq (ref_cmp (rename_new (f x)) r) ≡ c
          → cond c (Some (f x)) (found ref_cmp rename_new r (map f xs)) ≡ None → count_by (has_ref r) (map g (x ∷ xs)) ≡ 0
      go more true e n = absurd (let clash : Some (f x) ≡ None = n in cc)
      go more false e n = at (has_ref r (g x)) refl
        where
          at : (d : Bool) → has_ref r (g x) ≡ d → count_by (has_ref r) (map g (x ∷ xs)) ≡ 0
          at true h =
              let is : r ≡ rename_new (f x) = is_itself r (snapshot_ref (g x)) h ∙ same x (inl refl) in
              absurd (let clash : true ≡ false = sym (equal_to r (rename_new (f x)) is) ∙ e in cc)
          at false h = omega (arith, counted r (g x) (map g xs) false h, more n)

  parted : (m : Rename) (ms : List Rename) → first_twins (m ∷ ms) ≡ None → (found ref_cmp rename_new (rename_new m) ms ≡ None) × (first_twins ms ≡ None)
  parted m ms none = go (found ref_cmp rename_new (rename_new m) ms) refl none
    where
      go : (o : Option Rename) → found ref_cmp rename_new (rename_new m) ms ≡ o → twins_or m o (first_twins ms) ≡ None → (found ref_cmp rename_new (rename_new m) ms ≡ None) × (first_twins ms ≡ None)
      go None e n = (e, n)
      go (Some other) e n = absurd (let clash : Some (m, other) ≡ None = n in cc)

  one_counts : (r : Ref) (xs : List Snapshot) → AreSame xs → first_twins (map f xs) ≡ None → count_by (has_ref r) (map g xs) ≤ 1
  one_counts r [] same none = omega arith
  one_counts r (x ∷ xs) same none = at (one_counts r xs (λ y k. same y (inr k)) (parted (f x) (map f xs) none).1) (has_ref r (g x)) refl
    where
      at : count_by (has_ref r) (map g xs) ≤ 1 → (d : Bool) → has_ref r (g x) ≡ d → count_by (has_ref r) (map g (x ∷ xs)) ≤ 1
      at few true h =
          let is : r ≡ rename_new (f x) = is_itself r (snapshot_ref (g x)) h ∙ same x (inl refl) in
          let rest : count_by (has_ref r) (map g xs) ≡ 0 = none_counts r xs (λ y k. same y (inr k)) (ap (λ (k : Ref). found ref_cmp rename_new k (map f xs)) is ∙ (parted (f x) (map f xs) none).0) in
          omega (arith, rest, counted r (g x) (map g xs) true h)
      at few false h = omega (arith, few, counted r (g x) (map g xs) false h)

  no_twins : (xs : List Snapshot) → AreSame xs → first_twins (map f xs) ≡ None → has_twins (map g xs) ≡ false
  no_twins xs same none =
      none_passes (λ (s : Snapshot). nat_lt 1 (times (snapshot_ref s) (map g xs))) (map g xs)
      (λ s h. le-ltb 1 (times (snapshot_ref s) (map g xs)) (one_counts (snapshot_ref s) xs same none))

pub moves_apart : (b : Book) (renames : List Rename) → is_well_formed_book b ≡ true → IsMap b renames → first_twins renames ≡ None → has_twins (renamed_all renames b.snapshots) ≡ false
moves_apart b renames well is none =
    no_twins (renamed_snapshot renames) (rename_by renames) b.snapshots
    (λ s h. ap (λ (r : Ref). record { name = s.name; fingerprint = r.fingerprint }) (gives b well renames is (snapshot_ref s) s (its_own b.snapshots (snapshots_ascend b well) s h)))
    (ap first_twins (sym is) ∙ none)
