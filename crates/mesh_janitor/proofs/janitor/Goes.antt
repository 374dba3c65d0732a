-- What goes, and what stays, in the words of the janitor's definitions.
use Rattle.std.proofs.Common.{◌≡◌, ℕ, ℤ, zero, suc, ◌<◌, Bool, true, false, not, nat_eq, ◌⊎◌, inl, inr, List, [], ◌∷◌, sym, ap, ◌∙◌, subst, arith}
use Rattle.std.specs.Prelude.{◌↔◌, ◌&&◌, ◌||◌}
use Rattle.std.specs.List.{Contains, filter, list_any}
use Rattle.std.specs.Ordering.{is_eq}
use Rattle.std.proofs.Math.Bool.{or-true}
use Rattle.std.proofs.lemmas.Bool.{eq-eqb, not-true as not_true, and_from as and_both}
use Rattle.std.proofs.lemmas.Cmp.{tied_itself}
use Rattle.mesh_list.proofs.Ascends.{and_right}
use Rattle.mesh_base_values.specs.NameOrder.{names_total}
use Rattle.mesh_base.specs.declared.snapshots.Snapshot.{Snapshot}
use Rattle.mesh_house_book.specs.declared.book.Book.{Book}
use Rattle.mesh_house_book.specs.WellFormed.{is_well_formed_book}
use Rattle.mesh_spec_changes.specs.due.Parts.{same_name}
use Rattle.mesh_law_query.proofs.Has.{Has, Has_cases, Has_filter, Has_filter_from, Has_from, Has_left, Has_right, Has_to}
use Rattle.mesh_spec_changes.specs.Kept.{gone_snapshots, gone_tables, is_kept, is_table_kept, tables}
use Rattle.mesh_janitor.specs.janitor.Walk.{by_layers, gone_layer}
use Rattle.mesh_janitor.specs.migrate.Walk.{limit_from}
use Rattle.mesh_janitor.proofs.janitor.Books.{below_limit, snapshots_ascend}
use Rattle.mesh_janitor.proofs.janitor.Down.{below_or, layers_down}

module _ (p : Snapshot → Bool) (ss : List Snapshot) where
  abbrev at : ℕ → Snapshot → Bool
  at rank u = nat_eq u.rank rank && p u

  layers_have : (n : ℕ) (x : Snapshot) → Has x (by_layers p n ss) → Has x ss × (p x ≡ true)
  layers_have zero x h = absurd h
  layers_have (suc n) x h = go (Has_cases x (gone_layer p n ss) (by_layers p n ss) h) (layers_have n x)
    where
      go : Has x (gone_layer p n ss) ⊎ Has x (by_layers p n ss) → (Has x (by_layers p n ss) → Has x ss × (p x ≡ true)) → Has x ss × (p x ≡ true)
      go (inl k) more = let a = Has_filter_from (at n) ss x k in (a.0, and_right (nat_eq x.rank n) (p x) a.1)
      go (inr k) more = more k

  has_layers : (n : ℕ) (x : Snapshot) → Has x ss → p x ≡ true → x.rank < n → Has x (by_layers p n ss)
  has_layers zero x h passes l = absurd (omega (arith, l))
  has_layers (suc n) x h passes l = go (below_or x.rank n l) (has_layers n x h passes)
    where
      go : (x.rank < n) ⊎ (x.rank ≡ n) → (x.rank < n → Has x (by_layers p n ss)) → Has x (by_layers p (suc n) ss)
      go (inl m) more = Has_right x (gone_layer p n ss) (by_layers p n ss) (more m)
      go (inr e) more = Has_left x (gone_layer p n ss) (by_layers p n ss) (Has_filter (at n) ss x h (and_both (nat_eq x.rank n) (p x) (eq-eqb x.rank n e) passes))

pub gone_exactly : (b : Book) (t : ℤ) → is_well_formed_book b ≡ true → (s : Snapshot) → Contains (gone_snapshots b t) s ↔ (Contains b.snapshots s × (is_kept b t s ≡ false))
gone_exactly b t well s = (there, back)
  where
    there : Contains (gone_snapshots b t) s → Contains b.snapshots s × (is_kept b t s ≡ false)
    there h =
        let all = b.snapshots in
        let n = limit_from 0 all in
        let e = layers_down (λ u. not (is_kept b t u)) n all (snapshots_ascend b well) (below_limit all 0) in
        let a = layers_have (λ u. not (is_kept b t u)) all n s (subst (λ (l : List Snapshot). Has s l) (sym e) (Has_from (gone_snapshots b t) s h)) in
        (Has_to all s a.0, not_true (is_kept b t s) a.1)

    back : Contains b.snapshots s × (is_kept b t s ≡ false) → Contains (gone_snapshots b t) s
    back a =
        let all = b.snapshots in
        let n = limit_from 0 all in
        let e = layers_down (λ u. not (is_kept b t u)) n all (snapshots_ascend b well) (below_limit all 0) in
        let h = Has_from all s a.0 in
        Has_to (gone_snapshots b t) s (subst (λ (l : List Snapshot). Has s l) e (has_layers (λ u. not (is_kept b t u)) all n s h (ap not a.1) (below_limit all 0 s h)))

any_of : (p : Snapshot → Bool) (xs : List Snapshot) (x : Snapshot) → Has x xs → p x ≡ true → list_any p xs ≡ true
any_of p [] x h passes = absurd h
any_of p (y ∷ ys) x (inl e) passes = ap (λ (u : Snapshot). p u || list_any p ys) e ∙ ap (λ (b : Bool). b || list_any p ys) passes
any_of p (y ∷ ys) x (inr h) passes = ap (λ (b : Bool). p y || b) (any_of p ys x h passes) ∙ or-true (p y)

pub used_stays : (b : Book) (t : ℤ) (s : Snapshot) → Contains b.snapshots s → is_kept b t s ≡ true → Contains (gone_tables b t) s.object → ⊥
used_stays b t s c kept h =
    let a = Has_filter_from (λ n. not (is_table_kept b t n)) (tables b) s.object (Has_from (gone_tables b t) s.object h) in
    let gone = not_true (is_table_kept b t s.object) a.1 in
    let itself : same_name s.object s.object ≡ true = ap is_eq (tied_itself names_total s.object) in
    let used = any_of (λ (u : Snapshot). same_name u.object s.object) (filter (is_kept b t) b.snapshots) s (Has_filter (is_kept b t) b.snapshots s (Has_from b.snapshots s c) kept) itself in
    absurd (let clash : true ≡ false = sym used ∙ gone in cc)
