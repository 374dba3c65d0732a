-- Each snapshot's new fingerprint, put in place from the lowest rank up: what is put later changes none that stands.
use Rattle.std.proofs.Common.{◌≡◌, ℕ, zero, suc, ◌<◌, ◌≤◌, nat_eq, nat_le, ◌⊎◌, inl, inr, Bool, true, false, cond, List, [], ◌∷◌, map, Some, refl, sym, ◌∙◌, ap, subst, arith, eqb-true}
use Rattle.std.specs.declared.cmp.Ordering.{Ordering}
use Rattle.std.specs.declared.option.Option.{Option}
use Rattle.std.specs.Option.{option_map}
use Rattle.std.specs.Cmp.{Equal-is}
use Rattle.std.specs.Ordering.{is_eq}
use Rattle.std.proofs.lemmas.Bool.{eqb-false}
use Rattle.std.proofs.lemmas.Bool.Decides.{leb_tells}
use Rattle.std.proofs.lemmas.Cmp.{tied_itself}
use Rattle.sha2.specs.Sha256.{sha256}
use Rattle.mesh_list.specs.Keyed.{found}
use Rattle.mesh_list.proofs.Found.{found-placed}
use Rattle.mesh_base.specs.declared.forgets.Rename.{Rename}
use Rattle.mesh_base.specs.declared.snapshots.Ref.{Ref}
use Rattle.mesh_base.specs.declared.snapshots.Snapshot.{Snapshot}
use Rattle.mesh_base.specs.Keys.{ref_cmp, refs_exact, refs_total, snapshot_ref}
use Rattle.mesh_house_book.specs.declared.book.Book.{Book}
use Rattle.mesh_house_book.specs.WellFormed.{is_well_formed_book, snapshot_at}
use Rattle.mesh_canon_text.specs.Text.{node_text}
use Rattle.mesh_law_query.proofs.Has.{Has}
use Rattle.mesh_spec_changes.specs.listed.Closing.{IsSnapshot}
use Rattle.mesh_spec_changes.proofs.listed.Books.{fits, its_ref}
use Rattle.mesh_house_book.specs.moves.Renames.{rename_old, renamed, renamed_by}
use Rattle.mesh_janitor.specs.migrate.Migration.{IsMap, fingerprint_by, rename_by}
use Rattle.mesh_janitor.specs.migrate.Walk.{layer, layers, limit_from, put, rename_at}
use Rattle.mesh_janitor.proofs.migrate.Books.{below_limit, its_own, snapshots_ascend}
use Rattle.mesh_janitor.proofs.migrate.Found.{keeps_name}

-- the map gives a snapshot its fingerprint over those that the map gives its parents
abbrev IsNew : List Rename → Snapshot → Type 0
IsNew renames s = renamed renames (snapshot_ref s) ≡ record { name = s.name; fingerprint = fingerprint_by renames s }

pub each_same : {X Y : Type 0} (f g : X → Y) (xs : List X) → ((x : X) → Has x xs → f x ≡ g x) → map f xs ≡ map g xs
each_same f g [] same = refl
each_same f g (x ∷ xs) same = λ i. same x (inl refl) i ∷ each_same f g xs (λ y h. same y (inr h)) i

pub print_of : (one other : List Rename) (s : Snapshot) → map (renamed one) s.parents ≡ map (renamed other) s.parents → fingerprint_by one s ≡ fingerprint_by other s
print_of one other s e = ap (λ (parents : List Ref). sha256 (node_text s.own parents)) e

-- what a list that gives each snapshot a fingerprint gives the reference of one
module _ (new : Snapshot → List ℕ) where
  abbrev with_new : Snapshot → Rename
  with_new s = record { old = snapshot_ref s; new = new s }

  found_listed : (r : Ref) (ss : List Snapshot) → found ref_cmp rename_old r (map with_new ss) ≡ option_map with_new (found ref_cmp snapshot_ref r ss)
  found_listed r [] = refl
  found_listed r (s ∷ ss) = at (is_eq (ref_cmp (snapshot_ref s) r)) (found_listed r ss)
    where
      at : (c : Bool) → found ref_cmp rename_old r (map with_new ss) ≡ option_map with_new (found ref_cmp snapshot_ref r ss)
          → cond c (Some (with_new s)) (found ref_cmp rename_old r (map with_new ss)) ≡ option_map with_new (cond c (Some s) (found ref_cmp snapshot_ref r ss))
      at true more = refl
      at false more = more

  pub given_at : (all : List Snapshot) (r : Ref) (p : Snapshot) → snapshot_at all r ≡ Some p → renamed (map with_new all) r ≡ record r { fingerprint = new p }
  given_at all r p e = ap (λ (o : Option Rename). renamed_by o r) (found_listed r all ∙ ap (option_map with_new) e)

below : (m n : ℕ) → nat_eq m n ≡ false → m < suc n → m < n
below m n e low = go (nat_le n m) (leb_tells n m)
  where
    go : (c : Bool) → ((c ≡ true) × (n ≤ m)) ⊎ ((c ≡ false) × (m < n)) → m < n
    go c (inl (t, l)) = absurd (eqb-false m n e (omega (arith, low, l)))
    go c (inr (f, l)) = l

module _ (b : Book) (well : is_well_formed_book b ≡ true) where
  abbrev all : List Snapshot
  all = b.snapshots

  found_put : (renames : List Rename) (t : Snapshot) (r : Ref) → renamed (put renames t) r ≡ renamed_by (cond (is_eq (ref_cmp (snapshot_ref t) r)) (Some (rename_by renames t)) (found ref_cmp rename_old r renames)) r
  found_put renames t r = ap (λ (o : Option Rename). renamed_by o r) (found-placed ref_cmp refs_exact rename_old (rename_by renames t) r renames)

  elsewhere : (renames : List Rename) (t : Snapshot) (r : Ref) → is_eq (ref_cmp (snapshot_ref t) r) ≡ false → renamed (put renames t) r ≡ renamed renames r
  elsewhere renames t r e = found_put renames t r ∙ ap (λ (c : Bool). renamed_by (cond c (Some (rename_by renames t)) (found ref_cmp rename_old r renames)) r) e

  here : (renames : List Rename) (t : Snapshot) → renamed (put renames t) (snapshot_ref t) ≡ record { name = t.name; fingerprint = fingerprint_by renames t }
  here renames t = found_put renames t (snapshot_ref t)
      ∙ ap (λ (o : Ordering). renamed_by (cond (is_eq o) (Some (rename_by renames t)) (found ref_cmp rename_old (snapshot_ref t) renames)) (snapshot_ref t)) (tied_itself refs_total (snapshot_ref t))

  one_of : (s t : Snapshot) → IsSnapshot all s → IsSnapshot all t → snapshot_ref t ≡ snapshot_ref s → t ≡ s
  one_of s t known at same =
      let both : Some t ≡ Some s = sym at ∙ ap (snapshot_at all) same ∙ known in
      cc

  parents_stay : (renames : List Rename) (s t : Snapshot) → IsSnapshot all s → IsSnapshot all t → s.rank ≤ t.rank → map (renamed (put renames t)) s.parents ≡ map (renamed renames) s.parents
  parents_stay renames s t known at low = each_same (renamed (put renames t)) (renamed renames) s.parents each
    where
      each : (r : Ref) → Has r s.parents → renamed (put renames t) r ≡ renamed renames r
      each r h = go (is_eq (ref_cmp (snapshot_ref t) r)) refl
        where
          go : (c : Bool) → is_eq (ref_cmp (snapshot_ref t) r) ≡ c → renamed (put renames t) r ≡ renamed renames r
          go false e = elsewhere renames t r e
          go true e =
              let same : snapshot_ref t ≡ r = refs_exact (snapshot_ref t) r ((Equal-is (ref_cmp (snapshot_ref t) r)).0 e) in
              let p = (fits b s well known).parents r h in
              let its : Some t ≡ Some p.snapshot = sym at ∙ ap (snapshot_at all) same ∙ p.known in
              let one : t ≡ p.snapshot = cc in
              let rank : t.rank ≡ p.snapshot.rank = ap (λ (u : Snapshot). u.rank) one in
              absurd (omega (arith, low, rank, p.lower))

  print_stays : (renames : List Rename) (s t : Snapshot) → IsSnapshot all s → IsSnapshot all t → s.rank ≤ t.rank → fingerprint_by (put renames t) s ≡ fingerprint_by renames s
  print_stays renames s t known at low = print_of (put renames t) renames s (parents_stay renames s t known at low)

  is_made : (renames : List Rename) (t : Snapshot) → IsSnapshot all t → IsNew (put renames t) t
  is_made renames t at =
      here renames t ∙ ap (λ (f : List ℕ). record { name = t.name; fingerprint = f }) (sym (print_stays renames t t at at (omega arith)))

  is_kept : (renames : List Rename) (s t : Snapshot) → IsSnapshot all s → IsSnapshot all t → s.rank ≤ t.rank → IsNew renames s → IsNew (put renames t) s
  is_kept renames s t known at low new = go (is_eq (ref_cmp (snapshot_ref t) (snapshot_ref s))) refl
    where
      go : (c : Bool) → is_eq (ref_cmp (snapshot_ref t) (snapshot_ref s)) ≡ c → IsNew (put renames t) s
      go true e =
          let same : snapshot_ref t ≡ snapshot_ref s = refs_exact (snapshot_ref t) (snapshot_ref s) ((Equal-is (ref_cmp (snapshot_ref t) (snapshot_ref s))).0 e) in
          subst (λ (u : Snapshot). IsNew (put renames t) u) (one_of s t known at same) (is_made renames t at)
      go false e =
          elsewhere renames t (snapshot_ref s) e ∙ new
          ∙ ap (λ (f : List ℕ). record { name = s.name; fingerprint = f }) (sym (print_stays renames s t known at low))

  abbrev step : ℕ → List Rename → Snapshot → List Rename
  step rank renames t = cond (nat_eq t.rank rank) (put renames t) renames

  step_keeps : (rank : ℕ) (renames : List Rename) (s t : Snapshot) → IsSnapshot all s → IsSnapshot all t → s.rank ≤ rank → IsNew renames s → IsNew (step rank renames t) s
  step_keeps rank renames s t known at low new = go (nat_eq t.rank rank) refl
    where
      go : (c : Bool) → nat_eq t.rank rank ≡ c → IsNew (cond c (put renames t) renames) s
      go true e = let is : t.rank ≡ rank = eqb-true t.rank rank e in is_kept renames s t known at (omega (arith, low, is)) new
      go false e = new

  step_makes : (rank : ℕ) (renames : List Rename) (t : Snapshot) → IsSnapshot all t → nat_eq t.rank rank ≡ true → IsNew (step rank renames t) t
  step_makes rank renames t at e = subst (λ (c : Bool). IsNew (cond c (put renames t) renames) t) (sym e) (is_made renames t at)

  layer_keeps : (rank : ℕ) (ss : List Snapshot) (renames : List Rename) (s : Snapshot) → ((t : Snapshot) → Has t ss → IsSnapshot all t) → IsSnapshot all s → s.rank ≤ rank → IsNew renames s → IsNew (layer rank ss renames) s
  layer_keeps rank [] renames s each known low new = new
  layer_keeps rank (t ∷ ts) renames s each known low new =
      layer_keeps rank ts (step rank renames t) s (λ u h. each u (inr h)) known low (step_keeps rank renames s t known (each t (inl refl)) low new)

  layer_makes : (rank : ℕ) (ss : List Snapshot) (renames : List Rename) (s : Snapshot) → ((t : Snapshot) → Has t ss → IsSnapshot all t) → Has s ss → nat_eq s.rank rank ≡ true → s.rank ≤ rank → IsNew (layer rank ss renames) s
  layer_makes rank [] renames s each h e low = absurd h
  layer_makes rank (t ∷ ts) renames s each (inr h) e low = layer_makes rank ts (step rank renames t) s (λ u k. each u (inr k)) h e low
  layer_makes rank (t ∷ ts) renames s each (inl is) e low =
      let at : IsSnapshot all t = each t (inl refl) in
      let rank_is : nat_eq t.rank rank ≡ true = subst (λ (u : Snapshot). nat_eq u.rank rank ≡ true) (sym is) e in
      let t_low : t.rank ≤ rank = subst (λ (u : Snapshot). u.rank ≤ rank) (sym is) low in
      subst (λ (u : Snapshot). IsNew (layer rank (t ∷ ts) renames) u) is
      (layer_keeps rank ts (step rank renames t) t (λ u h. each u (inr h)) at t_low (step_makes rank renames t at rank_is))

  known_each : (t : Snapshot) → Has t all → IsSnapshot all t
  known_each = its_own all (snapshots_ascend b well)

  layers_new : (limit : ℕ) (renames : List Rename) (s : Snapshot) → Has s all → s.rank < limit → IsNew (layers limit all renames) s
  layers_new zero renames s h low = absurd (omega (arith, low))
  layers_new (suc rank) renames s h low = go (layers_new rank renames s h) (nat_eq s.rank rank) refl
    where
      go : (s.rank < rank → IsNew (layers rank all renames) s) → (c : Bool) → nat_eq s.rank rank ≡ c → IsNew (layer rank all (layers rank all renames)) s
      go more true e = layer_makes rank all (layers rank all renames) s known_each h e (omega (arith, low))
      go more false e =
          let lower : s.rank < rank = below s.rank rank e low in
          layer_keeps rank all (layers rank all renames) s known_each (known_each s h) (omega (arith, lower)) (more lower)

  -- the list of the map's fingerprints is a map of its own
  module _ (renames : List Rename) (new : (s : Snapshot) → Has s all → IsNew renames s) where
    abbrev made : List Rename
    made = map (rename_at renames) all

    same_at : (r : Ref) (p : Snapshot) → snapshot_at all r ≡ Some p → renamed made r ≡ renamed renames r
    same_at r p e =
        let by_list : renamed made r ≡ record r { fingerprint = (renamed renames (snapshot_ref p)).fingerprint } =
        given_at (λ (t : Snapshot). (renamed renames (snapshot_ref t)).fingerprint) all r p e in
        let its : snapshot_ref p ≡ r = its_ref all r p e in
        by_list ∙ ap (λ (k : Ref). record r { fingerprint = (renamed renames k).fingerprint }) its ∙ sym (keeps_name (found ref_cmp rename_old r renames) r)

    print_same : (s : Snapshot) → Has s all → fingerprint_by made s ≡ fingerprint_by renames s
    print_same s h = print_of made renames s (each_same (renamed made) (renamed renames) s.parents each)
      where
        each : (r : Ref) → Has r s.parents → renamed made r ≡ renamed renames r
        each r k = let p = (fits b s well (known_each s h)).parents r k in same_at r p.snapshot p.known

    pub is_map : IsMap b made
    is_map = each_same (rename_at renames) (rename_by made) all each
      where
        each : (s : Snapshot) → Has s all → rename_at renames s ≡ rename_by made s
        each s h = ap (λ (f : List ℕ). record { old = snapshot_ref s; new = f }) (ap (λ (r : Ref). r.fingerprint) (new s h) ∙ sym (print_same s h))

  pub walk_makes_the_map : (renames : List Rename) → IsMap b (map (rename_at (layers (limit_from 0 all) all renames)) all)
  walk_makes_the_map renames = is_map (layers (limit_from 0 all) all renames) (λ s h. layers_new (limit_from 0 all) renames s h (below_limit all 0 s h))
