-- What a project is compared with, as the promise sees it.
use Rattle.std.proofs.Common.{◌≡◌, ℕ, zero, suc, Bool, true, false, cond, inl, inr, List, [], ◌∷◌, map, Some, None, refl, sym, ◌∙◌, ap}
use Rattle.std.specs.Option.{option_and_then, option_map}
use Rattle.std.specs.Ordering.{is_eq}
use Rattle.std.specs.declared.option.Option.{Option}
use Rattle.mesh_list.specs.Keyed.{found}
use Rattle.mesh_list.proofs.Ascends.{and_left}
use Rattle.mesh_base_values.specs.Names.{name_cmp, text_cmp}
use Rattle.mesh_base_values.specs.NameOrder.{names_exact}
use Rattle.mesh_base_values.specs.declared.values.Name.{Name}
use Rattle.mesh_base_values.proofs.Equals.{name_is as same_names, one_name}
use Rattle.mesh_base.specs.Keys.{env_name, ref_name, snapshot_ref}
use Rattle.mesh_base.specs.declared.snapshots.Env.{Env}
use Rattle.mesh_base.specs.declared.snapshots.Ref.{Ref}
use Rattle.mesh_base.specs.declared.snapshots.Snapshot.{Snapshot}
use Rattle.mesh_house_book.specs.declared.book.Book.{Book}
use Rattle.mesh_house_book.specs.WellFormed.{are_kept, is_kept, is_well_formed_book, snapshot_at}
use Rattle.mesh_house_book.proofs.Exchanged.{found_key}
use Rattle.mesh_spec_model.specs.Closures.{own_of}
use Rattle.mesh_law_query.proofs.Finding.{one_passes}
use Rattle.mesh_law_query.proofs.Has.{Has}
use Rattle.mesh_category.specs.category.Stated.{stated as stated_all, stated_name, stated_with}
use Rattle.mesh_spec_changes.specs.reuse.Categories.{Stated}
use Rattle.mesh_spec_changes.specs.listed.Closing.{closed, closing}
use Rattle.mesh_spec_changes.specs.listed.Listed.{as_node, entries, is_list_fit, listed}
use Rattle.mesh_spec_changes.proofs.listed.Books.{fits, its_ref, kept_at}
use Rattle.mesh_spec_changes.proofs.listed.Entries.{entry_of, env_lists_fit, is_entry, one_of_name}
use Rattle.mesh_spec_changes.proofs.listed.Projects.{closures_are}
use Rattle.mesh_spec_changes.specs.Environments.{env_at}
use Rattle.mesh_spec_changes.specs.Planning.{stated}
use Rattle.mesh_category.specs.versions.Clashes.{compared_in}
use Rattle.mesh_category.proofs.versions.Without.{all_at}

-- what is found stands in the list
pub found_there : {A K : Type 0} (R : K → K → _) (key : A → K) (k : K) (xs : List A) (x : A) → found R key k xs ≡ Some x → Has x xs
found_there R key k [] x e = absurd (let clash : None ≡ Some x = e in cc)
found_there {A} R key k (y ∷ ys) x e = go (is_eq (R (key y) k)) e (found_there R key k ys x)
  where
    go : (b : Bool) → cond b (Some y) (found R key k ys) ≡ Some x → (found R key k ys ≡ Some x → Has x ys) → Has x (y ∷ ys)
    go true f more = inl (let same : y ≡ x = cc in same)
    go false f more = inr (more f)

-- the environments of a well-formed book have lists that one may have
pub list_fits : (b : Book) (env : List ℕ) (e : Env) → is_well_formed_book b ≡ true → env_at b env ≡ Some e → is_list_fit b.snapshots e.list ≡ true
list_fits b env e well known = all_at (λ (e : Env). is_list_fit b.snapshots e.list ≡ true) b.environments (env_lists_fit b well) e (found_there text_cmp env_name env b.environments e known)

-- a snapshot's closure is that of its definition
own_is : (all : List Snapshot) (s : Snapshot) → own_of (closing all s) ≡ s.own
own_is all s = go s.rank
  where
    go : (rank : ℕ) → own_of (closed all rank s) ≡ s.own
    go zero = refl
    go (suc rank) = refl

module _ (b : Book) (base : List Ref) (well : is_well_formed_book b ≡ true) (fit : is_list_fit b.snapshots base ≡ true) where
  abbrev all : List Snapshot
  all = b.snapshots

  abbrev es : List Snapshot
  es = entries all base

  its_name : (s : Snapshot) → Has s es → stated_name (stated b s) ≡ s.name
  its_name s h = ap (λ o. o.name) (own_is all s) ∙ (fits b s well (is_entry all base fit s h).1).name

  -- the models of the list as they are compared
  stated_from : (ss : List Snapshot) → stated_with (map (as_node es) ss) (map (closing all) ss) ≡ map (stated b) ss
  stated_from [] = refl
  stated_from (s ∷ ss) = ap (λ (l : List Stated). stated b s ∷ l) (stated_from ss)

  stated_is : stated_all (listed all base) ≡ map (stated b) es
  stated_is = ap (stated_with (listed all base)) (closures_are b base well fit) ∙ stated_from es

  -- the one of a name
  found_one : (ss : List Snapshot) → ((s : Snapshot) → Has s ss → Has s es) → (q : Snapshot) → Has q ss → found name_cmp stated_name q.name (map (stated b) ss) ≡ Some (stated b q)
  found_one [] sub q h = absurd h
  found_one (s ∷ ss) sub q h = go (is_eq (name_cmp (stated_name (stated b s)) q.name)) refl h (found_one ss (λ t k. sub t (inr k)) q)
    where
      go : (t : Bool) → is_eq (name_cmp (stated_name (stated b s)) q.name) ≡ t → Has q (s ∷ ss) → (Has q ss → found name_cmp stated_name q.name (map (stated b) ss) ≡ Some (stated b q))
          → cond t (Some (stated b s)) (found name_cmp stated_name q.name (map (stated b) ss)) ≡ Some (stated b q)
      go true e k more =
          let names : s.name ≡ q.name = sym (its_name s (sub s (inl refl))) ∙ same_names _ _ e in
          let same : s ≡ q = one_of_name all base fit s q (sub s (inl refl)) (sub q k) names in
          ap (λ (x : Snapshot). Some (stated b x)) same
      go false e (inl same) more =
          let tied : is_eq (name_cmp (stated_name (stated b s)) q.name) ≡ true = one_name _ _ (its_name s (sub s (inl refl)) ∙ ap (λ (x : Snapshot). x.name) same) in
          let clash : true ≡ false = sym tied ∙ e in absurd (cc)
      go false e (inr k) more = more k

  found_none : (ss : List Snapshot) → ((s : Snapshot) → Has s ss → Has s es) → (name : Name) → ((s : Snapshot) → Has s ss → s.name ≡ name → ⊥) → found name_cmp stated_name name (map (stated b) ss) ≡ None
  found_none [] sub name none = refl
  found_none (s ∷ ss) sub name none = go (is_eq (name_cmp (stated_name (stated b s)) name)) refl (found_none ss (λ t k. sub t (inr k)) name (λ t k. none t (inr k)))
    where
      go : (t : Bool) → is_eq (name_cmp (stated_name (stated b s)) name) ≡ t → found name_cmp stated_name name (map (stated b) ss) ≡ None → cond t (Some (stated b s)) (found name_cmp stated_name name (map (stated b) ss)) ≡ None
      go true e more = absurd (none s (inl refl) (sym (its_name s (sub s (inl refl))) ∙ same_names _ _ e))
      go false e more = more

  -- no entry has a name that the list doesn't have
  away : (rs : List Ref) (name : Name) → found name_cmp ref_name name rs ≡ None → (r : Ref) → Has r rs → r.name ≡ name → ⊥
  away [] name e r h is = h
  away (q ∷ qs) name e r h is = go (is_eq (name_cmp q.name name)) refl e h (away qs name)
    where
      go : (t : Bool) → is_eq (name_cmp q.name name) ≡ t → cond t (Some q) (found name_cmp ref_name name qs) ≡ None → Has r (q ∷ qs)
          → (found name_cmp ref_name name qs ≡ None → (r : Ref) → Has r qs → r.name ≡ name → ⊥) → ⊥
      go true f e h more = let clash : Some q ≡ None = e in absurd (cc)
      go false f e (inl same) more = let clash : true ≡ false = sym (one_name q.name name (ap (λ (x : Ref). x.name) same ∙ is)) ∙ f in absurd (cc)
      go false f e (inr k) more = more e r k is

  -- a model's counterpart among them is the snapshot that the list has of it
  pub counterpart_is : (name : Name) → found name_cmp stated_name name (stated_all (listed all base)) ≡ option_map (stated b) (compared_in all base name)
  counterpart_is name = ap (found name_cmp stated_name name) stated_is ∙ go (found name_cmp ref_name name base) refl
    where
      there : (r : Ref) → found name_cmp ref_name name base ≡ Some r → (o : Option Snapshot) → snapshot_at all r ≡ o → found name_cmp stated_name name (map (stated b) es) ≡ option_map (stated b) o
      there r e None f =
          let kept : is_kept all r ≡ true = one_passes (is_kept all) base r (and_left (are_kept all base) _ fit) (found_there name_cmp ref_name name base r e) in
          let (s, k) = kept_at all r kept in
          let clash : None ≡ Some s = sym f ∙ k in absurd (cc)
      there r e (Some q) f =
          let ref : snapshot_ref q ≡ r = its_ref all r q f in
          let named : q.name ≡ name = ap (λ (x : Ref). x.name) ref ∙ found_key name_cmp ref_name names_exact name r base e in
          let h : Has q es = entry_of all base fit r q (found_there name_cmp ref_name name base r e) f in
          ap (λ (n : Name). found name_cmp stated_name n (map (stated b) es)) (sym named) ∙ found_one es (λ t k. k) q h

      go : (o : Option Ref) → found name_cmp ref_name name base ≡ o → found name_cmp stated_name name (map (stated b) es) ≡ option_map (stated b) (option_and_then (snapshot_at all) o)
      go None e = found_none es (λ t k. k) name (λ s h is. away base name e (snapshot_ref s) (is_entry all base fit s h).0 is)
      go (Some r) e = there r e (snapshot_at all r) refl
