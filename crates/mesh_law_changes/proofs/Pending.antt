-- A world stays well kept where an environment is pending, with a list that fits the book and whose objects are made.
use Rattle.std.proofs.Common.{◌≡◌, ℕ, ℤ, zero, suc, Bool, true, false, cond, ◌⊎◌, inl, inr, nat_le, List, [], ◌∷◌, length, Some, None, refl, sym, ◌∙◌, ap, subst, arith}
use Rattle.std.specs.Option.{ForSome, is_some}
use Rattle.std.specs.declared.option.Option.{Option}
use Rattle.std.specs.Cmp.{Equal-is}
use Rattle.std.specs.List.{Contains, list_all}
use Rattle.std.specs.Ordering.{is_eq}
use Rattle.std.proofs.lemmas.Cmp.{tied_itself}
use Rattle.std.proofs.lemmas.Map.Lookups.{exact_bytes}
use Rattle.std.proofs.lemmas.Bool.{and_from as and_both}
use Rattle.mesh_list.specs.Keyed.{ascends, exchanged, found, placed}
use Rattle.mesh_list.proofs.Ascends.{and_left, and_right, ascends-placed}
use Rattle.mesh_list.proofs.Found.{found-placed}
use Rattle.mesh_base_values.specs.Names.{name_cmp, text_cmp}
use Rattle.mesh_base_values.specs.NameOrder.{texts_total}
use Rattle.mesh_base.specs.Keys.{env_name, ref_cmp, ref_itself, ref_name, refs_exact, refs_total}
use Rattle.mesh_base.specs.declared.snapshots.Env.{Env}
use Rattle.mesh_base.specs.declared.snapshots.Ref.{Ref}
use Rattle.mesh_base.specs.declared.snapshots.Snapshot.{Snapshot}
use Rattle.mesh_house_book.specs.Changes.{joined, previous_of, put_for, with_refs}
use Rattle.mesh_house_book.specs.WellFormed.{are_kept, has_parents, have_parents, is_kept, is_listed, parents_at, snapshot_at}
use Rattle.mesh_house_book.proofs.Exchanged.{found_key}
use Rattle.mesh_spec_changes.specs.listed.Listed.{is_list_fit}
use Rattle.mesh_house.specs.declared.world.World.{World}
use Rattle.mesh_house.specs.declared.world.Change.TheVariants.{SetPending}
use Rattle.mesh_house.specs.Step.{step}
use Rattle.mesh_house.proofs.Tested.{all-placed}
use Rattle.mesh_spec_changes.specs.due.Parts.{Parts}
use Rattle.mesh_spec_changes.specs.Environments.{IsEnv, env_at, view_in}
use Rattle.mesh_spec_promise.specs.Sound.{Sound, IsEntry, IsObjectMade}
use Rattle.mesh_spec_promise.proofs.Ends.{found_contained}
use Rattle.mesh_law_changes.proofs.Envs.{env_own, env_put, envs_keep, envs_rise, with_envs}
use Rattle.mesh_law_changes.proofs.EnvLaws.{instead_found, instead_keep, instead_rise, is_old, own_of_old}
use Rattle.mesh_law_changes.proofs.Rising.{all_pass, item_passes}

same_ref : (r : Ref) → is_eq (ref_cmp r r) ≡ true
same_ref r = (Equal-is (ref_cmp r r)).1 (tied_itself refs_total r)

-- what is listed stands in the list
pub listed_contained : (list : List Ref) (r : Ref) → is_listed list r ≡ true → Contains list r
listed_contained list r h = go (found ref_cmp ref_itself r list) refl h
  where
    go : (o : Option Ref) → found ref_cmp ref_itself r list ≡ o → is_some o ≡ true → Contains list r
    go None f k = absurd (let g : false ≡ true = k in cc)
    go (Some t) f k = subst (Contains list) (found_key ref_cmp ref_itself refs_exact r t list f) (found_contained ref_cmp ref_itself r t list f)

pub contained_listed : (list : List Ref) (r : Ref) → Contains list r → is_listed list r ≡ true
contained_listed [] r (k, l, e) = absurd (omega (arith, l))
contained_listed (q ∷ qs) r (zero, l, e) = ap (λ (b : Bool). is_some (cond b (Some q) (found ref_cmp ref_itself r qs))) (ap (λ (t : Ref). is_eq (ref_cmp t r)) e ∙ same_ref r)
contained_listed (q ∷ qs) r (suc k, l, e) = go (is_eq (ref_cmp q r)) (contained_listed qs r (k, omega (arith, l), e))
  where
    go : (b : Bool) → is_listed qs r ≡ true → is_some (cond b (Some q) (found ref_cmp ref_itself r qs)) ≡ true
    go true more = refl
    go false more = more

-- one reference more
placed_listed : (q : Ref) (list : List Ref) (r : Ref) → is_listed list r ≡ true → is_listed (placed ref_cmp ref_itself q list) r ≡ true
placed_listed q list r h = ap is_some (found-placed ref_cmp refs_exact ref_itself q r list) ∙ go (is_eq (ref_cmp q r))
  where
    go : (b : Bool) → is_some (cond b (Some q) (found ref_cmp ref_itself r list)) ≡ true
    go true = refl
    go false = h

placed_itself : (q : Ref) (list : List Ref) → is_listed (placed ref_cmp ref_itself q list) q ≡ true
placed_itself q list = ap is_some (found-placed ref_cmp refs_exact ref_itself q q list) ∙ ap (λ (b : Bool). is_some (cond b (Some q) (found ref_cmp ref_itself q list))) (same_ref q)

-- more of them
first_listed : (all rs : List Ref) (r : Ref) → is_listed all r ≡ true → is_listed (with_refs all rs) r ≡ true
first_listed all [] r h = h
first_listed all (q ∷ qs) r h = first_listed (placed ref_cmp ref_itself q all) qs r (placed_listed q all r h)

second_listed : (all rs : List Ref) (r : Ref) → Contains rs r → is_listed (with_refs all rs) r ≡ true
second_listed all [] r (k, l, e) = absurd (omega (arith, l))
second_listed all (q ∷ qs) r (zero, l, e) = first_listed (placed ref_cmp ref_itself q all) qs r (subst (λ (t : Ref). is_listed (placed ref_cmp ref_itself q all) t ≡ true) e (placed_itself q all))
second_listed all (q ∷ qs) r (suc k, l, e) = second_listed (placed ref_cmp ref_itself q all) qs r (k, omega (arith, l), e)

with_pass : (p : Ref → Bool) (all rs : List Ref) → list_all p all ≡ true → list_all p rs ≡ true → list_all p (with_refs all rs) ≡ true
with_pass p all [] h k = h
with_pass p all (q ∷ qs) h k = with_pass p (placed ref_cmp ref_itself q all) qs (all-placed ref_cmp ref_itself p q (and_left (p q) (list_all p qs) k) all h) (and_right (p q) (list_all p qs) k)

joined_pass : (p : Ref → Bool) (a b : List Ref) → list_all p a ≡ true → list_all p b ≡ true → list_all p (joined a b) ≡ true
joined_pass p a b h k = with_pass p (with_refs [] a) b (with_pass p [] a refl h) k

joined_first : (a b : List Ref) (r : Ref) → Contains a r → is_listed (joined a b) r ≡ true
joined_first a b r h = first_listed (with_refs [] a) b r (second_listed [] a r h)

joined_second : (a b : List Ref) (r : Ref) → Contains b r → is_listed (joined a b) r ≡ true
joined_second a b r h = second_listed (with_refs [] a) b r h

-- the parents of entries stand in a longer list too
parents_grow : (all : List Snapshot) (list more refs : List Ref) → ((r : Ref) → Contains list r → is_listed more r ≡ true) → have_parents all list refs ≡ true → have_parents all more refs ≡ true
parents_grow all list more refs grows h =
    all_pass (has_parents all more) refs (λ r k. all_pass (is_listed more) (parents_at (snapshot_at all r))
    (λ q l. grows q (listed_contained list q (item_passes (is_listed list) (parents_at (snapshot_at all r)) q (item_passes (has_parents all list) refs r h k) l))))

module _ (x : Parts) (w : World) (sound : Sound x w) where
  abbrev all : List Snapshot
  all = w.book.snapshots

  module _ (old : Env) (known : IsEnv w.book old) where
    own : env_own all old ≡ true
    own = own_of_old x w sound old known

    old_list : are_kept all old.list ≡ true
    old_list = and_left (are_kept all old.list) _ own

    old_previous : are_kept all old.previous ≡ true
    old_previous = and_left (are_kept all old.previous) _ (and_right (are_kept all old.list) _ own)

    old_parents : have_parents all old.list old.list ≡ true
    old_parents =
        let a = and_right (are_kept all old.previous) _ (and_right (are_kept all old.list) _ own) in
        and_right (ascends name_cmp ref_name old.list) _ (and_right (nat_le (length old.list) 4096) _ a)

    -- what an environment leaves behind
    record Left (list : List Ref) : Type 0 where
      kept : are_kept all list ≡ true
      parents : have_parents all list list ≡ true
      all_of : (r : Ref) → IsEntry old r → Contains list r
      no_more : (r : Ref) → Contains list r → IsEntry old r

    left_pending : Left (joined old.list old.previous)
    left_pending = record {
      kept = joined_pass (is_kept all) old.list old.previous old_list old_previous;
      parents = joined_pass (has_parents all (joined old.list old.previous)) old.list old.previous
          (parents_grow all old.list (joined old.list old.previous) old.list (joined_first old.list old.previous) old_parents)
          (parents_grow all old.previous (joined old.list old.previous) old.previous (joined_second old.list old.previous) (sound.views.parents old known));
      all_of = λ r k. listed_contained (joined old.list old.previous) r (into r k);
      no_more = λ r k. from r (or_true _ _ (item_passes is_entry (joined old.list old.previous) r (joined_pass is_entry old.list old.previous (all_pass is_entry old.list first) (all_pass is_entry old.previous second)) k));
    }
      where
        is_entry : Ref → Bool
        is_entry r = cond (is_listed old.list r) true (is_listed old.previous r)

        into : (r : Ref) → IsEntry old r → is_listed (joined old.list old.previous) r ≡ true
        into r (inl k) = joined_first old.list old.previous r k
        into r (inr k) = joined_second old.list old.previous r k

        first : (r : Ref) → Contains old.list r → is_entry r ≡ true
        first r k = ap (λ (b : Bool). cond b true (is_listed old.previous r)) (contained_listed old.list r k)

        second : (r : Ref) → Contains old.previous r → is_entry r ≡ true
        second r k = ap (cond (is_listed old.list r) true) (contained_listed old.previous r k) ∙ go (is_listed old.list r)
          where
            go : (b : Bool) → cond b true true ≡ true
            go true = refl
            go false = refl

        or_true : (a b : Bool) → cond a true b ≡ true → (a ≡ true) ⊎ (b ≡ true)
        or_true true b h = inl refl
        or_true false b h = inr h

        from : (r : Ref) → (is_listed old.list r ≡ true) ⊎ (is_listed old.previous r ≡ true) → IsEntry old r
        from r (inl h) = inl (listed_contained old.list r h)
        from r (inr h) = inr (listed_contained old.previous r h)

    left_final : old.pending ≡ false → Left old.list
    left_final ended = record {
      kept = old_list;
      parents = old_parents;
      all_of = λ r k. in_list r k;
      no_more = λ r k. inl k;
    }
      where
        in_list : (r : Ref) → IsEntry old r → Contains old.list r
        in_list r (inl k) = k
        in_list r (inr k) = let none : Contains [] r = subst (λ (l : List Ref). Contains l r) (sound.views.previous old known ended) k in absurd (omega (arith, none.1))

    left_behind : Left (previous_of (Some old))
    left_behind = go old.pending refl
      where
        go : (b : Bool) → old.pending ≡ b → Left (cond b (joined old.list old.previous) old.list)
        go true e = left_pending
        go false e = left_final e

  module _ (name : List ℕ) (list : List Ref) (expires : Option ℤ) (fit : is_list_fit all list ≡ true) (made : (r : Ref) → Contains list r → ForSome (snapshot_at all r) (IsObjectMade w.book)) where
    abbrev new : List Ref → Env
    new previous = record { name = name; pending = true; list = list; previous = previous; expires = expires }

    new_own : (previous : List Ref) → are_kept all previous ≡ true → env_own all (new previous) ≡ true
    new_own previous kept = and_both _ _ (and_left (are_kept all list) _ fit) (and_both _ _ kept (and_right (are_kept all list) _ fit))

    pended : (o : Option Env) → env_at w.book name ≡ o → Sound x (with_envs x w sound (put_for o text_cmp env_name (new (previous_of o)) w.book.environments))
    pended None unknown =
        env_put x w sound (new []) (placed text_cmp env_name (new []) w.book.environments)
        (ascends-placed text_cmp texts_total env_name (new []) w.book.environments (envs_rise x w sound))
        (all-placed text_cmp env_name (env_own all) (new []) (new_own [] refl) w.book.environments (envs_keep x w sound))
        (λ q. found-placed text_cmp exact_bytes env_name (new []) q w.book.environments)
        (λ n target at i same. absurd (let clash : None ≡ Some i.env = sym unknown ∙ ap (env_at w.book) (sym same) ∙ i.known in cc))
        entries refl (λ f. absurd (let clash : true ≡ false = f in cc)) (λ f. absurd (let clash : true ≡ false = f in cc))
      where
        entries : (r : Ref) → IsEntry (new []) r → ForSome (snapshot_at all r) (IsObjectMade w.book)
        entries r (inl k) = made r k
        entries r (inr k) = absurd (omega (arith, k.1))
    pended (Some old) at_name =
        env_put x w sound e (exchanged text_cmp env_name e w.book.environments)
        (instead_rise x w sound old known e (sym named) fits_own) (instead_keep x w sound old known e (sym named) fits_own) (instead_found x w sound old known e (sym named) fits_own)
        (λ n target at i same.
        let is = is_old x w sound old known i.env i.known (same ∙ sym named) in (
          i.entry,
          i.snapshot,
          inr (behind.all_of i.entry (subst (λ (f : Env). IsEntry f i.entry) is i.of)),
          i.is,
          i.view ∙ ap (λ (f : Env). view_in f.name i.entry.name) is ∙ ap (λ (m : List ℕ). view_in m i.entry.name) named,
          i.object,
        ))
        entries behind.parents (λ f. absurd (let clash : true ≡ false = f in cc)) (λ f. absurd (let clash : true ≡ false = f in cc))
      where
        named : old.name ≡ name
        named = found_key text_cmp env_name exact_bytes name old w.book.environments at_name

        known : IsEnv w.book old
        known = ap (env_at w.book) named ∙ at_name

        behind : Left old known (previous_of (Some old))
        behind = left_behind old known

        e : Env
        e = new (previous_of (Some old))

        fits_own : env_own all e ≡ true
        fits_own = new_own (previous_of (Some old)) behind.kept

        entries : (r : Ref) → IsEntry e r → ForSome (snapshot_at all r) (IsObjectMade w.book)
        entries r (inl k) = made r k
        entries r (inr k) = sound.views.entries old known r (behind.no_more r k)

    pub env_pending : Sound x (step w (SetPending name list expires))
    env_pending = pended (env_at w.book name) refl
