-- A world stays well kept where its book is moved to other fingerprints.
use Rattle.std.proofs.Common.{◌≡◌, ◌⊎◌, ℕ, zero, suc, inl, inr, Bool, true, false, cond, ◌&&◌, nat_le, length, List, [], ◌∷◌, ◌++◌, map, Some, None, refl, sym, ◌∙◌, ap, subst, arith, IsSome, IsTrue}
use Rattle.std.specs.declared.option.Option.{Option}
use Rattle.std.specs.declared.cmp.Ordering.{Ordering}
use Rattle.std.specs.declared.cmp.Ordering.TheVariants.{Less, Equal, Greater}
use Rattle.std.specs.List.{All, Contains, list_all}
use Rattle.std.specs.Option.{is_some, option_map, option_to_list}
use Rattle.std.specs.Ordering.{is_eq, is_lt}
use Rattle.std.proofs.lemmas.Bool.{and_from as and_both}
use Rattle.mesh_list.specs.Keyed.{ascends, below_first, found, placed, put_by}
use Rattle.mesh_list.proofs.Ascends.{and_left, and_right, ascends-placed}
use Rattle.mesh_list.proofs.Each.{each_found}
use Rattle.mesh_base_values.specs.Crons.{is_cron}
use Rattle.mesh_base_values.specs.Names.{has_two_underscores, name_cmp, text_cmp}
use Rattle.mesh_base_values.specs.declared.kinds.Kind.{Kind}
use Rattle.mesh_base_values.specs.declared.kinds.Kind.TheVariants.{Full, View, Seed, Incremental}
use Rattle.mesh_base_values.specs.declared.values.Name.{Name}
use Rattle.mesh_base_values.specs.declared.values.Pair.{Pair}
use Rattle.mesh_base.specs.Keys.{env_name, ref_cmp, ref_name, refs_exact, refs_total, snapshot_ref}
use Rattle.mesh_base.specs.Outputs.{columns_of}
use Rattle.mesh_base.specs.declared.forgets.Rename.{Rename}
use Rattle.mesh_base.specs.declared.snapshots.Env.{Env}
use Rattle.mesh_base.specs.declared.snapshots.Ref.{Ref}
use Rattle.mesh_base.specs.declared.snapshots.Snapshot.{Snapshot}
use Rattle.mesh_base.specs.declared.rules.relations.Parent.{Parent}
use Rattle.mesh_base.specs.rules.Proper.{stands_on}
use Rattle.mesh_house_book.specs.Changes.{version_object}
use Rattle.mesh_house_book.specs.WellFormed.{all_fit, are_kept, columns_at, has_parents, have_parents, is_above, is_env_fit, is_kept, is_listed, is_moment, is_snapshot_fit, is_version, is_well_formed_book, parent, parents_at, parents_of, rank_at, snapshot_at, suits}
use Rattle.mesh_house_book.specs.declared.versions.Version.{Version}
use Rattle.mesh_house_book.specs.moves.Renames.{has_twins, in_order, rename_old, renamed, renamed_all, renamed_by, renamed_env, renamed_snapshot}
use Rattle.mesh_spec_model.specs.Closures.{Closure}
use Rattle.mesh_spec_model.specs.Horizons.{Clock}
use Rattle.mesh_law_query.proofs.Has.{Has, Has_from, Has_map_from, Has_to}
use Rattle.mesh_spec_changes.specs.reuse.Cores.{IsTwin, core}
use Rattle.mesh_house.specs.declared.objects.Body.{Body}
use Rattle.mesh_house.specs.declared.objects.Body.TheVariants.{Rows, Stored}
use Rattle.mesh_house.specs.declared.objects.Object.{Object}
use Rattle.mesh_house.specs.declared.world.World.{World}
use Rattle.mesh_house.specs.declared.world.Change.TheVariants.{Migrate}
use Rattle.mesh_house.specs.Step.{step, with_book}
use Rattle.mesh_house.specs.World.{object_at, version_of, view}
use Rattle.mesh_spec_changes.specs.listed.Closing.{closing, closure_at, IsSnapshot}
use Rattle.mesh_spec_changes.proofs.listed.Books.{kept_at}
use Rattle.mesh_spec_changes.specs.due.Parts.{Parts}
use Rattle.mesh_spec_changes.proofs.Distinct.{found_anew, found_ordered}
use Rattle.mesh_spec_changes.proofs.Migrating.{closure_moves}
use Rattle.mesh_spec_changes.specs.Environments.{IsEnv, env_at, view_in}
use Rattle.mesh_spec_promise.specs.Sound.{Sound, HasEachOnce, Uses, IsBodyOf, IsBookSound, IsEntry, IsFullSound, IsIncrementalSound, IsMade, IsObjectMade, IsTyped, IsTableSound, AreObjectsSound, AreViewsSound, object_named, parent_objects, table_rows}
use Rattle.mesh_spec_promise.proofs.Ends.{found_contained}
use Rattle.mesh_law_changes.proofs.Envs.{env_own, envs_rise, envs_keep}
use Rattle.mesh_law_changes.proofs.EnvLaws.{own_of_old}
use Rattle.mesh_law_changes.proofs.Pending.{contained_listed, listed_contained}
use Rattle.mesh_law_changes.proofs.Rising.{all_keep, all_pass, each_keeps, found_passes, item_passes, rises}
use Rattle.mesh_law_changes.proofs.SnapshotGone.{by_recursion, snapshot_own}

ref_by : (o : Option Rename) (s : Snapshot) → snapshot_ref (record s { fingerprint = (renamed_by o (snapshot_ref s)).fingerprint }) ≡ renamed_by o (snapshot_ref s)
ref_by None s = refl
ref_by (Some m) s = refl

name_by : (o : Option Rename) (r : Ref) → (renamed_by o r).name ≡ r.name
name_by None r = refl
name_by (Some m) r = refl

-- what stands in a list in order stands in the list
placed_has : (y t : Snapshot) (xs : List Snapshot) → Has t (placed ref_cmp snapshot_ref y xs) → (y ≡ t) ⊎ Has t xs
placed_has y t [] (inl e) = inl e
placed_has y t [] (inr h) = absurd h
placed_has y t (x ∷ xs) h = go (ref_cmp (snapshot_ref x) (snapshot_ref y)) (placed_has y t xs) h
  where
    deeper : (y ≡ t) ⊎ Has t xs → (y ≡ t) ⊎ Has t (x ∷ xs)
    deeper (inl e) = inl e
    deeper (inr k) = inr (inr k)

    go : (o : Ordering) → (Has t (placed ref_cmp snapshot_ref y xs) → (y ≡ t) ⊎ Has t xs) → Has t (put_by o x y xs (placed ref_cmp snapshot_ref y xs)) → (y ≡ t) ⊎ Has t (x ∷ xs)
    go Less ih (inl e) = inr (inl e)
    go Less ih (inr k) = deeper (ih k)
    go Equal ih (inl e) = inl e
    go Equal ih (inr k) = inr (inr k)
    go Greater ih (inl e) = inl e
    go Greater ih (inr k) = inr k

order_has : (xs : List Snapshot) (t : Snapshot) → Has t (in_order xs) → Has t xs
order_has [] t h = h
order_has (x ∷ xs) t h = go (placed_has x t (in_order xs) h) (order_has xs t)
  where
    go : (x ≡ t) ⊎ Has t (in_order xs) → (Has t (in_order xs) → Has t xs) → Has t (x ∷ xs)
    go (inl e) more = inl e
    go (inr k) more = inr (more k)

order_rises : (xs : List Snapshot) → ascends ref_cmp snapshot_ref (in_order xs) ≡ true
order_rises [] = refl
order_rises (x ∷ xs) = ascends-placed ref_cmp refs_total snapshot_ref x (in_order xs) (order_rises xs)

contained_map : {A B : Type 0} (f : A → B) (xs : List A) (y : A) → Contains xs y → Contains (map f xs) (f y)
contained_map f [] y (k, l, e) = absurd (omega (arith, l))
contained_map f (x ∷ xs) y (zero, l, e) = (0, omega arith, ap f e)
contained_map f (x ∷ xs) y (suc k, l, e) = let h = contained_map f xs y (k, omega (arith, l), e) in (suc h.0, omega (arith, h.1), h.2)

contained_back : {A B : Type 0} (f : A → B) (xs : List A) (z : B) → Contains (map f xs) z → (y : A) × Contains xs y × (f y ≡ z)
contained_back f [] z (k, l, e) = absurd (omega (arith, l))
contained_back f (x ∷ xs) z (zero, l, e) = (x, (0, omega arith, refl), e)
contained_back f (x ∷ xs) z (suc k, l, e) = let h = contained_back f xs z (k, omega (arith, l), e) in (h.0, (suc h.1.0, omega (arith, h.1.1), h.1.2), h.2)

length_map : {A B : Type 0} (f : A → B) (xs : List A) → length (map f xs) ≡ length xs
length_map f [] = refl
length_map f (x ∷ xs) = ap suc (length_map f xs)

module _ (x : Parts) (w : World) (sound : Sound x w) (renames : List Rename) (fine : has_twins (renamed_all renames w.book.snapshots) ≡ false) where
  abbrev all : List Snapshot
  all = w.book.snapshots

  abbrev rn : Ref → Ref
  rn r = renamed renames r

  abbrev fs : Snapshot → Snapshot
  fs s = renamed_snapshot renames s

  abbrev fe : Env → Env
  fe e = renamed_env renames e

  abbrev new : List Snapshot
  new = in_order (renamed_all renames all)

  abbrev after : World
  after = record w { book = record w.book { version = 2; snapshots = new; environments = map fe w.book.environments } }

  name_stays : (r : Ref) → (rn r).name ≡ r.name
  name_stays r = name_by (found ref_cmp rename_old r renames) r

  refs_move : (s : Snapshot) → snapshot_ref (fs s) ≡ rn (snapshot_ref s)
  refs_move s = ref_by (found ref_cmp rename_old (snapshot_ref s) renames) s

  pub there : (r : Ref) (s : Snapshot) → snapshot_at all r ≡ Some s → snapshot_at new (rn r) ≡ Some (fs s)
  there r s e =
      found_ordered ref_cmp refs_total refs_exact snapshot_ref (rn r) (renamed_all renames all)
      ∙ found_anew ref_cmp refs_total refs_exact snapshot_ref (renamed_snapshot renames) (renamed renames) refs_move r all s fine e

  pub still : (s : Snapshot) → IsSnapshot all s → IsSnapshot new (fs s)
  still s known = ap (snapshot_at new) (refs_move s) ∙ there (snapshot_ref s) s known

  snapshots_fit : all_fit (is_snapshot_fit w.book.version all) None all ≡ true
  snapshots_fit = and_left (all_fit (is_snapshot_fit w.book.version all) None all) _ (and_right (is_moment w.book.moment && is_version w.book.version) _ sound.book.well_formed)

  all_rise : ascends ref_cmp snapshot_ref all ≡ true
  all_rise = rises ref_cmp snapshot_ref (snapshot_own w.book.version all) (is_snapshot_fit w.book.version all) (λ b t. refl) all snapshots_fit

  all_own : list_all (snapshot_own w.book.version all) all ≡ true
  all_own = each_keeps ref_cmp snapshot_ref (snapshot_own w.book.version all) (is_snapshot_fit w.book.version all) (λ b t. refl) all snapshots_fit

  from_item : (t : Snapshot) → Contains new t → (p : Snapshot) × IsSnapshot all p × (fs p ≡ t)
  from_item t k =
      let h = Has_map_from (renamed_snapshot renames) all t (order_has (renamed_all renames all) t (Has_from new t k)) in
      (h.0, by_recursion (λ (p : Snapshot). IsSnapshot all p) all h.0 (each_found ref_cmp refs_total snapshot_ref all all_rise) (Has_to all h.0 h.1), h.2)

  from : (t : Snapshot) → IsSnapshot new t → (p : Snapshot) × IsSnapshot all p × (fs p ≡ t)
  from t known = from_item t (found_contained ref_cmp snapshot_ref (snapshot_ref t) t new known)

  module _ (refs : List Ref) (kept : are_kept all refs ≡ true) where
    known_at : (q : Ref) → Contains refs q → (p : Snapshot) × (snapshot_at all q ≡ Some p)
    known_at q k = kept_at all q (item_passes (is_kept all) refs q kept k)

  kept_moves : (refs : List Ref) → are_kept all refs ≡ true → are_kept new (map rn refs) ≡ true
  kept_moves [] h = refl
  kept_moves (q ∷ qs) h = let p = kept_at all q (and_left (is_kept all q) (are_kept all qs) h) in and_both _ _ (ap is_some (there q p.0 p.1)) (kept_moves qs (and_right (is_kept all q) (are_kept all qs) h))

  parents_move : (refs : List Ref) → are_kept all refs ≡ true → parents_of new (map rn refs) ≡ parents_of all refs
  parents_move [] h = refl
  parents_move (q ∷ qs) h =
      let p = kept_at all q (and_left (is_kept all q) (are_kept all qs) h) in
      let first : parent new (rn q) ≡ parent all q =
      ap (λ (o : Option Snapshot). record { rank = rank_at o; name = (rn q).name; columns = columns_at o }) (there q p.0 p.1)
      ∙ (λ i. record { rank = p.0.rank; name = name_stays q i; columns = columns_of p.0.own })
      ∙ sym (ap (λ (o : Option Snapshot). record { rank = rank_at o; name = q.name; columns = columns_at o }) p.1) in
      λ i. first i ∷ parents_move qs (and_right (is_kept all q) (are_kept all qs) h) i

  objects_move : (refs : List Ref) → are_kept all refs ≡ true → parent_objects new (map rn refs) ≡ parent_objects all refs
  objects_move [] h = refl
  objects_move (q ∷ qs) h =
      let p = kept_at all q (and_left (is_kept all q) (are_kept all qs) h) in
      let first : object_named new (rn q) ≡ object_named all q =
      ap (λ (o : Option Snapshot). map (λ (t : Snapshot). record { first = (rn q).name; second = t.object }) (option_to_list o)) (there q p.0 p.1)
      ∙ (λ i. record { first = name_stays q i; second = p.0.object } ∷ [])
      ∙ sym (ap (λ (o : Option Snapshot). map (λ (t : Snapshot). record { first = q.name; second = t.object }) (option_to_list o)) p.1) in
      λ i. first i ++ objects_move qs (and_right (is_kept all q) (are_kept all qs) h) i

  listed_moves : (list : List Ref) (z : Ref) → is_listed list z ≡ true → is_listed (map rn list) (rn z) ≡ true
  listed_moves list z h = contained_listed (map rn list) (rn z) (contained_map rn list z (listed_contained list z h))

  each_listed : (list refs : List Ref) → list_all (is_listed list) refs ≡ true → list_all (is_listed (map rn list)) (map rn refs) ≡ true
  each_listed list [] h = refl
  each_listed list (z ∷ zs) h = and_both _ _ (listed_moves list z (and_left (is_listed list z) (list_all (is_listed list) zs) h)) (each_listed list zs (and_right (is_listed list z) (list_all (is_listed list) zs) h))

  lists_move : (list refs : List Ref) → are_kept all refs ≡ true → have_parents all list refs ≡ true → have_parents new (map rn list) (map rn refs) ≡ true
  lists_move list [] h k = refl
  lists_move list (q ∷ qs) h k =
      let p = kept_at all q (and_left (is_kept all q) (are_kept all qs) h) in
      let its : list_all (is_listed list) p.0.parents ≡ true = subst (λ (o : Option Snapshot). list_all (is_listed list) (parents_at o) ≡ true) p.1 (and_left (has_parents all list q) (have_parents all list qs) k) in
      and_both _ _ (ap (λ (o : Option Snapshot). list_all (is_listed (map rn list)) (parents_at o)) (there q p.0 p.1) ∙ each_listed list p.0.parents its)
      (lists_move list qs (and_right (is_kept all q) (are_kept all qs) h) (and_right (has_parents all list q) (have_parents all list qs) k))

  its_parents : (t : Snapshot) → snapshot_own w.book.version all t ≡ true → are_kept all t.parents ≡ true
  its_parents t own = and_left (are_kept all t.parents) _ (and_right (suits w.book.version t.own.kind) _ (and_right (is_eq (name_cmp t.own.name t.name)) _ (and_right (has_two_underscores t.object.schema) _ own)))

  parents_kept : (p : Snapshot) → IsSnapshot all p → are_kept all p.parents ≡ true
  parents_kept p known = its_parents p (found_passes ref_cmp snapshot_ref (snapshot_own w.book.version all) (snapshot_ref p) p all all_own known)

  own_moves : (p : Snapshot) → IsSnapshot all p → snapshot_own 2 new (fs p) ≡ true
  own_moves p known =
      let own = found_passes ref_cmp snapshot_ref (snapshot_own w.book.version all) (snapshot_ref p) p all all_own known in
      let kept = its_parents p own in
      let one = and_right (has_two_underscores p.object.schema) _ own in
      let two = and_right (is_eq (name_cmp p.own.name p.name)) _ one in
      let three = and_right (suits w.book.version p.own.kind) _ two in
      let four = and_right (are_kept all p.parents) _ three in
      and_both _ _ (and_left (has_two_underscores p.object.schema) _ own)
      (and_both _ _ (and_left (is_eq (name_cmp p.own.name p.name)) _ one)
      (and_both _ _ refl
      (and_both _ _ (kept_moves p.parents kept)
      (and_both _ _ (and_left (nat_le p.rank 4095) _ four)
      (ap (λ (ps : List Parent). stands_on ps p.rank p.own) (parents_move p.parents kept) ∙ and_right (nat_le p.rank 4095) _ four)))))

  new_own : (t : Snapshot) → Contains new t → snapshot_own 2 new t ≡ true
  new_own t k = let p = from_item t k in subst (λ (s : Snapshot). snapshot_own 2 new s ≡ true) p.2 (own_moves p.0 p.1)

  below_names : (n : Name) (refs : List Ref) → below_first name_cmp ref_name n (map rn refs) ≡ below_first name_cmp ref_name n refs
  below_names n [] = refl
  below_names n (q ∷ qs) = ap (λ (m : Name). is_lt (name_cmp n m)) (name_stays q)

  names_rise : (refs : List Ref) → ascends name_cmp ref_name (map rn refs) ≡ ascends name_cmp ref_name refs
  names_rise [] = refl
  names_rise (q ∷ qs) = λ i. (ap (λ (m : Name). below_first name_cmp ref_name m (map rn qs)) (name_stays q) ∙ below_names q.name qs) i && names_rise qs i

  env_moves : (e : Env) → env_own all e ≡ true → env_own new (fe e) ≡ true
  env_moves e own =
      let kept = and_left (are_kept all e.list) _ own in
      let one = and_right (are_kept all e.list) _ own in
      let two = and_right (are_kept all e.previous) _ one in
      let three = and_right (nat_le (length e.list) 4096) _ two in
      and_both _ _ (kept_moves e.list kept)
      (and_both _ _ (kept_moves e.previous (and_left (are_kept all e.previous) _ one))
      (and_both _ _ (ap (λ (n : ℕ). nat_le n 4096) (length_map rn e.list) ∙ and_left (nat_le (length e.list) 4096) _ two)
      (and_both _ _ (names_rise e.list ∙ and_left (ascends name_cmp ref_name e.list) _ three)
      (lists_move e.list e.list kept (and_right (ascends name_cmp ref_name e.list) _ three)))))

  envs_own : (es : List Env) → list_all (env_own all) es ≡ true → list_all (env_own new) (map fe es) ≡ true
  envs_own [] h = refl
  envs_own (e ∷ es) h = and_both _ _ (env_moves e (and_left (env_own all e) (list_all (env_own all) es) h)) (envs_own es (and_right (env_own all e) (list_all (env_own all) es) h))

  below_envs : (n : List ℕ) (es : List Env) → below_first text_cmp env_name n (map fe es) ≡ below_first text_cmp env_name n es
  below_envs n [] = refl
  below_envs n (e ∷ es) = refl

  envs_up : (es : List Env) → ascends text_cmp env_name (map fe es) ≡ ascends text_cmp env_name es
  envs_up [] = refl
  envs_up (e ∷ es) = λ i. below_envs e.name es i && envs_up es i

  pub env_found : (n : List ℕ) (es : List Env) → found text_cmp env_name n (map fe es) ≡ option_map fe (found text_cmp env_name n es)
  env_found n [] = refl
  env_found n (e ∷ es) = go (is_eq (text_cmp e.name n)) (env_found n es)
    where
      go : (b : Bool) → found text_cmp env_name n (map fe es) ≡ option_map fe (found text_cmp env_name n es) → cond b (Some (fe e)) (found text_cmp env_name n (map fe es)) ≡ option_map fe (cond b (Some e) (found text_cmp env_name n es))
      go true more = refl
      go false more = more

  env_from : (e : Env) → IsEnv after.book e → (old : Env) × IsEnv w.book old × (fe old ≡ e)
  env_from e known = go (env_at w.book e.name) refl (sym (env_found e.name w.book.environments) ∙ known)
    where
      go : (o : Option Env) → env_at w.book e.name ≡ o → option_map fe o ≡ Some e → (old : Env) × IsEnv w.book old × (fe old ≡ e)
      go None is h = absurd (let f : None ≡ Some e = h in cc)
      go (Some old) is h =
          let same : fe old ≡ e = cc in
          (old, ap (λ (f : Env). env_at w.book f.name) same ∙ is, same)

  pub well : is_well_formed_book after.book ≡ true
  well =
      let front = and_left (is_moment w.book.moment && is_version w.book.version) _ sound.book.well_formed in
      let one = and_right (is_moment w.book.moment && is_version w.book.version) _ sound.book.well_formed in
      let two = and_right (all_fit (is_snapshot_fit w.book.version all) None all) _ one in
      and_both _ _ (and_both _ _ (and_left (is_moment w.book.moment) (is_version w.book.version) front) refl)
      (and_both _ _ (all_keep ref_cmp snapshot_ref (snapshot_own 2 new) (is_snapshot_fit 2 new) (λ b t. refl) new (order_rises (renamed_all renames all)) (all_pass (snapshot_own 2 new) new new_own))
      (and_both _ _ (and_left (all_fit (is_above name_cmp version_object) None w.book.versions) _ two)
      (all_keep text_cmp env_name (env_own new) (is_env_fit new) (λ b e. refl) (map fe w.book.environments) (envs_up w.book.environments ∙ envs_rise x w sound) (envs_own w.book.environments (envs_keep x w sound)))))

  pub closing_same : (p : Snapshot) → IsSnapshot all p → closing new (fs p) ≡ closing all p
  closing_same p known =
      let moved : (step w (Migrate renames)).book.snapshots ≡ new = ap (λ (t : Bool). (cond t w.book (record w.book { version = 2; snapshots = new; environments = map fe w.book.environments })).snapshots) fine in
      let h : closure_at new (rn (snapshot_ref p)) ≡ closure_at all (snapshot_ref p) =
      ap (λ (l : List Snapshot). closure_at l (rn (snapshot_ref p))) (sym moved) ∙ closure_moves w.book sound.book.well_formed renames fine (snapshot_ref p) p known in
      let both : Some (closing new (fs p)) ≡ Some (closing all p) =
      sym (ap (option_map (closing new)) (there (snapshot_ref p) p known)) ∙ h ∙ ap (option_map (closing all)) known in
      cc

  by_snapshot : (P : Snapshot → Type 0) (t : Snapshot) → IsSnapshot new t → ((p : Snapshot) → IsSnapshot all p → P (fs p)) → P t
  by_snapshot P t known f = let p = from t known in subst P p.2 (f p.0 p.1)

  uses_after : (object : Name) → Uses w.book object → Uses after.book object
  uses_after object u = record { snapshot = fs u.snapshot; kept = still u.snapshot u.kept; uses = u.uses }

  typed_after : IsTyped after
  typed_after =
      let t = sound.typed in
      record {
        sources = t.sources;
        plain = t.plain;
        objects = t.objects;
        physical = t.physical;
        views = t.views;
        ranges = t.ranges;
        crons = λ p known. by_snapshot (λ (q : Snapshot). IsTrue (is_cron q.own.cron)) p known t.crons;
      }

  book_after : IsBookSound after.book
  book_after =
      let b = sound.book in
      record {
        well_formed = well;
        names = λ t known. by_snapshot (λ (q : Snapshot). HasEachOnce (closing new q)) t known (λ p kp. subst HasEachOnce (sym (closing_same p kp)) (b.names p kp));
        versions = λ object v at. uses_after object (b.versions object v at);
        ranges = b.ranges;
        marks = b.marks;
        shared = λ s t ks kt. by_snapshot (λ (a : Snapshot). a.object ≡ t.object → (a.name ≡ t.name) × IsTwin (closing new a) (closing new t)) s ks
            (λ p kp. by_snapshot (λ (c : Snapshot). p.object ≡ c.object → (p.name ≡ c.name) × IsTwin (closing new (fs p)) (closing new c)) t kt
            (λ q kq same. let h = b.shared p q kp kq same in (h.0, ap core (closing_same p kp) ∙ h.1 ∙ ap core (sym (closing_same q kq)))));
        alone = λ s t ks kt. by_snapshot (λ (a : Snapshot). a.object ≡ t.object → a.own.kind ≡ View → snapshot_ref a ≡ snapshot_ref t) s ks
            (λ p kp. by_snapshot (λ (c : Snapshot). p.object ≡ c.object → p.own.kind ≡ View → snapshot_ref (fs p) ≡ snapshot_ref c) t kt
            (λ q kq same is. refs_move p ∙ ap rn (b.alone p q kp kq same is) ∙ sym (refs_move q)));
      }

  table_after : (clock : Clock) (p : Snapshot) (v : Version) → closing all p ≡ closing new (fs p) → (kind : Kind) → IsTableSound clock x w p v kind → IsTableSound clock x after (fs p) v kind
  table_after clock p v same (Incremental time lookback) h = subst (λ (c : Closure). IsIncrementalSound clock x w.sources (table_rows w p.object) p.object c p.own v) same h
  table_after clock p v same Full h = subst (λ (c : Closure). IsFullSound clock x w.sources (table_rows w p.object) p.object c v) same h
  table_after clock p v same Seed h = h
  table_after clock p v same View h = tt

  body_after : (p : Snapshot) → parent_objects all p.parents ≡ parent_objects new (map rn p.parents) → (kind : Kind) (body : Body) → IsBodyOf all p kind body → IsBodyOf new (fs p) kind body
  body_after p same View (Stored own targets) h = (h.0, h.1 ∙ same)
  body_after p same View (Rows rows) h = absurd h
  body_after p same (Incremental time lookback) (Rows rows) h = tt
  body_after p same (Incremental time lookback) (Stored own targets) h = absurd h
  body_after p same Full (Rows rows) h = tt
  body_after p same Full (Stored own targets) h = absurd h
  body_after p same Seed (Rows rows) h = tt
  body_after p same Seed (Stored own targets) h = absurd h

  targets_same : (p : Snapshot) → IsSnapshot all p → parent_objects all p.parents ≡ parent_objects new (map rn p.parents)
  targets_same p known = sym (objects_move p.parents (parents_kept p known))

  objects_after : AreObjectsSound after
  objects_after =
      let o = sound.objects in
      record {
        named = λ object p at. uses_after object (o.named object p at);
        bodies = λ t known. by_snapshot (λ (q : Snapshot). (b : Object) → object_at w q.object ≡ Some b → IsBodyOf new q q.own.kind b.body) t known
            (λ p kp b at. body_after p (targets_same p kp) p.own.kind b.body (o.bodies p kp b at));
        made = λ t known. by_snapshot (λ (q : Snapshot). (v : Version) → version_of w.book q.object ≡ Some v → v.made ≡ true → IsMade after q) t known
            (λ p kp v at m. let i = o.made p kp v at m in record {
              object = i.object;
              stands = i.stands;
              columns = i.columns;
              targets = λ is. subst (All (λ (a : Pair). IsSome (object_at w a.second))) (targets_same p kp) (i.targets is);
            });
      }

  entry_moves : (e : Env) (r : Ref) → IsEntry e r → IsEntry (fe e) (rn r)
  entry_moves e r (inl k) = inl (contained_map rn e.list r k)
  entry_moves e r (inr k) = inr (contained_map rn e.previous r k)

  entry_back : (e : Env) (q : Ref) → IsEntry (fe e) q → (r : Ref) × IsEntry e r × (rn r ≡ q)
  entry_back e q (inl k) = let h = contained_back rn e.list q k in (h.0, inl h.1, h.2)
  entry_back e q (inr k) = let h = contained_back rn e.previous q k in (h.0, inr h.1, h.2)

  previous_kept : (e : Env) → IsEnv w.book e → are_kept all e.previous ≡ true
  previous_kept e known = and_left (are_kept all e.previous) _ (and_right (are_kept all e.list) _ (own_of_old x w sound e known))

  entry_known : (e : Env) → IsEnv w.book e → (r : Ref) → IsEntry e r → (p : Snapshot) × (snapshot_at all r ≡ Some p)
  entry_known e known r (inl k) = known_at e.list (and_left (are_kept all e.list) _ (own_of_old x w sound e known)) r k
  entry_known e known r (inr k) = known_at e.previous (previous_kept e known) r k

  -- the snapshot of an entry is the one that it was, renamed
  entry_is : (e : Env) → IsEnv w.book e → (r q : Ref) → IsEntry e r → rn r ≡ q → (t : Snapshot) → snapshot_at new q ≡ Some t → (p : Snapshot) × (snapshot_at all r ≡ Some p) × (fs p ≡ t)
  entry_is e known r q k same t at =
      let p = entry_known e known r k in
      (p.0, p.1, let both : Some (fs p.0) ≡ Some t = sym (there r p.0 p.1) ∙ ap (snapshot_at new) same ∙ at in cc)

  by_env : (P : Env → Type 0) (e : Env) → IsEnv after.book e → ((old : Env) → IsEnv w.book old → P (fe old)) → P e
  by_env P e known f = let old = env_from e known in subst P old.2 (f old.0 old.1)

  views_after : AreViewsSound after
  views_after =
      let v = sound.views in
      record {
        views = λ n target at.
            let i = v.views n target at in
            record {
              env = fe i.env;
              known = env_found i.env.name w.book.environments ∙ ap (option_map fe) i.known;
              entry = rn i.entry;
              of = entry_moves i.env i.entry i.of;
              snapshot = fs i.snapshot;
              is = there i.entry i.snapshot i.is;
              view = i.view ∙ ap (view_in i.env.name) (sym (name_stays i.entry));
              object = i.object;
            };
        entries = λ e known. by_env (λ (f : Env). (q : Ref) → IsEntry f q → (t : Snapshot) → snapshot_at new q ≡ Some t → IsObjectMade w.book t) e known
            (λ old ko q k t at. let b = entry_back old q k in let p = entry_is old ko b.0 q b.1 b.2 t at in subst (IsObjectMade w.book) p.2 (v.entries old ko b.0 b.1 p.0 p.1));
        parents = λ e known. by_env (λ (f : Env). have_parents new f.previous f.previous ≡ true) e known
            (λ old ko. lists_move old.previous old.previous (previous_kept old ko) (v.parents old ko));
        previous = λ e known. by_env (λ (f : Env). f.pending ≡ false → f.previous ≡ []) e known (λ old ko ended. ap (map rn) (v.previous old ko ended));
        final = λ e known. by_env (λ (f : Env). f.pending ≡ false → (q : Ref) → Contains f.list q → (t : Snapshot) → snapshot_at new q ≡ Some t → view w (view_in f.name q.name) ≡ Some t.object) e known
            (λ old ko ended q k t at.
            let b = contained_back rn old.list q k in
            let p = entry_is old ko b.0 q (inl b.1) b.2 t at in
            let named : q.name ≡ b.0.name = ap (λ (r : Ref). r.name) (sym b.2) ∙ name_stays b.0 in
            ap (λ (m : Name). view w (view_in old.name m)) named ∙ v.final old ko ended b.0 b.1 p.0 p.1 ∙ ap (λ (s : Snapshot). Some s.object) p.2);
      }

  moved_sound : Sound x after
  moved_sound = record {
    typed = typed_after;
    book = book_after;
    tables = λ clock now t known. by_snapshot (λ (q : Snapshot). (v : Version) → version_of w.book q.object ≡ Some v → IsTableSound clock x after q v q.own.kind) t known
        (λ p kp v at. table_after clock p v (sym (closing_same p kp)) p.own.kind (sound.tables clock now p kp v at));
    objects = objects_after;
    views = views_after;
  }

pub book_moved : (x : Parts) (w : World) → Sound x w → (renames : List Rename) → Sound x (step w (Migrate renames))
book_moved x w sound renames = go (has_twins (renamed_all renames w.book.snapshots)) refl
  where
    go : (b : Bool) → has_twins (renamed_all renames w.book.snapshots) ≡ b
        → Sound x (with_book w (cond b w.book (record w.book { version = 2; snapshots = in_order (renamed_all renames w.book.snapshots); environments = map (renamed_env renames) w.book.environments })))
    go true e = sound
    go false e = moved_sound x w sound renames e
