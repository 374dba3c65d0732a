-- An environment gets its list and its views, where the objects of all its models are made, and is final then where
-- all of them are done.
use Rattle.std.proofs.Common.{◌≡◌, ℕ, ℤ, ◌≤◌, Bool, true, false, cond, ◌⊎◌, inl, inr, List, [], ◌∷◌, ◌++◌, map, length, Some, None, nat_le, refl, sym, ap, ◌∙◌, subst, arith, le-leb}
use Rattle.std.specs.Cmp.{Equal-is}
use Rattle.std.specs.List.{AllByRecursion, Contains, list_all}
use Rattle.std.specs.Option.{ForSome, is_some}
use Rattle.std.specs.Ordering.{is_eq}
use Rattle.std.specs.declared.option.Option.{Option}
use Rattle.std.proofs.lemmas.Cmp.{tied_itself}
use Rattle.std.proofs.lemmas.Map.Lookups.{exact_bytes}
use Rattle.std.proofs.lemmas.Bool.{and_from as and_both}
use Rattle.mesh_list.specs.Keyed.{ascends, exchanged, found}
use Rattle.mesh_list.proofs.Ascends.{and_left, and_right}
use Rattle.mesh_list.proofs.Found.{found-placed}
use Rattle.mesh_list.proofs.Standing.{ascends-without}
use Rattle.mesh_base_values.specs.Names.{name_cmp, text_cmp}
use Rattle.mesh_base_values.specs.NameOrder.{names_exact, names_total, texts_total}
use Rattle.mesh_base_values.specs.declared.values.Name.{Name}
use Rattle.mesh_base_values.specs.declared.values.Pair.{Pair}
use Rattle.mesh_base.specs.Keys.{env_name, ref_name}
use Rattle.mesh_base.specs.declared.snapshots.Env.{Env}
use Rattle.mesh_base.specs.declared.snapshots.Ref.{Ref}
use Rattle.mesh_base.specs.declared.snapshots.Snapshot.{Snapshot}
use Rattle.mesh_base.specs.rules.Proper.{is_plain_schema}
use Rattle.mesh_house_book.specs.Changes.{as_final, at_env, previous_of, put, put_for}
use Rattle.mesh_house_book.specs.WellFormed.{are_kept, has_parents, have_parents, is_kept, is_listed, parents_at, snapshot_at}
use Rattle.mesh_house_book.specs.declared.book.Book.{Book}
use Rattle.mesh_house_book.specs.declared.versions.Version.{Version}
use Rattle.mesh_spec_model.specs.Horizons.{Clock, Shows}
use Rattle.mesh_law_query.proofs.Has.{Has, Has_from, Has_map_from, Has_to}
use Rattle.mesh_house.specs.Step.{run, step}
use Rattle.mesh_house.specs.World.{target_of, version_of, view, view_name}
use Rattle.mesh_house.specs.declared.world.Change.{Change}
use Rattle.mesh_house.specs.declared.world.Change.TheVariants.{DropView, Finalize, PointView, SetPending}
use Rattle.mesh_house.specs.declared.world.World.{World}
use Rattle.mesh_house.proofs.After.{view-pointed}
use Rattle.mesh_house.proofs.Runs.{run-append}
use Rattle.mesh_spec_changes.specs.listed.Listed.{is_list_fit}
use Rattle.mesh_spec_changes.proofs.listed.Lists.{passes}
use Rattle.mesh_spec_changes.specs.due.Parts.{Parts}
use Rattle.mesh_spec_changes.specs.due.Plans.{Planned}
use Rattle.mesh_spec_changes.specs.Changes.{Plan, drops, expiry, gone, is_listed as has_model, objects_by_name, parents_in, planned_ref, points, promotes, refs_by_name, target_of as its_pair}
use Rattle.mesh_spec_changes.specs.Environments.{IsEnv, env_at, view_in}
use Rattle.mesh_spec_promise.specs.Current.{AreDone, IsDone}
use Rattle.mesh_spec_promise.specs.Final.{Final}
use Rattle.mesh_spec_promise.specs.Sound.{IsObjectMade, Sound}
use Rattle.mesh_spec_promise.proofs.Finals.{environment_final}
use Rattle.mesh_spec_promise.proofs.Fits.{plain_ref}
use Rattle.mesh_spec_promise.proofs.Found.{found-exchanged}
use Rattle.mesh_spec_promise.proofs.Pointed.{view_pointed}
use Rattle.mesh_spec_promise.proofs.ViewNames.{view_names}
use Rattle.mesh_law_changes.proofs.EnvLaws.{env_finalized, own_of_old}
use Rattle.mesh_law_changes.proofs.Pending.{contained_listed, env_pending}
use Rattle.mesh_law_changes.proofs.Rising.{found-without, item_passes}
use Rattle.mesh_law_changes.proofs.ViewGone.{view_dropped}
use Rattle.mesh_law_changes.specs.along.Along.{StaysAlong}
use Rattle.mesh_law_changes.specs.along.Ready.{IsPlaced}
use Rattle.mesh_law_changes.proofs.along.Along.{along_and_then, along_kept, along_then, left_same}
use Rattle.mesh_law_promise.proofs.InTurn.{all_of, done_kept, each_of}
use Rattle.mesh_law_promise.proofs.Names.{HaveNames, gone_from, gone_to, listed_from, listed_to, objects_from, objects_to, parent_there, refs_ascend, refs_from, refs_short, refs_to}

-- an environment that is put is found
env_there : (e : Env) (es : List Env) → found text_cmp env_name e.name (put text_cmp env_name e es) ≡ Some e
env_there e es = go (found text_cmp env_name e.name es) refl
  where
    here : (o : Option Env) → cond (is_eq (text_cmp e.name e.name)) (Some e) o ≡ Some e
    here o = ap (λ (b : Bool). cond b (Some e) o) ((Equal-is (text_cmp e.name e.name)).1 (tied_itself texts_total e.name))

    go : (o : Option Env) → found text_cmp env_name e.name es ≡ o → found text_cmp env_name e.name (put_for o text_cmp env_name e es) ≡ Some e
    go None k = found-placed text_cmp exact_bytes env_name e e.name es ∙ here (found text_cmp env_name e.name es)
    go (Some old) k = found-exchanged text_cmp exact_bytes env_name e e.name old es k ∙ here (found text_cmp env_name e.name es)

-- The views of an environment are pointed: one that is pointed by some pair, and by no other pair elsewhere, points
-- there.
pointed_at : (env : List ℕ) (os : List Pair) (w : World) (n t : Name) → ((o : Pair) → Has o os → view_in env o.first ≡ n → o.second ≡ t)
    → ((o : Pair) × Has o os × (view_in env o.first ≡ n)) ⊎ (view w n ≡ Some t) → view (run w (map (points env) os)) n ≡ Some t
pointed_at env [] w n t same (inl h) = absurd h.1
pointed_at env [] w n t same (inr e) = e
pointed_at env (p ∷ ps) w n t same h =
    go (is_eq (name_cmp (view_in env p.first) n)) refl (view-pointed w (view_in env p.first) p.second n) (pointed_at env ps (step w (points env p)) n t (λ o i e. same o (inr i) e))
  where
    Rest : Type 0
    Rest = ((o : Pair) × Has o ps × (view_in env o.first ≡ n)) ⊎ (view (step w (points env p)) n ≡ Some t) → view (run (step w (points env p)) (map (points env) ps)) n ≡ Some t

    is_here : is_eq (name_cmp (view_in env p.first) n) ≡ true → view_in env p.first ≡ n
    is_here e = names_exact (view_in env p.first) n ((Equal-is (name_cmp (view_in env p.first) n)).0 e)

    is_so : view_in env p.first ≡ n → is_eq (name_cmp (view_in env p.first) n) ≡ true
    is_so e = (Equal-is (name_cmp (view_in env p.first) n)).1 (ap (λ (k : Name). name_cmp k n) e ∙ tied_itself names_total n)

    by : is_eq (name_cmp (view_in env p.first) n) ≡ false → view (step w (points env p)) n ≡ view w n → Rest → ((o : Pair) × Has o (p ∷ ps) × (view_in env o.first ≡ n)) ⊎ (view w n ≡ Some t) → view (run (step w (points env p)) (map (points env) ps)) n ≡ Some t
    by e at rest (inl (o, inl i, k)) = absurd (let clash : true ≡ false = sym (is_so (ap (λ (q : Pair). view_in env q.first) i ∙ k)) ∙ e in cc)
    by e at rest (inl (o, inr i, k)) = rest (inl (o, i, k))
    by e at rest (inr k) = rest (inr (at ∙ k))

    go : (b : Bool) → is_eq (name_cmp (view_in env p.first) n) ≡ b → view (step w (points env p)) n ≡ cond b (Some p.second) (view w n) → Rest → view (run (step w (points env p)) (map (points env) ps)) n ≡ Some t
    go true e at rest = rest (inr (at ∙ ap Some (same p (inl refl) (is_here e))))
    go false e at rest = by e at rest h

-- a view after one is dropped
dropped_at : (w : World) → ascends name_cmp view_name w.views ≡ true → (v n : Name) → view (step w (DropView v)) n ≡ cond (is_eq (name_cmp v n)) None (view w n)
dropped_at w up v n = ap target_of (found-without name_cmp names_total names_exact view_name v n w.views up) ∙ go (is_eq (name_cmp v n))
  where
    go : (b : Bool) → target_of (cond b None (found name_cmp view_name n w.views)) ≡ cond b None (view w n)
    go true = refl
    go false = refl

-- views that aren't dropped stay
dropped_others : (env : List ℕ) (ns : List Name) (w : World) → ascends name_cmp view_name w.views ≡ true → (k : Name) → ((n : Name) → Has n ns → ¬ (view_in env n ≡ k)) → view (run w (map (drops env) ns)) k ≡ view w k
dropped_others env [] w up k apart = refl
dropped_others env (n ∷ ns) w up k apart =
    dropped_others env ns (step w (drops env n)) (ascends-without name_cmp names_total view_name (view_in env n) w.views up) k (λ m i. apart m (inr i))
    ∙ dropped_at w up (view_in env n) k ∙ go (is_eq (name_cmp (view_in env n) k)) refl
  where
    go : (c : Bool) → is_eq (name_cmp (view_in env n) k) ≡ c → cond c None (view w k) ≡ view w k
    go false e = refl
    go true e = absurd (apart n (inl refl) (names_exact (view_in env n) k ((Equal-is (name_cmp (view_in env n) k)).0 e)))

-- a view that is dropped, or wasn't there, isn't there
dropped_all : (env : List ℕ) (ns : List Name) (w : World) → ascends name_cmp view_name w.views ≡ true → (k : Name) → ((n : Name) × Has n ns × (view_in env n ≡ k)) ⊎ (view w k ≡ None) → view (run w (map (drops env) ns)) k ≡ None
dropped_all env [] w up k (inl h) = absurd h.1
dropped_all env [] w up k (inr e) = e
dropped_all env (n ∷ ns) w up k h =
    dropped_all env ns (step w (drops env n)) (ascends-without name_cmp names_total view_name (view_in env n) w.views up) k (next h)
  where
    still : (c : Bool) → is_eq (name_cmp (view_in env n) k) ≡ c → view w k ≡ None → cond c None (view w k) ≡ None
    still true e f = refl
    still false e f = f

    next : ((m : Name) × Has m (n ∷ ns) × (view_in env m ≡ k)) ⊎ (view w k ≡ None) → ((m : Name) × Has m ns × (view_in env m ≡ k)) ⊎ (view (step w (drops env n)) k ≡ None)
    next (inl (m, inl i, e)) =
        inr (dropped_at w up (view_in env n) k
        ∙ ap (λ (c : Bool). cond c None (view w k)) ((Equal-is (name_cmp (view_in env n) k)).1 (ap (λ (j : Name). name_cmp (view_in env j) k) i ∙ ap (λ (j : Name). name_cmp j k) e ∙ tied_itself names_total k)))
    next (inl (m, inr i, e)) = inl (m, i, e)
    next (inr e) = inr (dropped_at w up (view_in env n) k ∙ still (is_eq (name_cmp (view_in env n) k)) refl e)

-- the object of a model is made
abbrev pub IsModelMade : Book → Planned → Type 0
IsModelMade b p = (v : Version) × (version_of b p.object ≡ Some v) × (v.made ≡ true)

pub done_made : (clock : Clock) (x : Parts) (b : Book) (p : Planned) → IsDone clock x b p → IsModelMade b p
done_made clock x b p d = (d.current.version, ap (version_of b) (sym d.object) ∙ d.current.known, d.current.made)

-- the objects of all models are made
module _ (plan : Plan) (b : Book) (x : Parts) (w : World) (sound : Sound x w) (environments : w.book.environments ≡ b.environments) (placed : AllByRecursion (IsPlaced plan.models w.book.snapshots) plan.models)
    (made : (p : Planned) → Has p plan.models → IsModelMade w.book p) (names : HaveNames plan.models) (few : length plan.models ≤ 4096) where
  abbrev models : List Planned
  models = plan.models

  abbrev env : List ℕ
  env = plan.env

  abbrev list : List Ref
  list = refs_by_name models

  abbrev all : List Snapshot
  all = w.book.snapshots

  model_placed : (p : Planned) → Has p models → IsPlaced models all p
  model_placed p h = each_of (IsPlaced models all) models placed p h

  plain : (p : Planned) → Has p models → is_plain_schema p.node.own.name.schema ≡ true
  plain p h = let its = model_placed p h in plain_ref w.book (planned_ref p) its.snapshot sound.book.well_formed its.known

  -- the snapshot of an entry is that of a model
  entry_of : (r : Ref) → Has r list → (s : Snapshot) → snapshot_at all r ≡ Some s → (p : Planned) × Has p models × (planned_ref p ≡ r) × (s.object ≡ p.object)
  entry_of r h s at =
      let (p, i, e) = refs_from models r h in
      let its = model_placed p i in
      let same : its.snapshot ≡ s = let both : Some its.snapshot ≡ Some s = sym its.known ∙ ap (snapshot_at all) e ∙ at in cc in
      (p, i, e, ap (λ (u : Snapshot). u.object) (sym same) ∙ its.object)

  -- the list fits the book
  kept : are_kept all list ≡ true
  kept = passes (is_kept all) list (λ r h. let (p, i, e) = refs_from models r h in there r p (model_placed p i) e)
    where
      there : (r : Ref) (p : Planned) → IsPlaced models all p → planned_ref p ≡ r → is_kept all r ≡ true
      there r p its e = subst (λ (o : Option Snapshot). is_some o ≡ true) (sym its.known ∙ ap (snapshot_at all) e) refl

  parents : have_parents all list list ≡ true
  parents = passes (has_parents all list) list (λ r h. let (p, i, e) = refs_from models r h in there r p i (model_placed p i) e)
    where
      there : (r : Ref) (p : Planned) → Has p models → IsPlaced models all p → planned_ref p ≡ r → has_parents all list r ≡ true
      there r p h its e =
          subst (λ (o : Option Snapshot). list_all (is_listed list) (parents_at o) ≡ true) (sym its.known ∙ ap (snapshot_at all) e)
          (subst (λ (l : List Ref). list_all (is_listed list) l ≡ true) (sym its.parents)
          (passes (is_listed list) (map planned_ref (parents_in models p)) (λ q i. let (m, j, f) = Has_map_from planned_ref (parents_in models p) q i in
          subst (λ (t : Ref). is_listed list t ≡ true) f (contained_listed list (planned_ref m) (Has_to list (planned_ref m) (refs_to models names m (parent_there models p m j)))))))

  fit : is_list_fit all list ≡ true
  fit =
      let short = refs_short models in
      and_both (are_kept all list) _ kept (and_both (nat_le (length list) 4096) _ (le-leb (length list) 4096 (omega (arith, short, few))) (and_both (ascends name_cmp ref_name list) (have_parents all list list) (refs_ascend models) parents))

  entry_made : (r : Ref) → Contains list r → ForSome (snapshot_at all r) (IsObjectMade w.book)
  entry_made r h s at =
      let (p, i, e, f) = entry_of r (Has_from list r h) s at in
      let m = made p i in
      (m.0, ap (version_of w.book) f ∙ m.1, m.2)

  -- pending
  abbrev expires : Option ℤ
  expires = expiry env plan.moment

  abbrev begun : World
  begun = step w (SetPending env list expires)

  abbrev pending : Env
  pending = record { name = env; pending = true; list = list; previous = previous_of (env_at w.book env); expires = expires }

  begun_sound : Sound x begun
  begun_sound = env_pending x w sound env list expires fit entry_made

  known : IsEnv begun.book pending
  known = env_there pending w.book.environments

  -- worlds with the book of this one
  pends : (v : World) → v.book ≡ begun.book → IsEnv v.book pending
  pends v same = subst (λ (k : Book). IsEnv k pending) (sym same) known

  -- each view is pointed
  record IsAfter (v : World) (list_of : List Change) : Type 0 where
    along : StaysAlong x v list_of
    book : (run v list_of).book ≡ begun.book
    sound_then : Sound x (run v list_of)

  pointing : (os : List Pair) → ((o : Pair) → Has o os → Has o (objects_by_name models)) → (v : World) → v.book ≡ begun.book → Sound x v → IsAfter v (map (points env) os)
  pointing [] from v same s = record { along = s; book = same; sound_then = s }
  pointing (o ∷ os) from v same s = with_rest (objects_from models o (from o (inl refl))) (λ k. pointing os (λ p i. from p (inr i)) (step v (points env o)) same k)
    where
      with_rest : (p : Planned) × Has p models × (its_pair p ≡ o) → (Sound x (step v (points env o)) → IsAfter (step v (points env o)) (map (points env) os)) → IsAfter v (map (points env) (o ∷ os))
      with_rest (p, i, e) more =
          let at = model_placed p i in
          let there : snapshot_at v.book.snapshots (planned_ref p) ≡ Some at.snapshot = ap (λ (k : Book). snapshot_at k.snapshots (planned_ref p)) same ∙ at.known in
          let pointed_one : Sound x (step v (PointView (view_in env p.node.own.name) at.snapshot.object)) =
          view_pointed x v s pending (pends v same) refl (planned_ref p) (inl (Has_to list (planned_ref p) (refs_to models names p i))) at.snapshot there in
          let after : Sound x (step v (points env o)) =
          subst (λ (c : Change). Sound x (step v c)) ((λ j. PointView (view_in env p.node.own.name) (at.object j)) ∙ ap (points env) e) pointed_one in
          let rest = more after in
          record { along = along_then x v (points env o) (map (points env) os) s (λ q. refl) rest.along; book = rest.book; sound_then = rest.sound_then }

  abbrev pairs : List Pair
  pairs = objects_by_name models

  abbrev pointed : World
  pointed = run begun (map (points env) pairs)

  points_after : IsAfter begun (map (points env) pairs)
  points_after = pointing pairs (λ o i. i) begun refl begun_sound

  -- the view of each model points at its object
  view_of : (p : Planned) → Has p models → view pointed (view_in env p.node.own.name) ≡ Some p.object
  view_of p h = pointed_at env pairs begun (view_in env p.node.own.name) p.object same (inl (its_pair p, objects_to models names p h, refl))
    where
      same : (o : Pair) → Has o pairs → view_in env o.first ≡ view_in env p.node.own.name → o.second ≡ p.object
      same o i e =
          let (q, j, f) = objects_from models o i in
          let one = view_names env env q.node.own.name p.node.own.name (plain q j) (plain p h) (ap (λ (k : Pair). view_in env k.first) f ∙ e) in
          let is : q ≡ p = names q p j h one.1 in
          ap (λ (k : Pair). k.second) (sym f) ∙ ap (λ (m : Planned). m.object) is

  abbrev going : List Name
  going = gone b env models

  before_is : previous_of (env_at b env) ≡ pending.previous
  before_is = ap (λ (es : List Env). previous_of (found text_cmp env_name env es)) (sym environments)

  -- the names that go are those of entries of the list before, and of no model
  going_is : (n : Name) → Has n going → (r : Ref) × Has r pending.previous × (r.name ≡ n) × (has_model models n ≡ false)
  going_is n h = let (r, i, e, f) = gone_from b env models n h in (r, subst (Has r) before_is i, e, f)

  previous_plain : (v : World) → v.book ≡ begun.book → Sound x v → (r : Ref) → Has r pending.previous → is_plain_schema r.name.schema ≡ true
  previous_plain v same s r h =
      let own = own_of_old x v s pending (pends v same) in
      let previous : are_kept v.book.snapshots pending.previous ≡ true = and_left (are_kept v.book.snapshots pending.previous) _ (and_right (are_kept v.book.snapshots pending.list) _ own) in
      go (snapshot_at v.book.snapshots r) refl (item_passes (is_kept v.book.snapshots) pending.previous r previous (Has_to pending.previous r h))
    where
      go : (o : Option Snapshot) → snapshot_at v.book.snapshots r ≡ o → is_some o ≡ true → is_plain_schema r.name.schema ≡ true
      go None e f = absurd (let clash : false ≡ true = f in cc)
      go (Some u) e f = plain_ref v.book r u s.book.well_formed e

  going_plain : (n : Name) → Has n going → is_plain_schema n.schema ≡ true
  going_plain n h = let (r, i, e, f) = going_is n h in ap (λ (m : Name). is_plain_schema m.schema) (sym e) ∙ previous_plain begun refl begun_sound r i

  -- views of models that are gone are dropped
  dropping : (ns : List Name) → ((n : Name) → Has n ns → Has n going) → (v : World) → v.book ≡ begun.book → Sound x v → IsAfter v (map (drops env) ns)
  dropping [] from v same s = record { along = s; book = same; sound_then = s }
  dropping (n ∷ ns) from v same s = with_rest (dropping ns (λ m i. from m (inr i)) (step v (drops env n)) same (view_dropped x v s pending (pends v same) refl n (going_plain n (from n (inl refl)))))
    where
      with_rest : IsAfter (step v (drops env n)) (map (drops env) ns) → IsAfter v (map (drops env) (n ∷ ns))
      with_rest rest = record { along = along_then x v (drops env n) (map (drops env) ns) s (λ q. refl) rest.along; book = rest.book; sound_then = rest.sound_then }

  abbrev cleared : World
  cleared = run pointed (map (drops env) going)

  drops_after : IsAfter pointed (map (drops env) going)
  drops_after = dropping going (λ n i. i) pointed points_after.book points_after.sound_then

  views_ascend : ascends name_cmp view_name pointed.views ≡ true
  views_ascend = points_after.sound_then.typed.views

  -- the views of the models stay
  view_stays : (p : Planned) → Has p models → view cleared (view_in env p.node.own.name) ≡ Some p.object
  view_stays p h = dropped_others env going pointed views_ascend (view_in env p.node.own.name) apart ∙ view_of p h
    where
      apart : (n : Name) → Has n going → ¬ (view_in env n ≡ view_in env p.node.own.name)
      apart n i e =
          let one : n ≡ p.node.own.name = (view_names env env n p.node.own.name (going_plain n i) (plain p h) e).1 in
          let (r, j, f, other) = going_is n i in
          let clash : true ≡ false = sym (listed_to models p h) ∙ ap (has_model models) (sym one) ∙ other in absurd (cc)

  -- an entry of the list before has a view for a model alone
  entry_listed : (r : Ref) → Contains pending.previous r → (t : Name) → view cleared (view_in env r.name) ≡ Some t → (q : Ref) × Contains list q × (q.name ≡ r.name)
  entry_listed r k t at = go (has_model models r.name) refl
    where
      go : (c : Bool) → has_model models r.name ≡ c → (q : Ref) × Contains list q × (q.name ≡ r.name)
      go true e = let (p, i, f) = listed_from models r.name e in (planned_ref p, Has_to list (planned_ref p) (refs_to models names p i), f)
      go false e =
          let goes : Has r.name going = gone_to b env models r (subst (Has r) (sym before_is) (Has_from pending.previous r k)) e in
          absurd (let clash : Some t ≡ None = sym at ∙ dropped_all env going pointed views_ascend (view_in env r.name) (inl (r.name, goes, refl)) in cc)

  shown : (r : Ref) → Contains list r → (s : Snapshot) → snapshot_at cleared.book.snapshots r ≡ Some s → view cleared (view_in env r.name) ≡ Some s.object
  shown r k s at =
      let (p, i, e, f) = entry_of r (Has_from list r k) s (ap (λ (c : Book). snapshot_at c.snapshots r) (sym drops_after.book) ∙ at) in
      ap (λ (q : Ref). view cleared (view_in env q.name)) (sym e) ∙ view_stays p i ∙ ap Some (sym f)

  ended_known : IsEnv cleared.book pending
  ended_known = pends cleared drops_after.book

  abbrev finished : World
  finished = step cleared (Finalize env)

  finished_sound : Sound x finished
  finished_sound = env_finalized x cleared drops_after.sound_then pending ended_known shown entry_listed

  abbrev tail : List Change
  tail = map (drops env) going ++ Finalize env ∷ []

  abbrev rest_of : List Change
  rest_of = map (points env) pairs ++ tail

  pub promoting_along : StaysAlong x w (promotes b plan)
  promoting_along =
      along_then x w (SetPending env list expires) rest_of sound (λ q. refl)
      (along_and_then x begun (map (points env) pairs) tail (left_same (points env) (λ o q. refl) pairs x) points_after.along
      (along_and_then x pointed (map (drops env) going) (Finalize env ∷ []) (left_same (drops env) (λ n q. refl) going x) drops_after.along
      (along_kept x cleared (Finalize env) drops_after.sound_then finished_sound (λ q. refl))))

  ends_there : run w (promotes b plan) ≡ finished
  ends_there = run-append begun (map (points env) pairs) tail ∙ run-append pointed (map (drops env) going) (Finalize env ∷ [])

  abbrev ended : Env
  ended = as_final pending

  abbrev final_book : Book
  final_book = record cleared.book { environments = exchanged text_cmp env_name ended cleared.book.environments }

  final_is : finished.book ≡ final_book
  final_is = ap (λ (o : Option Env). at_env o as_final cleared.book) ended_known

  final_known : IsEnv finished.book ended
  final_known =
      subst (λ (k : Book). IsEnv k ended) (sym final_is)
      (found-exchanged text_cmp exact_bytes env_name ended env pending cleared.book.environments ended_known
      ∙ ap (λ (c : Bool). cond c (Some ended) (env_at cleared.book env)) ((Equal-is (text_cmp env env)).1 (tied_itself texts_total env)))

  snapshots_stay : finished.book.snapshots ≡ all
  snapshots_stay = ap (λ (k : Book). k.snapshots) final_is ∙ ap (λ (k : Book). k.snapshots) drops_after.book

  versions_stay : (n : Name) → version_of finished.book n ≡ version_of w.book n
  versions_stay n = ap (λ (k : Book). version_of k n) final_is ∙ ap (λ (k : Book). version_of k n) drops_after.book

  moment_stays : finished.book.moment ≡ w.book.moment
  moment_stays = ap (λ (k : Book). k.moment) final_is ∙ ap (λ (k : Book). k.moment) drops_after.book

  -- and all models are done
  module _ (clock : Clock) (now : Shows clock w.book.moment) (done : AreDone clock x w.book models) where
    done_then : AreDone clock x finished.book models
    done_then = all_of (IsDone clock x finished.book) models (λ p h. done_kept clock x x (λ q e. e) w.book finished.book snapshots_stay p (λ n e. versions_stay n) (each_of (IsDone clock x w.book) models done p h))

    finished_final : Final finished clock env models
    finished_final =
        environment_final x finished clock finished_sound (subst (Shows clock) (sym moment_stays) now) ended final_known refl models refl done_then
        (all_of (λ p. Contains list (planned_ref p)) models (λ p h. Has_to list (planned_ref p) (refs_to models names p h)))

    pub promoted_final : Final (run w (promotes b plan)) clock plan.env plan.models
    promoted_final = subst (λ (v : World). Final v clock env models) (sym ends_there) finished_final
