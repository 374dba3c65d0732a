-- What a promotion does to the views, once and again.
use Rattle.std.proofs.Common.{◌≡◌, ℕ, zero, suc, Bool, true, false, cond, not, ◌⊎◌, inl, inr, List, [], ◌∷◌, ◌++◌, map, Some, None, refl, sym, ap, ◌∙◌, subst}
use Rattle.std.specs.Prelude.{◌||◌}
use Rattle.std.specs.Cmp.{Equal-is, IsTotalOrder}
use Rattle.std.specs.List.{filter, list_any}
use Rattle.std.specs.Option.{option_and_then}
use Rattle.std.specs.Ordering.{is_eq}
use Rattle.std.specs.declared.cmp.Ordering.{Ordering}
use Rattle.std.specs.declared.option.Option.{Option}
use Rattle.std.proofs.lemmas.Cmp.{tied_itself}
use Rattle.std.proofs.lemmas.Map.Lookups.{CmpEqualImpliesEq, exact_bytes}
use Rattle.mesh_list.specs.Keyed.{ascends, exchanged, found, placed, without}
use Rattle.mesh_list.proofs.Ascends.{ascends-placed}
use Rattle.mesh_list.proofs.Found.{found-placed}
use Rattle.mesh_list.proofs.Standing.{ascends-without}
use Rattle.mesh_base_values.specs.Names.{name_cmp, text_cmp}
use Rattle.mesh_base_values.specs.NameOrder.{names_exact, names_total, texts_total}
use Rattle.mesh_base_values.specs.declared.values.Cell.{Cell}
use Rattle.mesh_base_values.specs.declared.values.Name.{Name}
use Rattle.mesh_base_values.specs.declared.values.Pair.{Pair}
use Rattle.mesh_base.specs.Keys.{env_name, ref_name}
use Rattle.mesh_base.specs.declared.snapshots.Env.{Env}
use Rattle.mesh_base.specs.declared.snapshots.Ref.{Ref}
use Rattle.mesh_house_book.specs.Changes.{as_final, at_env, finalize, previous_of, put, put_for, set_pending}
use Rattle.mesh_house_book.specs.declared.book.Book.{Book}
use Rattle.mesh_law_query.proofs.Has.{Has, Has_filter_from, Has_map, Has_map_from}
use Rattle.mesh_spec_changes.proofs.listed.Lists.{placed_from}
use Rattle.mesh_spec_changes.specs.due.Plans.{Planned}
use Rattle.mesh_spec_changes.specs.due.Parts.{same_name}
use Rattle.mesh_house.specs.Step.{run, step}
use Rattle.mesh_house.specs.World.{body_of, object_at, target_of, view_name}
use Rattle.mesh_base.specs.declared.jobs.Input.{Input}
use Rattle.mesh_house.specs.declared.objects.Body.{Body}
use Rattle.mesh_house.specs.declared.objects.Body.TheVariants.{Rows, Stored}
use Rattle.mesh_house.specs.declared.objects.Object.{Object}
use Rattle.mesh_house.specs.declared.world.Change.TheVariants.{Finalize}
use Rattle.mesh_house.specs.declared.world.ViewOf.{ViewOf}
use Rattle.mesh_house.specs.declared.world.World.{World}
use Rattle.mesh_house.proofs.Runs.{run-append}
use Rattle.mesh_spec_changes.specs.shown.Shown.{body_rows, each_there, rows_through, stored_rows, target_table, view_rows}
use Rattle.mesh_spec_changes.specs.Changes.{Plan, drops, expiry, gone, is_listed, names_by_order, objects_by_name, pair_first, planned_ref, points, promotes, refs_by_name, target_of as its_pair}
use Rattle.mesh_spec_changes.specs.Environments.{env_at, view_in}
use Rattle.mesh_law_changes.proofs.Rising.{found-without}
use Rattle.mesh_spec_promise.specs.Sound.{IsTyped}
use Rattle.mesh_law_steps.proofs.again.Lists.{all_without, filter_none}
use Rattle.mesh_law_steps.proofs.again.Names.{from_order, one_model}

-- views that are pointed, one after another
abbrev pointed : List ℕ → List Pair → List ViewOf → List ViewOf
pointed env [] vs = vs
pointed env (o ∷ os) vs = pointed env os (placed name_cmp view_name (record { view = view_in env o.first; target = o.second }) vs)

views_pointed : (env : List ℕ) (os : List Pair) (w : World) → run w (map (points env) os) ≡ record w { views = pointed env os w.views }
views_pointed env [] w = refl
views_pointed env (o ∷ os) w = views_pointed env os (step w (points env o))

views_dropped : (env : List ℕ) (ns : List Name) (w : World) → run w (map (drops env) ns) ≡ record w { views = all_without name_cmp view_name (map (view_in env) ns) w.views }
views_dropped env [] w = refl
views_dropped env (n ∷ ns) w = views_dropped env ns (step w (drops env n))

-- a promotion's world
abbrev promoted : Book → Plan → World → World
promoted b plan w = record w {
  views = all_without name_cmp view_name (map (view_in plan.env) (gone b plan.env plan.models)) (pointed plan.env (objects_by_name plan.models) w.views);
  book = finalize (set_pending w.book plan.env (refs_by_name plan.models) (expiry plan.env plan.moment)) plan.env;
}

pub promoting : (b : Book) (plan : Plan) (w : World) → run w (promotes b plan) ≡ promoted b plan w
promoting b plan w =
    let begun : World = record w { book = set_pending w.book plan.env (refs_by_name plan.models) (expiry plan.env plan.moment) } in
    let seen : World = record begun { views = pointed plan.env (objects_by_name plan.models) w.views } in
    run-append begun (map (points plan.env) (objects_by_name plan.models)) (map (drops plan.env) (gone b plan.env plan.models) ++ Finalize plan.env ∷ [])
    ∙ ap (λ (v : World). run v (map (drops plan.env) (gone b plan.env plan.models) ++ Finalize plan.env ∷ [])) (views_pointed plan.env (objects_by_name plan.models) begun)
    ∙ run-append seen (map (drops plan.env) (gone b plan.env plan.models)) (Finalize plan.env ∷ [])
    ∙ ap (λ (v : World). step v (Finalize plan.env)) (views_dropped plan.env (gone b plan.env plan.models) seen)

module _ {A K : Type 0} (R : K → K → Ordering) (total : IsTotalOrder R) (exact : CmpEqualImpliesEq R) (key : A → K) where
  -- an item that took the place of one with its key is found
  found_instead : (k : K) (v y : A) (xs : List A) → key y ≡ k → found R key k xs ≡ Some v → found R key k (exchanged R key y xs) ≡ Some y
  found_instead k v y [] same h = absurd (let clash : None ≡ Some v = h in cc)
  found_instead k v y (x ∷ xs) same h =
      ap (λ (n : K). found R key k (cond (is_eq (R (key x) n)) (y ∷ xs) (x ∷ exchanged R key y xs))) same
      ∙ at (is_eq (R (key x) k)) refl (found_instead k v y xs same) h
    where
      at : (b : Bool) → is_eq (R (key x) k) ≡ b → (found R key k xs ≡ Some v → found R key k (exchanged R key y xs) ≡ Some y) → cond b (Some x) (found R key k xs) ≡ Some v → found R key k (cond b (y ∷ xs) (x ∷ exchanged R key y xs)) ≡ Some y
      at true e more h = ap (λ (o : Ordering). cond (is_eq o) (Some y) (found R key k xs)) (ap (R (key y)) (sym same) ∙ tied_itself total (key y))
      at false e more h = ap (λ (b : Bool). cond b (Some x) (found R key k (exchanged R key y xs))) e ∙ more h

  -- an item that was put is found
  put_found : (y : A) (xs : List A) → found R key (key y) (put R key y xs) ≡ Some y
  put_found y xs = go (found R key (key y) xs) refl
    where
      go : (o : Option A) → found R key (key y) xs ≡ o → found R key (key y) (put_for o R key y xs) ≡ Some y
      go None e = found-placed R exact key y (key y) xs ∙ ap (λ (o : Ordering). cond (is_eq o) (Some y) (found R key (key y) xs)) (tied_itself total (key y))
      go (Some v) e = found_instead (key y) v y xs refl e

-- the book of a promotion has the environment with the plan's list, and no other one before it
module _ (b : Book) (plan : Plan) where
  abbrev list : List Ref
  list = refs_by_name plan.models

  abbrev pending : Env
  pending = record { name = plan.env; pending = true; list = list; previous = previous_of (found text_cmp env_name plan.env b.environments); expires = expiry plan.env plan.moment }

  abbrev waiting : Book
  waiting = set_pending b plan.env list (expiry plan.env plan.moment)

  it_waits : env_at waiting plan.env ≡ Some pending
  it_waits = put_found text_cmp texts_total exact_bytes env_name pending b.environments

  it_is_final : env_at (finalize waiting plan.env) plan.env ≡ Some (as_final pending)
  it_is_final = ap (λ (o : Option Env). env_at (at_env o as_final waiting) plan.env) it_waits ∙ found_instead text_cmp texts_total exact_bytes env_name plan.env pending (as_final pending) waiting.environments refl it_waits

  left : List Name
  left = gone (finalize waiting plan.env) plan.env plan.models

  listed_all : (all : List Planned) (n : Name) → Has n (map ref_name (refs_by_name all)) → is_listed all n ≡ true
  listed_all [] n h = absurd h
  listed_all (p ∷ ps) n h =
      let (r, i, e) = Has_map_from ref_name (refs_by_name (p ∷ ps)) n h in
      go r e (placed_from name_cmp ref_name (planned_ref p) (refs_by_name ps) r i) (λ k. listed_all ps n (Has_map ref_name (refs_by_name ps) r n k e))
    where
      go : (r : Ref) → r.name ≡ n → (planned_ref p ≡ r) ⊎ Has r (refs_by_name ps) → (Has r (refs_by_name ps) → is_listed ps n ≡ true) → is_listed (p ∷ ps) n ≡ true
      go r e (inl q) more = ap (λ (o : Ordering). is_eq o || is_listed ps n) (ap (λ (m : Name). name_cmp m n) (ap ref_name q ∙ e) ∙ tied_itself names_total n)
      go r e (inr k) more = or_true (same_name p.node.own.name n) (more k)
        where
          or_true : (c : Bool) → is_listed ps n ≡ true → (c || is_listed ps n) ≡ true
          or_true true m = refl
          or_true false m = m

  -- so a second promotion leaves nothing out
  none_left : gone (finalize waiting plan.env) plan.env plan.models ≡ []
  none_left =
      ap (λ (o : Option Env). filter (λ n. not (is_listed plan.models n)) (names_by_order (map ref_name (previous_of o)))) it_is_final
      ∙ filter_none (λ n. not (is_listed plan.models n)) (names_by_order (map ref_name list)) (λ n h. ap not (listed_all plan.models n (from_order (map ref_name list) n h)))

-- the view of a name after some were pointed, where this one was there before
abbrev looked : List ℕ → List Pair → Name → Option ViewOf → Option ViewOf
looked env [] k o = o
looked env (p ∷ ps) k o = looked env ps k (cond (is_eq (name_cmp (view_in env p.first) k)) (Some (record { view = view_in env p.first; target = p.second })) o)

seen_pointed : (env : List ℕ) (os : List Pair) (k : Name) (vs : List ViewOf) → found name_cmp view_name k (pointed env os vs) ≡ looked env os k (found name_cmp view_name k vs)
seen_pointed env [] k vs = refl
seen_pointed env (o ∷ os) k vs =
    seen_pointed env os k (placed name_cmp view_name (record { view = view_in env o.first; target = o.second }) vs)
    ∙ ap (looked env os k) (found-placed name_cmp names_exact view_name (record { view = view_in env o.first; target = o.second }) k vs)

-- either a view of that name is pointed, whatever was there before, or what was there before is there
pub record Set (env : List ℕ) (os : List Pair) (k : Name) : Type 0 where
  pub its : ViewOf
  pub pair : Pair
  pub one : Has pair os
  pub named : is_eq (name_cmp (view_in env pair.first) k) ≡ true
  pub always : (o : Option ViewOf) → looked env os k o ≡ Some its

abbrev Kept : List ℕ → List Pair → Name → Type 0
Kept env os k = (o : Option ViewOf) → looked env os k o ≡ o

set_or_kept : (env : List ℕ) (os : List Pair) (k : Name) → Set env os k ⊎ Kept env os k
set_or_kept env [] k = inr (λ o. refl)
set_or_kept env (p ∷ ps) k = go (set_or_kept env ps k)
  where
    its : ViewOf
    its = record { view = view_in env p.first; target = p.second }

    Answer : Type 0
    Answer = Set env (p ∷ ps) k ⊎ Kept env (p ∷ ps) k

    by_name : Kept env ps k → (c : Bool) → is_eq (name_cmp (view_in env p.first) k) ≡ c → Answer
    by_name rest true e = inl (record {
      its = its;
      pair = p;
      one = inl refl;
      named = e;
      always = λ o. rest _ ∙ ap (λ (c : Bool). cond c (Some its) o) e;
    })
    by_name rest false e = inr (λ o. rest _ ∙ ap (λ (c : Bool). cond c (Some its) o) e)

    go : Set env ps k ⊎ Kept env ps k → Answer
    go (inl s) = inl (record { its = s.its; pair = s.pair; one = inr s.one; named = s.named; always = λ o. s.always _ })
    go (inr rest) = by_name rest (is_eq (name_cmp (view_in env p.first) k)) refl

pair_of : (all : List Planned) (o : Pair) → Has o (objects_by_name all) → is_listed all o.first ≡ true
pair_of [] o h = absurd h
pair_of (p ∷ ps) o h = go (placed_from name_cmp pair_first (its_pair p) (objects_by_name ps) o h) (pair_of ps o)
  where
    go : (its_pair p ≡ o) ⊎ Has o (objects_by_name ps) → (Has o (objects_by_name ps) → is_listed ps o.first ≡ true) → is_listed (p ∷ ps) o.first ≡ true
    go (inl q) more = ap (λ (c : Ordering). is_eq c || is_listed ps o.first) (ap (λ (m : Name). name_cmp m o.first) (ap pair_first q) ∙ tied_itself names_total o.first)
    go (inr k) more = or_true (same_name p.node.own.name o.first) (more k)
      where
        or_true : (c : Bool) → is_listed ps o.first ≡ true → (c || is_listed ps o.first) ≡ true
        or_true true m = refl
        or_true false m = m

-- some name is one of these
abbrev any_name : List Name → Name → Bool
any_name ns k = list_any (λ n. is_eq (name_cmp n k)) ns

found_left : (ns : List Name) (k : Name) (vs : List ViewOf) → ascends name_cmp view_name vs ≡ true → found name_cmp view_name k (all_without name_cmp view_name ns vs) ≡ cond (any_name ns k) None (found name_cmp view_name k vs)
found_left [] k vs up = refl
found_left (n ∷ ns) k vs up =
    found_left ns k (without name_cmp view_name n vs) (ascends-without name_cmp names_total view_name n vs up)
    ∙ ap (cond (any_name ns k) None) (found-without name_cmp names_total names_exact view_name n k vs up)
    ∙ go (is_eq (name_cmp n k)) (any_name ns k)
  where
    go : (c d : Bool) → cond d None (cond c None (found name_cmp view_name k vs)) ≡ cond (c || d) None (found name_cmp view_name k vs)
    go true true = refl
    go true false = refl
    go false d = refl

pointed_ascend : (env : List ℕ) (os : List Pair) (vs : List ViewOf) → ascends name_cmp view_name vs ≡ true → ascends name_cmp view_name (pointed env os vs) ≡ true
pointed_ascend env [] vs up = up
pointed_ascend env (o ∷ os) vs up = pointed_ascend env os _ (ascends-placed name_cmp names_total view_name (record { view = view_in env o.first; target = o.second }) vs up)

left_ascend : (ns : List Name) (vs : List ViewOf) → ascends name_cmp view_name vs ≡ true → ascends name_cmp view_name (all_without name_cmp view_name ns vs) ≡ true
left_ascend [] vs up = up
left_ascend (n ∷ ns) vs up = left_ascend ns (without name_cmp view_name n vs) (ascends-without name_cmp names_total view_name n vs up)

any_from : (env : List ℕ) (ns : List Name) (k : Name) → any_name (map (view_in env) ns) k ≡ true → (n : Name) × Has n ns × (view_in env n ≡ k)
any_from env [] k h = absurd (let clash : false ≡ true = h in cc)
any_from env (n ∷ ns) k h = go (is_eq (name_cmp (view_in env n) k)) refl h (any_from env ns k)
  where
    go : (c : Bool) → is_eq (name_cmp (view_in env n) k) ≡ c → (c || any_name (map (view_in env) ns) k) ≡ true → (any_name (map (view_in env) ns) k ≡ true → (m : Name) × Has m ns × (view_in env m ≡ k)) → (m : Name) × Has m (n ∷ ns) × (view_in env m ≡ k)
    go true e i more = (n, inl refl, names_exact (view_in env n) k ((Equal-is (name_cmp (view_in env n) k)).0 e))
    go false e i more = let (m, j, q) = more i in (m, inr j, q)

module _ (w : World) (plan : Plan) (up : ascends name_cmp view_name w.views ≡ true) (k : Name) where
  abbrev env : List ℕ
  env = plan.env

  abbrev os : List Pair
  os = objects_by_name plan.models

  abbrev first : World
  first = promoted w.book plan w

  abbrev second : World
  second = promoted first.book plan first

  abbrev drop : List Name
  drop = map (view_in env) (gone w.book env plan.models)

  first_views : found name_cmp view_name k first.views ≡ cond (any_name drop k) None (looked env os k (found name_cmp view_name k w.views))
  first_views =
      found_left drop k (pointed env os w.views) (pointed_ascend env os w.views up)
      ∙ ap (cond (any_name drop k) None) (seen_pointed env os k w.views)

  second_views : found name_cmp view_name k second.views ≡ looked env os k (found name_cmp view_name k first.views)
  second_views =
      ap (λ (ns : List Name). found name_cmp view_name k (all_without name_cmp view_name (map (view_in env) ns) (pointed env os first.views))) (none_left w.book plan)
      ∙ seen_pointed env os k first.views

  same_views : found name_cmp view_name k second.views ≡ found name_cmp view_name k first.views
  same_views = second_views ∙ go (set_or_kept env os k)
    where
      -- a view that is pointed is none that goes
      both : Set env os k → any_name drop k ≡ true → ⊥
      both s e =
          let (n, i, q) = any_from env (gone w.book env plan.models) k e in
          let its : view_in env s.pair.first ≡ k = names_exact (view_in env s.pair.first) k ((Equal-is (name_cmp (view_in env s.pair.first) k)).0 s.named) in
          let same : s.pair.first ≡ n = one_model env s.pair.first n (its ∙ sym q) in
          let listed : is_listed plan.models n ≡ true = ap (is_listed plan.models) (sym same) ∙ pair_of plan.models s.pair s.one in
          let out = (Has_filter_from (λ m. not (is_listed plan.models m)) (names_by_order (map ref_name (previous_of (env_at w.book env)))) n i).1 in
          let clash : false ≡ true = sym (ap not listed) ∙ out in
          absurd (cc)

      shown : Set env os k → (c : Bool) → any_name drop k ≡ c → looked env os k (found name_cmp view_name k first.views) ≡ found name_cmp view_name k first.views
      shown s true e = absurd (both s e)
      shown s false e = s.always _ ∙ sym (first_views ∙ ap (λ (c : Bool). cond c None (looked env os k (found name_cmp view_name k w.views))) e ∙ s.always _)

      go : Set env os k ⊎ Kept env os k → looked env os k (found name_cmp view_name k first.views) ≡ found name_cmp view_name k first.views
      go (inl s) = shown s (any_name drop k) refl
      go (inr rest) = rest _

-- what shows rows does so by the sources and the objects alone
module _ (sources : List Input) (objects : List Object) (views others : List ViewOf) (book another : Book) where
  abbrev one : World
  one = record { sources = sources; objects = objects; views = views; book = book }

  abbrev other : World
  other = record { sources = sources; objects = objects; views = others; book = another }

  pub behind : (depth : ℕ) (n : Name) → rows_through depth one n ≡ rows_through depth other n
  behind zero n = refl
  behind (suc d) n = go (λ m. behind d m) (body_of (object_at one n))
    where
      go : ((m : Name) → rows_through d one m ≡ rows_through d other m) → (x : Option Body) → option_and_then (body_rows (rows_through d one) one) x ≡ option_and_then (body_rows (rows_through d other) other) x
      go below None = refl
      go below (Some (Rows rows)) = refl
      go below (Some (Stored own ts)) = ap (λ (f : Name → Option (List (List Cell))). stored_rows own ts own.defn sources (each_there (map (target_table f other) ts))) (λ i m. below m i)

pub shown_again : (w : World) (plan : Plan) → IsTyped w → (k : Name) → view_rows (run (run w (promotes w.book plan)) (promotes (run w (promotes w.book plan)).book plan)) k ≡ view_rows (run w (promotes w.book plan)) k
shown_again w plan typed k = subst (λ (x : World). view_rows (run x (promotes x.book plan)) k ≡ view_rows x k) (sym (promoting w.book plan w)) there
  where
    first : World
    first = promoted w.book plan w

    second : World
    second = promoted first.book plan first

    there : view_rows (run first (promotes first.book plan)) k ≡ view_rows first k
    there =
        ap (λ (x : World). view_rows x k) (promoting first.book plan first)
        ∙ (λ i. option_and_then (λ n. behind w.sources w.objects second.views first.views second.book first.book 4096 n i) (target_of (same_views w plan typed.views k i)))
