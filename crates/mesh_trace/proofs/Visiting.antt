-- A model is visited: what is fed to what is asked of it, and of its parents then.
use Rattle.std.proofs.Common.{◌≡◌, ◌⊎◌, inl, inr, ℕ, zero, suc, ◌<◌, true, List, [], ◌∷◌, ◌++◌, map, length, get_or, refl, sym, ap, ◌∙◌, subst, append-nil, append_assoc, arith}
use Rattle.std.specs.List.{flat_map, slice_get}
use Rattle.std.specs.Option.{option_to_list}
use Rattle.std.specs.declared.option.Option.TheVariants.{None, Some}
use Rattle.std.proofs.lemmas.List.{length-set}
use Rattle.std.proofs.lemmas.Option.{slice_get_read, slice_get_within}
use Rattle.mesh_base.specs.declared.definitions.Own.{Own}
use Rattle.mesh_base.specs.declared.definitions.Reading.{Reading}
use Rattle.mesh_base.specs.declared.snapshots.Node.{Node}
use Rattle.mesh_base.specs.rules.Proper.{is_proper}
use Rattle.mesh_spec_model.specs.Closures.{Closure, Closures, Model, Alone, With, closures, each_of, own_of}
use Rattle.mesh_law_query.proofs.Has.{Has, Has_cases, Has_flat, Has_flat_from, Has_from, Has_left, Has_right, Has_some, Has_some_from, Has_to}
use Rattle.mesh_law_query.proofs.Projects.{before_it, closures_there}
use Rattle.mesh_lineage.specs.Alike.{IsAlike}
use Rattle.mesh_spec_model.proofs.Listed.{one_each}
use Rattle.mesh_trace.specs.Asks.{Ask, all_fed, ask_more, asked_at, asked_parent, asked_parents, fed}
use Rattle.mesh_trace.specs.Feeds.{feeds, feeds_of, needed_of, needs, own_feeds}
use Rattle.mesh_trace.specs.declared.traces.Trace.{Trace}
use Rattle.mesh_trace.proofs.Needs.{Str}
use Rattle.mesh_trace.proofs.Feeding.{feeds_both, feeds_joined}

-- one more of whom something is asked
pub all_more : (asks : List Ask) (a : Ask) (cs : List Closure) (c : Closure) → slice_get cs (length asks) ≡ Some c → all_fed (asks ++ a ∷ []) cs ≡ all_fed asks cs ++ fed a c
all_more [] a [] c e = absurd (cc)
all_more [] a (d ∷ cs) c e = append-nil (fed a d) ∙ ap (fed a) (let same : d ≡ c = cc in same)
all_more (b ∷ asks) a [] c e = absurd (cc)
all_more (b ∷ asks) a (d ∷ cs) c e = ap (λ l. fed b d ++ l) (all_more asks a cs c e) ∙ sym (append_assoc (fed b d) (all_fed asks cs) (fed a c))

module _ (t : Trace) where
  more_to : (a : Ask) (more : List Str) (c : Closure) → Has t (fed (ask_more a more) c) → Has t (fed a c) ⊎ Has t (feeds c more)
  more_to None more c h = inr h
  more_to (Some w) more c h = Has_cases t (feeds c w) (feeds c more) (feeds_joined c w more t h)

  more_kept : (a : Ask) (more : List Str) (c : Closure) → Has t (fed a c) → Has t (fed (ask_more a more) c)
  more_kept None more c h = absurd h
  more_kept (Some w) more c h = feeds_both c w more t (Has_left t (feeds c w) (feeds c more) h)

  more_new : (a : Ask) (more : List Str) (c : Closure) → Has t (feeds c more) → Has t (fed (ask_more a more) c)
  more_new None more c h = h
  more_new (Some w) more c h = feeds_both c w more t (Has_right t (feeds c w) (feeds c more) h)

  -- more is asked of the model at a place
  at_to : (asks : List Ask) (cs : List Closure) (i : ℕ) (c : Closure) (more : List Str) → slice_get cs i ≡ Some c → Has t (all_fed (asked_at asks i more) cs) → Has t (all_fed asks cs) ⊎ Has t (feeds c more)
  at_to [] cs i c more e h = absurd h
  at_to (a ∷ asks) [] i c more e h = absurd (cc)
  at_to (a ∷ asks) (d ∷ cs) zero c more e h = go (Has_cases t (fed (ask_more a more) d) (all_fed asks cs) h)
    where
      same : d ≡ c
      same = cc

      first : Has t (fed a d) ⊎ Has t (feeds d more) → Has t (fed a d ++ all_fed asks cs) ⊎ Has t (feeds c more)
      first (inl k) = inl (Has_left t (fed a d) (all_fed asks cs) k)
      first (inr k) = inr (subst (λ x. Has t (feeds x more)) same k)

      go : Has t (fed (ask_more a more) d) ⊎ Has t (all_fed asks cs) → Has t (fed a d ++ all_fed asks cs) ⊎ Has t (feeds c more)
      go (inl k) = first (more_to a more d k)
      go (inr k) = inl (Has_right t (fed a d) (all_fed asks cs) k)
  at_to (a ∷ asks) (d ∷ cs) (suc i) c more e h = go (Has_cases t (fed a d) (all_fed (asked_at asks i more) cs) h) (at_to asks cs i c more e)
    where
      go : Has t (fed a d) ⊎ Has t (all_fed (asked_at asks i more) cs) → (Has t (all_fed (asked_at asks i more) cs) → Has t (all_fed asks cs) ⊎ Has t (feeds c more)) → Has t (fed a d ++ all_fed asks cs) ⊎ Has t (feeds c more)
      go (inl k) rest = inl (Has_left t (fed a d) (all_fed asks cs) k)
      go (inr k) rest = later (rest k)
        where
          later : Has t (all_fed asks cs) ⊎ Has t (feeds c more) → Has t (fed a d ++ all_fed asks cs) ⊎ Has t (feeds c more)
          later (inl m) = inl (Has_right t (fed a d) (all_fed asks cs) m)
          later (inr m) = inr m

  at_kept : (asks : List Ask) (cs : List Closure) (i : ℕ) (more : List Str) → Has t (all_fed asks cs) → Has t (all_fed (asked_at asks i more) cs)
  at_kept [] cs i more h = absurd h
  at_kept (a ∷ asks) [] i more h = absurd h
  at_kept (a ∷ asks) (d ∷ cs) zero more h = go (Has_cases t (fed a d) (all_fed asks cs) h)
    where
      go : Has t (fed a d) ⊎ Has t (all_fed asks cs) → Has t (fed (ask_more a more) d ++ all_fed asks cs)
      go (inl k) = Has_left t (fed (ask_more a more) d) (all_fed asks cs) (more_kept a more d k)
      go (inr k) = Has_right t (fed (ask_more a more) d) (all_fed asks cs) k
  at_kept (a ∷ asks) (d ∷ cs) (suc i) more h = go (Has_cases t (fed a d) (all_fed asks cs) h) (at_kept asks cs i more)
    where
      go : Has t (fed a d) ⊎ Has t (all_fed asks cs) → (Has t (all_fed asks cs) → Has t (all_fed (asked_at asks i more) cs)) → Has t (fed a d ++ all_fed (asked_at asks i more) cs)
      go (inl k) rest = Has_left t (fed a d) (all_fed (asked_at asks i more) cs) k
      go (inr k) rest = Has_right t (fed a d) (all_fed (asked_at asks i more) cs) (rest k)

  at_new : (asks : List Ask) (cs : List Closure) (i : ℕ) (c : Closure) (more : List Str) → slice_get cs i ≡ Some c → i < length asks → Has t (feeds c more) → Has t (all_fed (asked_at asks i more) cs)
  at_new [] cs i c more e l h = absurd (omega arith)
  at_new (a ∷ asks) [] i c more e l h = absurd (cc)
  at_new (a ∷ asks) (d ∷ cs) zero c more e l h = let same : c ≡ d = cc in Has_left t (fed (ask_more a more) d) (all_fed asks cs) (more_new a more d (subst (λ x. Has t (feeds x more)) same h))
  at_new (a ∷ asks) (d ∷ cs) (suc i) c more e l h = Has_right t (fed a d) (all_fed (asked_at asks i more) cs) (at_new asks cs i c more e (omega arith) h)

-- a parent stands at a place that is below these
abbrev pub Stands : List Node → List Closure → ℕ → ℕ → Type 0
Stands nodes cs count i = (n : Node) × (c : Closure) × (slice_get nodes i ≡ Some n) × (slice_get cs i ≡ Some c) × (own_of c ≡ n.own) × (i < count)

-- what is fed to what is needed of the parents at some places
abbrev FromParents : List Closure → List Reading → List ℕ → Trace → Type 0
FromParents cs needed places t = (i : ℕ) × Has i places × ((c : Closure) × (slice_get cs i ≡ Some c) × Has t (feeds c (needed_of (own_of c).name needed)))

module _ (nodes : List Node) (cs : List Closure) (needed : List Reading) where
  parent_is : (asks : List Ask) (i : ℕ) (n : Node) (c : Closure) → slice_get nodes i ≡ Some n → own_of c ≡ n.own → asked_parent nodes needed asks i ≡ asked_at asks i (needed_of (own_of c).name needed)
  parent_is asks i n c e own = rw e (ap (λ (o : Own). asked_at asks i (needed_of o.name needed)) (sym own))

  parent_long : (asks : List Ask) (i : ℕ) (n : Node) (c : Closure) → slice_get nodes i ≡ Some n → own_of c ≡ n.own → length (asked_parent nodes needed asks i) ≡ length asks
  parent_long asks i n c e own = ap length (parent_is asks i n c e own) ∙ length-set asks i _

  pub parents_long : (asks : List Ask) (count : ℕ) (places : List ℕ) → ((i : ℕ) → Has i places → Stands nodes cs count i) → length (asked_parents nodes needed asks places) ≡ length asks
  parents_long asks count [] stand = refl
  parents_long asks count (i ∷ is) stand =
      let (n, c, e, f, own, l) = stand i (inl refl) in
      parents_long (asked_parent nodes needed asks i) count is (λ j h. stand j (inr h)) ∙ parent_long asks i n c e own

  module _ (t : Trace) where
    one_to : (asks : List Ask) (i : ℕ) (is : List ℕ) (c : Closure) → slice_get cs i ≡ Some c → Has t (all_fed asks cs) ⊎ Has t (feeds c (needed_of (own_of c).name needed)) → Has t (all_fed asks cs) ⊎ FromParents cs needed (i ∷ is) t
    one_to asks i is c e (inl k) = inl k
    one_to asks i is c e (inr k) = inr (i, inl refl, (c, e, k))

    first_to : (asks : List Ask) (i : ℕ) (is : List ℕ) (count : ℕ) → Stands nodes cs count i → Has t (all_fed (asked_parent nodes needed asks i) cs) → Has t (all_fed asks cs) ⊎ FromParents cs needed (i ∷ is) t
    first_to asks i is count (n, c, e, f, own, l) k =
        one_to asks i is c f (at_to t asks cs i c (needed_of (own_of c).name needed) f (subst (λ a. Has t (all_fed a cs)) (parent_is asks i n c e own) k))

    parents_to : (asks : List Ask) (places : List ℕ) (count : ℕ) → ((i : ℕ) → Has i places → Stands nodes cs count i) → Has t (all_fed (asked_parents nodes needed asks places) cs) → Has t (all_fed asks cs) ⊎ FromParents cs needed places t
    parents_to asks [] count stand h = inl h
    parents_to asks (i ∷ is) count stand h = go (parents_to (asked_parent nodes needed asks i) is count (λ j k. stand j (inr k)) h)
      where
        go : Has t (all_fed (asked_parent nodes needed asks i) cs) ⊎ FromParents cs needed is t → Has t (all_fed asks cs) ⊎ FromParents cs needed (i ∷ is) t
        go (inl k) = first_to asks i is count (stand i (inl refl)) k
        go (inr (j, k, more)) = inr (j, inr k, more)

    first_kept : (asks : List Ask) (i count : ℕ) → Stands nodes cs count i → Has t (all_fed asks cs) → Has t (all_fed (asked_parent nodes needed asks i) cs)
    first_kept asks i count (n, c, e, f, own, l) h =
        subst (λ a. Has t (all_fed a cs)) (sym (parent_is asks i n c e own)) (at_kept t asks cs i (needed_of (own_of c).name needed) h)

    parents_kept : (asks : List Ask) (places : List ℕ) (count : ℕ) → ((i : ℕ) → Has i places → Stands nodes cs count i) → Has t (all_fed asks cs) → Has t (all_fed (asked_parents nodes needed asks places) cs)
    parents_kept asks [] count stand h = h
    parents_kept asks (i ∷ is) count stand h =
        parents_kept (asked_parent nodes needed asks i) is count (λ j k. stand j (inr k)) (first_kept asks i count (stand i (inl refl)) h)

    first_new : (asks : List Ask) (i j count : ℕ) (d : Closure) → j ≡ i → Stands nodes cs count j → count ≡ length asks → slice_get cs i ≡ Some d → Has t (feeds d (needed_of (own_of d).name needed)) → Has t (all_fed (asked_parent nodes needed asks j) cs)
    first_new asks i j count d same (n, c, e, f, own, l) long at h =
        let is : d ≡ c = (let both : Some d ≡ Some c = sym at ∙ ap (slice_get cs) (sym same) ∙ f in cc) in
        subst (λ a. Has t (all_fed a cs)) (sym (parent_is asks j n c e own))
        (at_new t asks cs j c (needed_of (own_of c).name needed) f (omega (arith, l, long)) (subst (λ x. Has t (feeds x (needed_of (own_of x).name needed))) is h))

    parents_new : (asks : List Ask) (places : List ℕ) (count : ℕ) → count ≡ length asks → ((i : ℕ) → Has i places → Stands nodes cs count i) → FromParents cs needed places t → Has t (all_fed (asked_parents nodes needed asks places) cs)
    parents_new asks [] count long stand (i, h, more) = absurd h
    parents_new asks (j ∷ js) count long stand (i, inl e, (d, at, h)) =
        parents_kept (asked_parent nodes needed asks j) js count (λ m k. stand m (inr k)) (first_new asks i j count d e (stand j (inl refl)) long at h)
    parents_new asks (j ∷ js) count long stand (i, inr k, more) =
        parents_new (asked_parent nodes needed asks j) js count (long ∙ sym (long_at (stand j (inl refl)))) (λ m l. stand m (inr l)) (i, k, more)
      where
        long_at : Stands nodes cs count j → length (asked_parent nodes needed asks j) ≡ length asks
        long_at (n, c, e, f, own, l) = parent_long asks j n c e own

-- the closures of the parents
pub of_from : (cs : Closures) (needed : List Reading) (t : Trace) → Has t (feeds_of cs needed) → (c : Closure) × Has c (each_of cs) × Has t (feeds c (needed_of (own_of c).name needed))
of_from Alone needed t h = absurd h
of_from (With c cs) needed t h = go (Has_cases t (feeds c (needed_of (own_of c).name needed)) (feeds_of cs needed) h) (of_from cs needed t)
  where
    go : Has t (feeds c (needed_of (own_of c).name needed)) ⊎ Has t (feeds_of cs needed) → (Has t (feeds_of cs needed) → (d : Closure) × Has d (each_of cs) × Has t (feeds d (needed_of (own_of d).name needed)))
        → (d : Closure) × Has d (c ∷ each_of cs) × Has t (feeds d (needed_of (own_of d).name needed))
    go (inl k) rest = (c, inl refl, k)
    go (inr k) rest = let (d, i, l) = rest k in (d, inr i, l)

pub of_to : (cs : Closures) (needed : List Reading) (t : Trace) (c : Closure) → Has c (each_of cs) → Has t (feeds c (needed_of (own_of c).name needed)) → Has t (feeds_of cs needed)
of_to Alone needed t c h k = absurd h
of_to (With d cs) needed t c (inl e) k =
    Has_left t (feeds d (needed_of (own_of d).name needed)) (feeds_of cs needed) (subst (λ x. Has t (feeds x (needed_of (own_of x).name needed))) (sym e) k)
of_to (With d cs) needed t c (inr h) k = Has_right t (feeds d (needed_of (own_of d).name needed)) (feeds_of cs needed) (of_to cs needed t c h k)

-- a node, with those before and behind it
pub apart : {X : Type 0} (xs : List X) (k : ℕ) (x : X) → slice_get xs k ≡ Some x → (before : List X) × (after : List X) × (before ++ x ∷ after ≡ xs) × (length before ≡ k)
apart [] k x e = absurd (cc)
apart (y ∷ ys) zero x e = ([], ys, (let same : x ≡ y = cc in ap (λ z. z ∷ ys) same), refl)
apart (y ∷ ys) (suc k) x e = let (before, after, whole, long) = apart ys k x e in (y ∷ before, after, ap (λ l. y ∷ l) whole, ap suc long)

in_front : {X : Type 0} (before rest : List X) (i : ℕ) (x : X) → slice_get before i ≡ Some x → slice_get (before ++ rest) i ≡ Some x
in_front [] rest i x e = absurd (cc)
in_front (y ∷ ys) rest zero x e = e
in_front (y ∷ ys) rest (suc i) x e = in_front ys rest i x e

made_at : (ns : List Node) (cs : List Closure) → map own_of cs ≡ map (λ (n : Node). n.own) ns → (k : ℕ) (n : Node) → slice_get ns k ≡ Some n → (c : Closure) × (slice_get cs k ≡ Some c) × (own_of c ≡ n.own)
made_at [] cs owns k n e = absurd (cc)
made_at (m ∷ ns) [] owns k n e = absurd (cc)
made_at (m ∷ ns) (d ∷ cs) owns zero n e =
    let own : own_of d ≡ m.own = cc in
    let same : m ≡ n = cc in
    (d, refl, own ∙ ap (λ (x : Node). x.own) same)
made_at (m ∷ ns) (d ∷ cs) owns (suc k) n e = let rest : map own_of cs ≡ map (λ (n : Node). n.own) ns = cc in made_at ns cs rest k n e

-- the closure of the node at a place
pub closure_at : (nodes : List Node) (k : ℕ) (n : Node) → slice_get nodes k ≡ Some n → (c : Closure) × (slice_get (closures nodes) k ≡ Some c) × (own_of c ≡ n.own)
closure_at nodes k n e = made_at nodes (closures nodes) (one_each nodes) k n e

-- each parent stands at a place before
pub stands_at : (nodes : List Node) → is_proper nodes ≡ true → (k : ℕ) (n : Node) → slice_get nodes k ≡ Some n → (i : ℕ) → Has i n.parents → Stands nodes (closures nodes) k i
stands_at nodes proper k n here i h =
    let (before, after, whole, long) = apart nodes k n here in
    let (m, e, lower) = before_it nodes proper before after n whole i h in
    let there : slice_get nodes i ≡ Some m = subst (λ l. slice_get l i ≡ Some m) whole (in_front before (n ∷ after) i m e) in
    let (c, at, own) = closure_at nodes i m there in
    (m, c, there, at, own, subst (λ k. i < k) long (slice_get_within before i m e))

module _ (nodes : List Node) (proper : is_proper nodes ≡ true) (asks : List Ask) (n : Node) (here : slice_get nodes (length asks) ≡ Some n) (wanted : List Str) where
  abbrev needed : List Reading
  needed = needs n.own wanted

  abbrev mine : List Trace
  mine = own_feeds n.own needed

  abbrev cs : List Closure
  cs = closures nodes

  abbrev asked : List Ask
  asked = asked_parents nodes needed asks n.parents

  parents_stand : (i : ℕ) → Has i n.parents → Stands nodes cs (length asks) i
  parents_stand i h = stands_at nodes proper (length asks) n here i h

  pub visited_long : length asked ≡ length asks
  visited_long = parents_long nodes cs needed asks (length asks) n.parents parents_stand

  module _ (parents : Closures) (at : slice_get cs (length asks) ≡ Some (Model n.own parents)) (each : each_of parents ≡ flat_map (λ i. option_to_list (slice_get cs i)) n.parents) (found : List Trace) (t : Trace) where
    abbrev above : List Trace
    above = feeds_of parents needed

    of_parents : FromParents cs needed n.parents t → Has t above
    of_parents (i, h, (c, e, k)) =
        of_to parents needed t c (subst (Has c) (sym each) (Has_flat (λ i. option_to_list (slice_get cs i)) n.parents i c h (Has_some (slice_get cs i) c e))) k

    from_parents : Has t above → FromParents cs needed n.parents t
    from_parents h =
        let (c, there, k) = of_from parents needed t h in
        let (i, j, l) = Has_flat_from (λ i. option_to_list (slice_get cs i)) n.parents c (subst (Has c) each there) in
        (i, j, (c, Has_some_from (slice_get cs i) c l, k))

    abbrev Before : Type 0
    Before = Has t (found ++ (all_fed asks cs ++ (mine ++ above)))

    abbrev After : Type 0
    After = Has t ((found ++ mine) ++ all_fed asked cs)

    behind : Has t (all_fed asks cs ++ (mine ++ above)) → Before
    behind h = Has_right t found (all_fed asks cs ++ (mine ++ above)) h

    back_to : Has t (all_fed asks cs) ⊎ FromParents cs needed n.parents t → Before
    back_to (inl k) = behind (Has_left t (all_fed asks cs) (mine ++ above) k)
    back_to (inr k) = behind (Has_right t (all_fed asks cs) (mine ++ above) (Has_right t mine above (of_parents k)))

    first_to_before : Has t found ⊎ Has t mine → Before
    first_to_before (inl k) = Has_left t found (all_fed asks cs ++ (mine ++ above)) k
    first_to_before (inr k) = behind (Has_right t (all_fed asks cs) (mine ++ above) (Has_left t mine above k))

    to_before : Has t (found ++ mine) ⊎ Has t (all_fed asked cs) → Before
    to_before (inl k) = first_to_before (Has_cases t found mine k)
    to_before (inr k) = back_to (parents_to nodes cs needed t asks n.parents (length asks) parents_stand k)

    mine_to_after : Has t mine ⊎ Has t above → After
    mine_to_after (inl k) = Has_left t (found ++ mine) (all_fed asked cs) (Has_right t found mine k)
    mine_to_after (inr k) = Has_right t (found ++ mine) (all_fed asked cs) (parents_new nodes cs needed t asks n.parents (length asks) refl parents_stand (from_parents k))

    rest_to_after : Has t (all_fed asks cs) ⊎ Has t (mine ++ above) → After
    rest_to_after (inl k) = Has_right t (found ++ mine) (all_fed asked cs) (parents_kept nodes cs needed t asks n.parents (length asks) parents_stand k)
    rest_to_after (inr k) = mine_to_after (Has_cases t mine above k)

    to_after : Has t found ⊎ Has t (all_fed asks cs ++ (mine ++ above)) → After
    to_after (inl k) = Has_left t (found ++ mine) (all_fed asked cs) (Has_left t found mine k)
    to_after (inr k) = rest_to_after (Has_cases t (all_fed asks cs) (mine ++ above) k)

  visited_over : (parents : Closures) → slice_get cs (length asks) ≡ Some (Model n.own parents) → each_of parents ≡ flat_map (λ i. option_to_list (slice_get cs i)) n.parents
      → (found : List Trace) → IsAlike ((found ++ mine) ++ all_fed asked cs) (found ++ all_fed (asks ++ Some wanted ∷ []) cs)
  visited_over parents at each found =
      let whole : List Trace = found ++ (all_fed asks cs ++ (mine ++ feeds_of parents needed)) in
      let all : IsAlike ((found ++ mine) ++ all_fed asked cs) whole =
      (λ t. (
        λ h. Has_to whole t (to_before parents at each found t (Has_cases t (found ++ mine) (all_fed asked cs) (Has_from ((found ++ mine) ++ all_fed asked cs) t h))),
        λ h. Has_to ((found ++ mine) ++ all_fed asked cs) t (to_after parents at each found t (Has_cases t found (all_fed asks cs ++ (mine ++ feeds_of parents needed)) (Has_from whole t h))),
      )) in
      subst (λ l. IsAlike ((found ++ mine) ++ all_fed asked cs) (found ++ l)) (sym (all_more asks (Some wanted) cs (Model n.own parents) at)) all

  pub visited : (found : List Trace) → IsAlike ((found ++ mine) ++ all_fed asked cs) (found ++ all_fed (asks ++ Some wanted ∷ []) cs)
  visited found =
      let (before, after, whole, long) = apart nodes (length asks) n here in
      let (parents, there, each) = closures_there nodes proper before after n whole in
      visited_over parents (subst (λ k. slice_get cs k ≡ Some (Model n.own parents)) long there) each found

-- a model of which nothing is asked
pub none_more : (asks : List Ask) (cs : List Closure) → all_fed (asks ++ None ∷ []) cs ≡ all_fed asks cs
none_more [] [] = refl
none_more [] (d ∷ ds) = refl
none_more (b ∷ asks) [] = refl
none_more (b ∷ asks) (d ∷ ds) = ap (λ l. fed b d ++ l) (none_more asks ds)

module _ (nodes : List Node) (proper : is_proper nodes ≡ true) (asks next : List Ask) (k : ℕ) (n : Node) (long : k ≡ length asks) (inside : length asks < length nodes) (is : n ≡ get_or nodes k n) (wanted : List Str)
    (asked_is : next ≡ asked_parents nodes (needs n.own wanted) asks n.parents) where
  node_here : slice_get nodes (length asks) ≡ Some n
  node_here = slice_get_read nodes (length nodes) (length asks) n refl inside (is ∙ ap (λ j. get_or nodes j n) long)

  pub visit_long : length next ≡ length asks
  visit_long = ap length asked_is ∙ visited_long nodes proper asks n node_here wanted

  pub visit_fed : (ask : Ask) → ask ≡ Some wanted → (found made : List Trace) → made ≡ found ++ own_feeds n.own (needs n.own wanted) → IsAlike (made ++ all_fed next (closures nodes)) (found ++ all_fed (asks ++ ask ∷ []) (closures nodes))
  visit_fed ask e found made whole =
      subst (λ m. IsAlike (m ++ all_fed next (closures nodes)) (found ++ all_fed (asks ++ ask ∷ []) (closures nodes))) (sym whole)
      (subst (λ l. IsAlike ((found ++ own_feeds n.own (needs n.own wanted)) ++ all_fed l (closures nodes)) (found ++ all_fed (asks ++ ask ∷ []) (closures nodes))) (sym asked_is)
      (subst (λ (a : Ask). IsAlike ((found ++ own_feeds n.own (needs n.own wanted)) ++ all_fed (asked_parents nodes (needs n.own wanted) asks n.parents) (closures nodes)) (found ++ all_fed (asks ++ a ∷ []) (closures nodes))) (sym e)
      (visited nodes proper asks n node_here wanted found)))

-- nothing is left to visit
pub all_visited : (rest : List Ask) (ds : List Closure) (found whole : List Trace) → length rest ≡ 0 → IsAlike (found ++ all_fed rest ds) whole → IsAlike found whole
all_visited [] ds found whole e a = subst (λ l. IsAlike l whole) (append-nil found) a
all_visited (b ∷ rest) ds found whole e a = absurd (omega (arith, e))

-- one column of the last is asked, and nothing of those before
pub one_fed : (asks all : List Ask) (place : ℕ) (columns : List Str) (column : Str) (ds : List Closure) (d : Closure) → all ≡ asks ++ Some columns ∷ [] → length asks ≡ place → ((es : List Closure) → all_fed asks es ≡ []) → columns ≡ column ∷ []
    → slice_get ds place ≡ Some d → all_fed all ds ≡ feeds d (column ∷ [])
one_fed asks all place columns column ds d pushed long none one at =
    ap (λ l. all_fed l ds) pushed
    ∙ all_more asks (Some columns) ds d (subst (λ k. slice_get ds k ≡ Some d) (sym long) at)
    ∙ ap (λ l. l ++ feeds d columns) (none ds)
    ∙ ap (feeds d) one
