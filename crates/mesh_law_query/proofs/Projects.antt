-- The models of a proper project are well formed with their parents' closures.
use Rattle.std.proofs.Common.{◌≡◌, ℕ, zero, suc, ◌+◌, ◌<◌, ◌≤◌, max, nat_lt, nat_eq, nat_le, ◌&&◌, Bool, true, false, ◌⊎◌, inl, inr, List, [], ◌∷◌, ◌++◌, map, length, refl, ap, sym, ◌∙◌, subst, append_assoc, arith, IsTrue}
use Rattle.std.specs.List.{All, flat_map, fold, list_all, slice_get}
use Rattle.std.specs.Option.{is_some, option_map, option_to_list}
use Rattle.std.specs.Ordering.{is_lt, nat_cmp, ordering_then}
use Rattle.std.specs.Cmp.{nat_cmp_is}
use Rattle.std.specs.declared.cmp.Ordering.TheVariants.{Greater}
use Rattle.std.specs.declared.option.Option.{Option}
use Rattle.std.specs.declared.option.Option.TheVariants.{None, Some}
use Rattle.std.proofs.lemmas.Bool.{and_parts, eqb-true, lt-ltb, ltb-true, ltb-false}
use Rattle.std.proofs.lemmas.List.{map-append}
use Rattle.std.proofs.lemmas.List.Elements.{All-nil, All-cons, All-append, All-head, All-push, All-weaker}
use Rattle.std.proofs.lemmas.Option.{slice_get_within, get_or_from_slice_get}
use Rattle.mesh_list.specs.Keyed.{ascends, below_first}
use Rattle.mesh_base_values.specs.Crons.{is_cron}
use Rattle.mesh_base_values.specs.Names.{name_cmp}
use Rattle.mesh_base_values.specs.declared.times.Bounds.{Bounds}
use Rattle.mesh_base.specs.Outputs.{columns_of}
use Rattle.mesh_base.specs.declared.definitions.Own.{Own}
use Rattle.mesh_base.specs.declared.jobs.Input.{Input}
use Rattle.mesh_base.specs.declared.snapshots.Node.{Node}
use Rattle.mesh_base.specs.declared.rules.relations.Parent.{Parent}
use Rattle.mesh_base.specs.rules.Relations.{parent_relation, rank_over}
use Rattle.mesh_base.specs.rules.Proper.{are_fit, are_places, as_parent, have_distinct_names, is_body_of, is_fit, is_plain_schema, is_proper, is_well_formed, node_cmp, node_itself, parent_at, stands_on}
use Rattle.mesh_base.specs.rules.Proper as proper
use Rattle.mesh_spec_model.specs.Closures.{Closure, Closures, Model, ancestors, closures, each_of, own_of, parents_at, parents_of, standing, with_model, with_parent}
use Rattle.mesh_spec_model.proofs.Listed.{at_their_places}
use Rattle.mesh_spec_model.specs.Horizons.{Clock, HasCrons}
use Rattle.mesh_spec_model.specs.Scratch.{inputs_of}
use Rattle.mesh_law_query.specs.Found.{model_relation, DefnFindsAll}
use Rattle.mesh_law_query.proofs.Finding.{closures_find, get_map, one_passes}
use Rattle.mesh_law_query.proofs.Has.{Has, Has_flat, Has_right}

-- what holds of each element of a list
of_each : {X : Type 0} (P : X → Type 0) (xs : List X) → ((x : X) → Has x xs → P x) → All P xs
of_each P [] f = All-nil P
of_each P (x ∷ xs) f = All-cons P x xs (f x (inl refl)) (of_each P xs (λ y h. f y (inr h)))

-- ranks
from_itself : (rank : ℕ) (ps : List Parent) → rank ≤ rank_over rank ps
from_itself rank [] = omega arith
from_itself rank (p ∷ ps) = let more = from_itself (max rank (p.rank + 1)) ps in omega (arith, more)

pub above_each : (rank : ℕ) (ps : List Parent) (p : Parent) → Has p ps → p.rank < rank_over rank ps
above_each rank [] p h = absurd h
above_each rank (q ∷ ps) p (inl e) = let more = from_itself (max rank (q.rank + 1)) ps in let same : q.rank ≡ p.rank = ap (λ (x : Parent). x.rank) e in omega (arith, more, same)
above_each rank (q ∷ ps) p (inr h) = above_each (max rank (q.rank + 1)) ps p h

rank_le : (a b : Node) → is_lt (node_cmp a b) ≡ true → a.rank ≤ b.rank
rank_le a b h = go (nat_lt b.rank a.rank) refl
  where
    go : (c : Bool) → nat_lt b.rank a.rank ≡ c → a.rank ≤ b.rank
    go false e = ltb-false b.rank a.rank e
    go true e =
        let greater : Greater ≡ nat_cmp a.rank b.rank = nat_cmp_is a.rank b.rank Greater (ltb-true b.rank a.rank e) in
        let f : false ≡ true = ap (λ o. is_lt (ordering_then o (name_cmp a.own.name b.own.name))) greater ∙ h in absurd (cc)

at_or_after : (n : Node) (after : List Node) → ascends node_cmp node_itself (n ∷ after) ≡ true → (j : ℕ) (m : Node) → slice_get (n ∷ after) j ≡ Some m → n.rank ≤ m.rank
at_or_after n after up zero m e = let same : n ≡ m = cc in let ranks : n.rank ≡ m.rank = ap (λ (x : Node). x.rank) same in omega (arith, ranks)
at_or_after n [] up (suc j) m e = absurd (cc)
at_or_after n (x ∷ after) up (suc j) m e =
    let b = and_parts (below_first node_cmp node_itself n (x ∷ after)) (ascends node_cmp node_itself (x ∷ after)) up in
    let first = rank_le n x b.0 in
    let rest = at_or_after x after b.1 j m e in
    omega (arith, first, rest)

ascends_on : (before rest : List Node) → ascends node_cmp node_itself (before ++ rest) ≡ true → ascends node_cmp node_itself rest ≡ true
ascends_on [] rest h = h
ascends_on (b ∷ before) rest h = ascends_on before rest (and_parts (below_first node_cmp node_itself b (before ++ rest)) (ascends node_cmp node_itself (before ++ rest)) h).1

-- a place is before a seam or behind it
seam : (before rest : List Node) (i : ℕ) (m : Node) → slice_get (before ++ rest) i ≡ Some m → (slice_get before i ≡ Some m) ⊎ ((j : ℕ) × (slice_get rest j ≡ Some m))
seam [] rest i m e = inr (i, e)
seam (b ∷ before) rest zero m e = inl e
seam (b ∷ before) rest (suc i) m e = seam before rest i m e

-- a closure whose definition is well formed with its parents
abbrev pub IsWell : Closure → Type 0
IsWell c = (parents : List Parent) × (is_well_formed parents (own_of c) ≡ true) × (map model_relation (each_of (parents_of c)) ≡ map parent_relation parents)

abbrev pub IsGood : Closure → Type 0
IsGood c = All IsWell (standing c)

module _ (done : List Closure) (good : All IsGood done) where
  good_at : (i : ℕ) (c : Closure) → slice_get done i ≡ Some c → IsGood c
  good_at i c e = subst IsGood (get_or_from_slice_get done i c c e) (good i c (slice_get_within done i c e))

  good_parents : (places : List ℕ) → All IsWell (ancestors (parents_at done places))
  good_parents [] = All-nil IsWell
  good_parents (i ∷ is) = go (slice_get done i) refl (good_parents is)
    where
      go : (o : Option Closure) → slice_get done i ≡ o → All IsWell (ancestors (parents_at done is)) → All IsWell (ancestors (with_parent o (parents_at done is)))
      go None e h = h
      go (Some c) e h = All-append IsWell (standing c) (ancestors (parents_at done is)) (good_at i c e) h

-- a node whose closure is there
abbrev IsMade : List Node → List Closure → ℕ → Type 0
IsMade nodes done i = (m : Node) × (slice_get nodes i ≡ Some m) × ((c : Closure) × (slice_get done i ≡ Some c) × (own_of c ≡ m.own))

as_relations : (nodes : List Node) (done : List Closure) (places : List ℕ) → ((i : ℕ) → Has i places → IsMade nodes done i)
    → map model_relation (each_of (parents_at done places)) ≡ map parent_relation (proper.parents_at nodes places)
as_relations nodes done [] h = refl
as_relations nodes done (i ∷ is) h = go (h i (inl refl)) (as_relations nodes done is (λ j k. h j (inr k)))
  where
    go : IsMade nodes done i → map model_relation (each_of (parents_at done is)) ≡ map parent_relation (proper.parents_at nodes is)
        → map model_relation (each_of (with_parent (slice_get done i) (parents_at done is))) ≡ map parent_relation (parent_at (slice_get nodes i) ++ proper.parents_at nodes is)
    go (m, e, (c, f, o)) rest =
        ap (λ x. map model_relation (each_of (with_parent x (parents_at done is)))) f
        ∙ (λ j. record { name = (o j).name; columns = columns_of (o j) } ∷ rest j)
        ∙ ap (λ x. map parent_relation (parent_at x ++ proper.parents_at nodes is)) (sym e)

-- a node of a lower rank stands at this place among these
abbrev pub IsBefore : List Node → Node → ℕ → Type 0
IsBefore before n i = (m : Node) × (slice_get before i ≡ Some m) × (m.rank < n.rank)

module _ (nodes : List Node) (up : ascends node_cmp node_itself nodes ≡ true) (fit : are_fit nodes nodes ≡ true) where
  abbrev node_own : Node → Own
  node_own n = n.own

  there : (o : Option Node) → is_some o ≡ true → (m : Node) × (o ≡ Some m)
  there None h = absurd (cc)
  there (Some m) h = (m, refl)

  closure_there : (done : List Closure) (i : ℕ) (own : Own) → option_map own_of (slice_get done i) ≡ Some own → (c : Closure) × (slice_get done i ≡ Some c) × (own_of c ≡ own)
  closure_there done i own h = go (slice_get done i) refl h
    where
      go : (o : Option Closure) → slice_get done i ≡ o → option_map own_of o ≡ Some own → (c : Closure) × (slice_get done i ≡ Some c) × (own_of c ≡ own)
      go None e h = absurd (cc)
      go (Some c) e h = (c, e, (let same : own_of c ≡ own = cc in same))

  module _ (before after : List Node) (n : Node) (all : before ++ n ∷ after ≡ nodes) where
    its_rules : is_fit nodes n ≡ true
    its_rules = one_passes (is_fit nodes) nodes n fit (subst (Has n) all (Has_right n before (n ∷ after) (inl refl)))

    places : are_places nodes n.parents ≡ true
    places = (and_parts (are_places nodes n.parents) (stands_on (proper.parents_at nodes n.parents) n.rank n.own) its_rules).0

    stands : stands_on (proper.parents_at nodes n.parents) n.rank n.own ≡ true
    stands = (and_parts (are_places nodes n.parents) (stands_on (proper.parents_at nodes n.parents) n.rank n.own) its_rules).1

    its_rank : n.rank ≡ rank_over 0 (proper.parents_at nodes n.parents)
    its_rank = eqb-true n.rank (rank_over 0 (proper.parents_at nodes n.parents)) (and_parts (nat_eq n.rank (rank_over 0 (proper.parents_at nodes n.parents))) (is_well_formed (proper.parents_at nodes n.parents) n.own) stands).0

    well : is_well_formed (proper.parents_at nodes n.parents) n.own ≡ true
    well = (and_parts (nat_eq n.rank (rank_over 0 (proper.parents_at nodes n.parents))) (is_well_formed (proper.parents_at nodes n.parents) n.own) stands).1

    lower : (i : ℕ) (m : Node) → Has i n.parents → slice_get nodes i ≡ Some m → m.rank < n.rank
    lower i m h e =
        let among : Has (as_parent m) (proper.parents_at nodes n.parents) =
        Has_flat (λ i. parent_at (slice_get nodes i)) n.parents i (as_parent m) h (subst (λ o. Has (as_parent m) (parent_at o)) (sym e) (inl refl)) in
        let above = above_each 0 (proper.parents_at nodes n.parents) (as_parent m) among in
        omega (arith, above, its_rank)

    earlier : (i : ℕ) (m : Node) → Has i n.parents → slice_get nodes i ≡ Some m → slice_get before i ≡ Some m
    earlier i m h e = go (seam before (n ∷ after) i m (ap (λ l. slice_get l i) all ∙ e))
      where
        go : (slice_get before i ≡ Some m) ⊎ ((j : ℕ) × (slice_get (n ∷ after) j ≡ Some m)) → slice_get before i ≡ Some m
        go (inl f) = f
        go (inr (j, f)) =
            let up' : ascends node_cmp node_itself (n ∷ after) ≡ true = ascends_on before (n ∷ after) (ap (ascends node_cmp node_itself) all ∙ up) in
            let high = at_or_after n after up' j m f in
            let low = lower i m h e in
            absurd (omega (arith, high, low))

    node_at : (i : ℕ) → Has i n.parents → (m : Node) × (slice_get nodes i ≡ Some m)
    node_at i h = there (slice_get nodes i) (one_passes (λ i. is_some (slice_get nodes i)) n.parents i places h)

    stands_before : (i : ℕ) → Has i n.parents → IsBefore before n i
    stands_before i h = let (m, e) = node_at i h in (m, earlier i m h e, lower i m h e)

    module _ (done : List Closure) (made : map own_of done ≡ map node_own before) where
      is_made : (i : ℕ) → Has i n.parents → IsMade nodes done i
      is_made i h =
          let (m, e) = node_at i h in
          let own : option_map own_of (slice_get done i) ≡ Some m.own =
          sym (get_map own_of done i) ∙ ap (λ l. slice_get l i) made ∙ get_map node_own before i ∙ ap (option_map node_own) (earlier i m h e) in
          (m, e, closure_there done i m.own own)

      new_is_well : IsWell (Model n.own (parents_at done n.parents))
      new_is_well = (proper.parents_at nodes n.parents, well, as_relations nodes done n.parents is_made)

  good_after : (done : List Closure) (before rest : List Node) → before ++ rest ≡ nodes → map own_of done ≡ map node_own before → All IsGood done → All IsGood (fold with_model done rest)
  good_after done before [] all made good = good
  good_after done before (n ∷ after) all made good =
      let new : Closure = Model n.own (parents_at done n.parents) in
      good_after (done ++ new ∷ []) (before ++ n ∷ []) after (append_assoc before (n ∷ []) after ∙ all)
      (map-append own_of done (new ∷ []) ∙ ap (λ l. l ++ n.own ∷ []) made ∙ sym (map-append node_own before (n ∷ [])))
      (All-push IsGood done new good (All-cons IsWell new (ancestors (parents_at done n.parents)) (new_is_well before after n all done made) (good_parents done good n.parents)))

-- the parents of each node stand before it
module _ (nodes : List Node) (h : is_proper nodes ≡ true) (before after : List Node) (n : Node) (all : before ++ n ∷ after ≡ nodes) where
  pub before_it : (i : ℕ) → Has i n.parents → IsBefore before n i
  before_it =
      let a = and_parts (nat_le (length nodes) 4096) _ h in
      let b = and_parts (ascends node_cmp node_itself nodes) _ a.1 in
      let c = and_parts (have_distinct_names nodes) (are_fit nodes nodes) b.1 in
      stands_before nodes b.0 c.1 before after n all

  pub stand_before : All (IsBefore before n) n.parents
  stand_before = of_each (IsBefore before n) n.parents before_it

  are_before : list_all (λ i. nat_lt i (length before)) n.parents ≡ true
  are_before = all_pass n.parents before_it
    where
      all_pass : (is : List ℕ) → ((i : ℕ) → Has i is → IsBefore before n i) → list_all (λ i. nat_lt i (length before)) is ≡ true
      all_pass [] f = refl
      all_pass (i ∷ is) f =
          let (m, e, l) = f i (inl refl) in
          let first : nat_lt i (length before) ≡ true = lt-ltb i (length before) (slice_get_within before i m e) in
          (λ k. first k && all_pass is (λ j g. f j (inr g)) k)

  pub closures_there : (parents : Closures) × (slice_get (closures nodes) (length before) ≡ Some (Model n.own parents)) × (each_of parents ≡ flat_map (λ i. option_to_list (slice_get (closures nodes) i)) n.parents)
  closures_there =
      subst (λ ns. (parents : Closures) × (slice_get (closures ns) (length before) ≡ Some (Model n.own parents)) × (each_of parents ≡ flat_map (λ i. option_to_list (slice_get (closures ns) i)) n.parents))
      all (at_their_places before after n are_before)

all_good : (nodes : List Node) → is_proper nodes ≡ true → All IsGood (closures nodes)
all_good nodes h =
    let a = and_parts (nat_le (length nodes) 4096) _ h in
    let b = and_parts (ascends node_cmp node_itself nodes) _ a.1 in
    let c = and_parts (have_distinct_names nodes) (are_fit nodes nodes) b.1 in
    good_after nodes b.0 c.1 [] [] nodes refl refl (All-nil IsGood)

cron_of : (parents : List Parent) (own : Own) → is_well_formed parents own ≡ true → is_cron own.cron ≡ true
cron_of parents own h =
    let a = and_parts (is_plain_schema own.name.schema) _ h in
    let b = and_parts (is_body_of own.kind own.defn) _ a.1 in
    (and_parts (is_cron own.cron) _ b.1).0

-- so each of them has a cron that reading can give, and so have its ancestors
pub have_crons : (nodes : List Node) → is_proper nodes ≡ true → All HasCrons (closures nodes)
have_crons nodes h =
    All-weaker IsGood HasCrons (λ c g. All-weaker IsWell (λ s. IsTrue (is_cron (own_of s).cron)) (λ s w. cron_of w.0 (own_of s) w.1) (standing c) g) (closures nodes) (all_good nodes h)

-- and each finds all that it names
well_finds : (c : Closure) → IsWell c → (sources : List Input) (clock : Clock) (u : Bounds) → DefnFindsAll (own_of c).defn (inputs_of sources clock c) u
well_finds (Model own cs) (parents, w, e) sources clock u = closures_find parents own cs w e sources clock u

itself : (c : Closure) → IsGood c → IsWell c
itself (Model own cs) g = All-head IsWell (Model own cs) (ancestors cs) g

pub find_all : (nodes : List Node) → is_proper nodes ≡ true → (sources : List Input) (clock : Clock) (u : Bounds) → All (λ c. DefnFindsAll (own_of c).defn (inputs_of sources clock c) u) (closures nodes)
find_all nodes h sources clock u =
    All-weaker IsGood (λ c. DefnFindsAll (own_of c).defn (inputs_of sources clock c) u) (λ c g. well_finds c (itself c g) sources clock u) (closures nodes) (all_good nodes h)
