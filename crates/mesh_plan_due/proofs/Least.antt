-- The least of some seconds, one at a time, and horizons, one node at a time.
use Rattle.std.proofs.Common.{◌≡◌, ℕ, ℤ, ◌+◌, ◌<◌, Bool, true, false, cond, List, [], ◌∷◌, ◌++◌, map, length, take, get_or, refl, sym, ap, ◌∙◌, arith, append-nil}
use Rattle.std.specs.Int.{int_min}
use Rattle.std.specs.List.{slice_get}
use Rattle.std.specs.Option.{option_to_list}
use Rattle.std.specs.declared.option.Option.{Option}
use Rattle.std.specs.declared.option.Option.TheVariants.{None, Some}
use Rattle.std.proofs.lemmas.Int.{ints}
use Rattle.std.proofs.lemmas.List.{take_more}
use Rattle.std.proofs.lemmas.Grind.{flat_map-append}
use Rattle.mesh_base_values.specs.Kinds.{is_incremental}
use Rattle.mesh_base.specs.declared.definitions.Own.{Own}
use Rattle.mesh_base.specs.declared.snapshots.Node.{Node}
use Rattle.mesh_spec_model.specs.Closures.{Closure, Closures, Alone, With, closures, each_of, parents_at}
use Rattle.mesh_spec_model.specs.Horizons.{Clock, horizon, horizon_under, horizons_from, horizons_of, last_tick, least_of, with_horizon}
use Rattle.mesh_plan_due.specs.Least.{bounded, horizon_over, least, least_at, least_over, lesser, timed, timed_over}
use Rattle.mesh_plan_due.proofs.Nodes.{closure_of, known_at, known_more, known_parents}

min_assoc : (x y z : ℤ) → int_min (int_min x y) z ≡ int_min x (int_min y z)
min_assoc x y z = grind (arith, ints)

min_again : (x y : ℤ) → int_min (int_min x y) y ≡ int_min x y
min_again x y = grind (arith, ints)

lesser_assoc : (a b c : Option ℤ) → lesser (lesser a b) c ≡ lesser a (lesser b c)
lesser_assoc None b c = refl
lesser_assoc (Some x) None c = refl
lesser_assoc (Some x) (Some y) None = refl
lesser_assoc (Some x) (Some y) (Some z) = ap Some (min_assoc x y z)

over_append : (xs ys : List (Option ℤ)) → least_over (xs ++ ys) ≡ lesser (least_over xs) (least_over ys)
over_append [] ys = refl
over_append (x ∷ xs) ys = ap (lesser x) (over_append xs ys) ∙ sym (lesser_assoc x (least_over xs) (least_over ys))

least_append : (xs ys : List ℤ) → least (xs ++ ys) ≡ lesser (least xs) (least ys)
least_append [] ys = refl
least_append (x ∷ xs) ys = ap (lesser (Some x)) (least_append xs ys) ∙ sym (lesser_assoc (Some x) (least xs) (least ys))

pub one_more_place : (all : List (Option ℤ)) (places : List ℕ) (i d : ℕ) → i < length places
    → least_at all (take (i + 1) places) ≡ lesser (least_at all (take i places)) (least_over (option_to_list (slice_get all (get_or places i d))))
one_more_place all places i d inside =
    ap (least_at all) (take_more places i d inside)
    ∙ ap least_over (flat_map-append (λ j. option_to_list (slice_get all j)) (take i places) (get_or places i d ∷ []) ∙ ap (λ l. known_at all (take i places) ++ l) (append-nil (option_to_list (slice_get all (get_or places i d)))))
    ∙ over_append (known_at all (take i places)) (option_to_list (slice_get all (get_or places i d)))

least_of_is : (t : ℤ) (ts : List ℤ) → least_of t ts ≡ bounded t (least ts)
least_of_is t [] = refl
least_of_is t (x ∷ xs) = least_of_is (int_min t x) xs ∙ go (least xs)
  where
    go : (o : Option ℤ) → bounded (int_min t x) o ≡ bounded t (lesser (Some x) o)
    go None = refl
    go (Some y) = min_assoc t x y

lesser_bounded : (t : ℤ) (o : Option ℤ) → lesser (Some (bounded t o)) o ≡ Some (bounded t o)
lesser_bounded t None = refl
lesser_bounded t (Some y) = ap Some (min_again t y)

module _ (clock : Clock) where
  parents_timed : (cs : Closures) → least (horizons_of clock cs) ≡ least_over (map (timed clock) (each_of cs))
  parents_timed Alone = refl
  parents_timed (With c cs) = least_append (horizons_from clock c) (horizons_of clock cs) ∙ ap (lesser (timed clock c)) (parents_timed cs)

  under_is : (own : Own) (hs : List ℤ) → horizon_under clock own hs ≡ horizon_over (is_incremental own.kind) (last_tick clock own) (least hs)
  under_is own hs = ap (λ h. cond (is_incremental own.kind) h (last_tick clock own)) (least_of_is (last_tick clock own) hs)

  with_is : (own : Own) (hs : List ℤ) → least (with_horizon clock own hs) ≡ timed_over (is_incremental own.kind) (horizon_over (is_incremental own.kind) (last_tick clock own) (least hs)) (least hs)
  with_is own hs = ap (λ h. least (cond (is_incremental own.kind) (h ∷ hs) hs)) (under_is own hs) ∙ go (is_incremental own.kind)
    where
      go : (b : Bool) → least (cond b (horizon_over b (last_tick clock own) (least hs) ∷ hs) hs) ≡ timed_over b (horizon_over b (last_tick clock own) (least hs)) (least hs)
      go true = lesser_bounded (last_tick clock own) (least hs)
      go false = refl

  abbrev least_before : List Closure → Node → Option ℤ
  least_before done n = least_at (map (timed clock) done) n.parents

  before_is : (done : List Closure) (n : Node) → least (horizons_of clock (parents_at done n.parents)) ≡ least_before done n
  before_is done n = parents_timed (parents_at done n.parents) ∙ ap least_over (sym (known_parents (timed clock) done n.parents))

  horizon_is : (done : List Closure) (n : Node) → horizon clock (closure_of done n) ≡ horizon_over (is_incremental n.own.kind) (last_tick clock n.own) (least_before done n)
  horizon_is done n = under_is n.own (horizons_of clock (parents_at done n.parents)) ∙ ap (horizon_over (is_incremental n.own.kind) (last_tick clock n.own)) (before_is done n)

  timed_is : (done : List Closure) (n : Node)
      → timed clock (closure_of done n) ≡ timed_over (is_incremental n.own.kind) (horizon_over (is_incremental n.own.kind) (last_tick clock n.own) (least_before done n)) (least_before done n)
  timed_is done n =
      with_is n.own (horizons_of clock (parents_at done n.parents))
      ∙ ap (λ o. timed_over (is_incremental n.own.kind) (horizon_over (is_incremental n.own.kind) (last_tick clock n.own) o) o) (before_is done n)

-- one node more
module _ (clock : Clock) (nodes : List Node) (i : ℕ) (n : Node) (inside : i < length nodes) (here : n ≡ get_or nodes i n) (timeds : List (Option ℤ))
    (known : timeds ≡ map (timed clock) (closures (take i nodes))) (tick : ℤ) (ticks : tick ≡ last_tick clock n.own) (inc : Bool) (kind : inc ≡ is_incremental n.own.kind)
    (second : Option ℤ) (seconds : second ≡ least_at timeds n.parents) (h : ℤ) (over : h ≡ horizon_over inc tick second) where
  least_there : second ≡ least_before clock (closures (take i nodes)) n
  least_there = seconds ∙ ap (λ l. least_at l n.parents) known

  over_is : h ≡ horizon_over (is_incremental n.own.kind) (last_tick clock n.own) (least_before clock (closures (take i nodes)) n)
  over_is = over ∙ (λ k. horizon_over (kind k) (ticks k) (least_there k))

  pub horizons_more : (list : List ℤ) → list ≡ map (horizon clock) (closures (take i nodes)) → list ++ h ∷ [] ≡ map (horizon clock) (closures (take (i + 1) nodes))
  horizons_more list e =
      (λ k. e k ++ over_is k ∷ [])
      ∙ ap (λ x. map (horizon clock) (closures (take i nodes)) ++ x ∷ []) (sym (horizon_is clock (closures (take i nodes)) n))
      ∙ ap (λ m. map (horizon clock) (closures (take i nodes)) ++ horizon clock (closure_of (closures (take i nodes)) m) ∷ []) here
      ∙ sym (known_more (horizon clock) nodes i n inside)

  pub timeds_more : timeds ++ timed_over inc h second ∷ [] ≡ map (timed clock) (closures (take (i + 1) nodes))
  timeds_more =
      (λ k. known k ++ timed_over (kind k) (over_is k) (least_there k) ∷ [])
      ∙ ap (λ x. map (timed clock) (closures (take i nodes)) ++ x ∷ []) (sym (timed_is clock (closures (take i nodes)) n))
      ∙ ap (λ m. map (timed clock) (closures (take i nodes)) ++ timed clock (closure_of (closures (take i nodes)) m) ∷ []) here
      ∙ sym (known_more (timed clock) nodes i n inside)
