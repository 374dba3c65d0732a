-- A project's closures.
use Rattle.std.proofs.Common.{◌≡◌, ℕ, zero, suc, ◌+◌, ◌<◌, true, nat_lt, List, [], ◌∷◌, ◌++◌, map, length, refl, ap, sym, ◌∙◌, append_assoc, arith, length-append}
use Rattle.std.specs.List.{All, Contains, fold, flat_map, list_all, slice_get}
use Rattle.std.specs.Option.{option_to_list}
use Rattle.std.proofs.lemmas.Bool.{and_parts, ltb-true}
use Rattle.std.proofs.lemmas.List.Sums.{fold-append}
use Rattle.std.specs.declared.option.Option.{Option}
use Rattle.std.specs.declared.option.Option.TheVariants.{None, Some}
use Rattle.std.proofs.lemmas.List.{map-append, append-nil}
use Rattle.std.proofs.lemmas.List.Elements.{All-nil, All-cons, All-append, All-weaker, Contains-append_left}
use Rattle.std.proofs.lemmas.Option.{slice_get_within, get_or_from_slice_get}
use Rattle.mesh_base.specs.declared.snapshots.Node.{Node}
use Rattle.mesh_spec_model.specs.Closures.{Closure, Closures, Model, own_of, parents_of, each_of, with_parent, parents_at, with_model, closures}

owns_after : (done : List Closure) (nodes : List Node) → map own_of (fold with_model done nodes) ≡ map own_of done ++ map (λ (n : Node). n.own) nodes
owns_after done [] = sym (append-nil (map own_of done))
owns_after done (n ∷ nodes) =
    owns_after (with_model done n) nodes
    ∙ ap (λ l. l ++ map (λ (n : Node). n.own) nodes) (map-append own_of done (Model n.own (parents_at done n.parents) ∷ []))
    ∙ append_assoc (map own_of done) (n.own ∷ []) (map (λ (n : Node). n.own) nodes)

pub one_each : (nodes : List Node) → map own_of (closures nodes) ≡ map (λ (n : Node). n.own) nodes
one_each nodes = owns_after [] nodes

-- each parent of a closure is one of these
abbrev Closed : List Closure → Closure → Type 0
Closed all c = All (Contains all) (each_of (parents_of c))

got : (done : List Closure) (i : ℕ) (c : Closure) → slice_get done i ≡ Some c → Contains done c
got done i c e = (i, slice_get_within done i c e, get_or_from_slice_get done i c c e)

taken : (done : List Closure) (places : List ℕ) → All (Contains done) (each_of (parents_at done places))
taken done [] = All-nil (Contains done)
taken done (i ∷ is) = go (slice_get done i) refl (taken done is)
  where
    go : (o : Option Closure) → slice_get done i ≡ o → All (Contains done) (each_of (parents_at done is)) → All (Contains done) (each_of (with_parent o (parents_at done is)))
    go None e h = h
    go (Some c) e h = All-cons (Contains done) c (each_of (parents_at done is)) (got done i c e) h

wider : (done more : List Closure) (c : Closure) → Closed done c → Closed (done ++ more) c
wider done more c h = All-weaker (Contains done) (Contains (done ++ more)) (λ p k. Contains-append_left done more p k) (each_of (parents_of c)) h

closed_after : (done : List Closure) (nodes : List Node) → All (Closed done) done → All (Closed (fold with_model done nodes)) (fold with_model done nodes)
closed_after done [] h = h
closed_after done (n ∷ nodes) h =
    let new : Closure = Model n.own (parents_at done n.parents) in
    closed_after (done ++ new ∷ []) nodes
    (All-append (Closed (done ++ new ∷ [])) done (new ∷ [])
    (All-weaker (Closed done) (Closed (done ++ new ∷ [])) (λ c k. wider done (new ∷ []) c k) done h)
    (All-cons (Closed (done ++ new ∷ [])) new [] (wider done (new ∷ []) new (taken done n.parents)) (All-nil (Closed (done ++ new ∷ [])))))

pub with_their_parents : (nodes : List Node) → All (λ c. All (Contains (closures nodes)) (each_of (parents_of c))) (closures nodes)
with_their_parents nodes = closed_after [] nodes (All-nil (Closed []))

-- the closures at these places, where there are some
abbrev at_places : List Closure → List ℕ → List Closure
at_places all places = flat_map (λ i. option_to_list (slice_get all i)) places

kept_at : (done more : List Closure) (i : ℕ) → i < length done → slice_get (done ++ more) i ≡ slice_get done i
kept_at [] more i h = absurd (omega arith)
kept_at (c ∷ cs) more zero h = refl
kept_at (c ∷ cs) more (suc i) h = kept_at cs more i (omega arith)

at_end : (done : List Closure) (c : Closure) (more : List Closure) → slice_get (done ++ c ∷ more) (length done) ≡ Some c
at_end [] c more = refl
at_end (d ∷ done) c more = at_end done c more

-- closures that are made stay where they are
stays : (done : List Closure) (nodes : List Node) → (more : List Closure) × (fold with_model done nodes ≡ done ++ more)
stays done [] = ([], sym (append-nil done))
stays done (n ∷ nodes) =
    let new : Closure = Model n.own (parents_at done n.parents) in
    let rest = stays (done ++ new ∷ []) nodes in
    (new ∷ rest.0, rest.1 ∙ append_assoc done (new ∷ []) rest.0)

each_at : (done : List Closure) (places : List ℕ) → each_of (parents_at done places) ≡ at_places done places
each_at done [] = refl
each_at done (i ∷ is) = go (slice_get done i) (each_at done is)
  where
    go : (o : Option Closure) → each_of (parents_at done is) ≡ at_places done is → each_of (with_parent o (parents_at done is)) ≡ option_to_list o ++ at_places done is
    go None e = e
    go (Some c) e = ap (λ l. c ∷ l) e

within : (done more : List Closure) (places : List ℕ) → list_all (λ i. nat_lt i (length done)) places ≡ true → at_places done places ≡ at_places (done ++ more) places
within done more [] h = refl
within done more (i ∷ is) h =
    let both = and_parts (nat_lt i (length done)) (list_all (λ i. nat_lt i (length done)) is) h in
    (λ j. option_to_list (sym (kept_at done more i (ltb-true i (length done) both.0)) j) ++ within done more is both.1 j)

made_long : (done : List Closure) (nodes : List Node) → length (fold with_model done nodes) ≡ length done + length nodes
made_long done [] = omega arith
made_long done (n ∷ nodes) = let new : Closure = Model n.own (parents_at done n.parents) in made_long (done ++ new ∷ []) nodes ∙ omega (arith, length-append done (new ∷ []))

pub at_their_places : (before after : List Node) (n : Node) → list_all (λ i. nat_lt i (length before)) n.parents ≡ true
    → (parents : Closures) × (slice_get (closures (before ++ n ∷ after)) (length before) ≡ Some (Model n.own parents))
    × (each_of parents ≡ flat_map (λ i. option_to_list (slice_get (closures (before ++ n ∷ after)) i)) n.parents)
at_their_places before after n h =
    let done : List Closure = closures before in
    let new : Closure = Model n.own (parents_at done n.parents) in
    let rest = stays (done ++ new ∷ []) after in
    let long : length done ≡ length before = made_long [] before ∙ omega arith in
    let is : closures (before ++ n ∷ after) ≡ done ++ new ∷ rest.0 = fold-append with_model [] before (n ∷ after) ∙ rest.1 ∙ append_assoc done (new ∷ []) rest.0 in (
      parents_at done n.parents,
      (λ i. slice_get (is i) (sym long i)) ∙ at_end done new rest.0,
      each_at done n.parents ∙ within done (new ∷ rest.0) n.parents (ap (λ m. list_all (λ i. nat_lt i m) n.parents) long ∙ h) ∙ ap (λ all. at_places all n.parents) (sym is),
    )
