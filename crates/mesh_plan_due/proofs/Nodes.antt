-- The closures of nodes, one node at a time, and those at some places.
use Rattle.std.proofs.Common.{◌≡◌, ℕ, zero, suc, ◌+◌, ◌<◌, ℤ, pos, List, [], ◌∷◌, ◌++◌, map, length, take, get_or, refl, sym, ap, ◌∙◌, arith, length-append}
use Rattle.std.specs.List.{flat_map, fold, slice_get}
use Rattle.std.specs.Option.{option_map, option_to_list}
use Rattle.std.specs.declared.option.Option.{Option}
use Rattle.std.specs.declared.option.Option.TheVariants.{None, Some}
use Rattle.std.proofs.lemmas.List.{length-map, map-append, take_more}
use Rattle.std.proofs.lemmas.List.Sums.{fold-append}
use Rattle.std.proofs.lemmas.Option.{slice_get-get_or, slice_get-map, slice_get_read, slice_get_within}
use Rattle.mesh_base.specs.declared.snapshots.Node.{Node}
use Rattle.mesh_spec_model.specs.Closures.{Closure, Model, closures, each_of, own_of, parents_at, with_model, with_parent}
use Rattle.mesh_spec_model.proofs.Listed.{one_each}

-- the closure of a node over those before it
abbrev pub closure_of : List Closure → Node → Closure
closure_of done n = Model n.own (parents_at done n.parents)

pub closures_more : (nodes : List Node) (i : ℕ) (d : Node) → i < length nodes → closures (take (i + 1) nodes) ≡ closures (take i nodes) ++ closure_of (closures (take i nodes)) (get_or nodes i d) ∷ []
closures_more nodes i d inside = ap closures (take_more nodes i d inside) ∙ fold-append with_model [] (take i nodes) (get_or nodes i d ∷ [])

made_long : (done : List Closure) (nodes : List Node) → length (fold with_model done nodes) ≡ length done + length nodes
made_long done [] = omega arith
made_long done (n ∷ nodes) = made_long (done ++ closure_of done n ∷ []) nodes ∙ omega (arith, length-append done (closure_of done n ∷ []))

pub closures_long : (nodes : List Node) → length (closures nodes) ≡ length nodes
closures_long nodes = made_long [] nodes ∙ omega arith

-- what is known of each that is done, and what of those at some places
abbrev pub known_at : {X : Type 0} → List X → List ℕ → List X
known_at all places = flat_map (λ i. option_to_list (slice_get all i)) places

module _ {X : Type 0} (f : Closure → X) where
  pub known_parents : (done : List Closure) (places : List ℕ) → known_at (map f done) places ≡ map f (each_of (parents_at done places))
  known_parents done [] = refl
  known_parents done (i ∷ is) = ap (λ o. option_to_list o ++ known_at (map f done) is) (slice_get-map f done i) ∙ by_parent (slice_get done i) (known_parents done is)
    where
      by_parent : (o : Option Closure) → known_at (map f done) is ≡ map f (each_of (parents_at done is))
          → option_to_list (option_map f o) ++ known_at (map f done) is ≡ map f (each_of (with_parent o (parents_at done is)))
      by_parent None more = more
      by_parent (Some c) more = ap (λ l. f c ∷ l) more

  pub known_more : (nodes : List Node) (i : ℕ) (d : Node) → i < length nodes → map f (closures (take (i + 1) nodes)) ≡ map f (closures (take i nodes)) ++ f (closure_of (closures (take i nodes)) (get_or nodes i d)) ∷ []
  known_more nodes i d inside = ap (map f) (closures_more nodes i d inside) ∙ map-append f (closures (take i nodes)) (closure_of (closures (take i nodes)) (get_or nodes i d) ∷ [])

made_at : (ns : List Node) (cs : List Closure) → map own_of cs ≡ map (λ (n : Node). n.own) ns → (k : ℕ) (n : Node) → slice_get ns k ≡ Some n → (c : Closure) × (slice_get cs k ≡ Some c) × (own_of c ≡ n.own)
made_at [] cs owns k n e = absurd (cc)
made_at (m ∷ ns) [] owns k n e = absurd (cc)
made_at (m ∷ ns) (d ∷ cs) owns zero n e =
    let own : own_of d ≡ m.own = cc in
    let same : m ≡ n = cc in
    (d, refl, own ∙ ap (λ (x : Node). x.own) same)
made_at (m ∷ ns) (d ∷ cs) owns (suc k) n e = let rest : map own_of cs ≡ map (λ (n : Node). n.own) ns = cc in made_at ns cs rest k n e

-- the closure of the node at a place
pub closure_at : (nodes : List Node) (k : ℕ) (n : Node) → slice_get nodes k ≡ Some n → (c : Closure) × (slice_get (closures nodes) k ≡ Some c) × (own_of c ≡ n.own)
closure_at nodes k n e = made_at nodes (closures nodes) (one_each nodes) k n e

-- what is known of it
pub known_of : {X : Type 0} (f : Closure → X) (cs : List Closure) (xs : List X) → xs ≡ map f cs → (k : ℕ) (x : X) (c : Closure) → slice_get xs k ≡ Some x → slice_get cs k ≡ Some c → x ≡ f c
known_of f cs xs e k x c at there =
    let same : Some x ≡ Some (f c) = sym at ∙ ap (λ l. slice_get l k) e ∙ slice_get-map f cs k ∙ ap (option_map f) there in cc

pub node_there : (nodes : List Node) (i : ℕ) (n : Node) → i < length nodes → n ≡ get_or nodes i n → slice_get nodes i ≡ Some n
node_there nodes i n inside here = slice_get_read nodes (length nodes) i n refl inside here

-- and its second in a list of them
pub number_of : (f : Closure → ℤ) (cs : List Closure) (xs : List ℤ) → xs ≡ map f cs → (k : ℕ) (c : Closure) → slice_get cs k ≡ Some c → get_or xs k (pos 0) ≡ f c
number_of f cs xs e k c there =
    let inside : k < length xs = omega (arith, slice_get_within cs k c there, ap length e, length-map cs f) in
    known_of f cs xs e k (get_or xs k (pos 0)) c (slice_get-get_or xs k (pos 0) inside) there

pub read_there : {X : Type 0} (xs : List X) (i : ℕ) (x : X) → i < length xs → x ≡ get_or xs i x → slice_get xs i ≡ Some x
read_there xs i x inside here = slice_get_read xs (length xs) i x refl inside here
