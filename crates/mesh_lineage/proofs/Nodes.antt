-- What is known of a project's models, one node at a time.
use Rattle.std.proofs.Common.{◌≡◌, ℕ, ◌+◌, ◌<◌, Bool, true, false, not, cond, ◌&&◌, List, [], ◌∷◌, ◌++◌, length, take, map, Some, None, refl, sym, ap, ap₂, ◌∙◌, get_or, append-nil}
use Rattle.std.specs.List.{find, flat_map, list_all, slice_get}
use Rattle.std.specs.Option.{option_map, option_to_list}
use Rattle.std.specs.Ordering.{is_eq}
use Rattle.std.specs.declared.option.Option.{Option}
use Rattle.std.proofs.lemmas.List.{map-append, take_more}
use Rattle.std.proofs.lemmas.List.Folds.{list_all-append}
use Rattle.std.proofs.lemmas.List.Sums.{fold-append}
use Rattle.std.proofs.lemmas.Option.{slice_get-map}
use Rattle.std.proofs.lemmas.Grind.{flat_map-append}
use Rattle.mesh_base_values.specs.Kinds.{is_incremental}
use Rattle.mesh_base_values.specs.Names.{name_cmp}
use Rattle.mesh_base_values.specs.declared.kinds.Kind.{Kind}
use Rattle.mesh_base_values.specs.declared.kinds.Kind.TheVariants.{Full, View, Seed, Incremental}
use Rattle.mesh_base_values.specs.declared.values.Name.{Name}
use Rattle.mesh_base.specs.declared.definitions.Decl.{Decl}
use Rattle.mesh_base.specs.declared.definitions.Own.{Own}
use Rattle.mesh_base.specs.declared.queries.FromItem.{FromItem}
use Rattle.mesh_base.specs.declared.queries.Select.{Select}
use Rattle.mesh_base.specs.declared.snapshots.Node.{Node}
use Rattle.mesh_spec_model.specs.Closures.{Closure, Closures, Model, Alone, With, ancestors, closures, each_of, own_of, parents_at, standing, with_model, with_parent}
use Rattle.mesh_spec_changes.specs.steady.Steady.{has_timed_source, is_found_parent_bound, is_parent_bound, is_relation_bound, is_source_bound, is_timeless, parent_named, source_declared}
use Rattle.mesh_lineage.specs.declared.reaches.Bound.TheVariants.{Free, Never}
use Rattle.mesh_lineage.specs.declared.reaches.Link.{Link}
use Rattle.mesh_lineage.specs.Unsteady.{breakers, breakers_as, defn_breakers, least, lesser, may_read, pair_with, parents_reached, timed_names, timed_reached, unsteady_pair}
use Rattle.mesh_lineage.specs.Reaches.{are_timeless, bound_test, breaker_as, least_reached, link_named, link_test, may_read_links, model_bound, model_link, node_pair, node_reach, or_link, parent_links, reach, reach_over, reaches_at, source_bound, source_link, timed_over, timed_through, timeless_over}
use Rattle.mesh_lineage.proofs.Least.{least_append}

-- what is known of the parents at some places
pub reaches_are : (done : List Closure) (places : List ℕ) → reaches_at (map reach done) places ≡ map reach (each_of (parents_at done places))
reaches_are done [] = refl
reaches_are done (i ∷ is) = ap (λ o. option_to_list o ++ reaches_at (map reach done) is) (slice_get-map reach done i) ∙ by_parent (slice_get done i) (reaches_are done is)
  where
    by_parent : (o : Option Closure) → reaches_at (map reach done) is ≡ map reach (each_of (parents_at done is))
        → option_to_list (option_map reach o) ++ reaches_at (map reach done) is ≡ map reach (each_of (with_parent o (parents_at done is)))
    by_parent None more = more
    by_parent (Some c) more = ap (λ l. reach c ∷ l) more

-- a closure itself has no timed source and isn't incremental
abbrev is_still : Closure → Bool
is_still c = not (has_timed_source (own_of c)) && not (is_incremental (own_of c).kind)

timeless_over_parents : (cs : Closures) → list_all is_still (ancestors cs) ≡ are_timeless (map reach (each_of cs))
timeless_over_parents Alone = refl
timeless_over_parents (With c cs) = list_all-append is_still (standing c) (ancestors cs) ∙ ap (λ b. is_timeless c && b) (timeless_over_parents cs)

timeless_is : (own : Own) (cs : Closures) → is_timeless (Model own cs) ≡ timeless_over own (map reach (each_of cs))
timeless_is own cs = ap (λ b. (not (has_timed_source own) && not (is_incremental own.kind)) && b) (timeless_over_parents cs)

least_if : (b : Bool) (names : List Name) → least (cond b [] names) ≡ cond b None (least names)
least_if true names = refl
least_if false names = refl

reached_over_parents : (cs : Closures) → least (parents_reached cs) ≡ least_reached (map reach (each_of cs))
reached_over_parents Alone = refl
reached_over_parents (With c cs) =
    least_append (cond (is_incremental (own_of c).kind) [] (timed_reached c)) (parents_reached cs)
    ∙ ap₂ lesser (least_if (is_incremental (own_of c).kind) (timed_reached c)) (reached_over_parents cs)

timed_is : (own : Own) (cs : Closures) → timed_through (Model own cs) ≡ timed_over own (map reach (each_of cs))
timed_is own cs = ap (cond (is_incremental own.kind) None) (least_append (timed_names own) (parents_reached cs) ∙ ap (lesser (least (timed_names own))) (reached_over_parents cs))

reach_is : (own : Own) (cs : Closures) → reach (Model own cs) ≡ reach_over own (map reach (each_of cs))
reach_is own cs = λ i. record { link = model_link (timeless_is own cs i) own; timeless = timeless_is own cs i; timed = timed_is own cs i }

-- what is found of links is found of what they stand for
found_of : {X : Type 0} (f : X → Link) (name : Name) (xs : List X) → link_named (map f xs) name ≡ option_map f (find (λ x. is_eq (name_cmp (f x).name name)) xs)
found_of f name [] = refl
found_of f name (x ∷ xs) = by_test (is_eq (name_cmp (f x).name name)) (found_of f name xs)
  where
    by_test : (b : Bool) → link_named (map f xs) name ≡ option_map f (find (λ x. is_eq (name_cmp (f x).name name)) xs)
        → cond b (Some (f x)) (link_named (map f xs) name) ≡ option_map f (cond b (Some x) (find (λ x. is_eq (name_cmp (f x).name name)) xs))
    by_test true more = refl
    by_test false more = more

abbrev parent_link : Closure → Link
parent_link c = (reach c).link

links_are : (cs : List Closure) → parent_links (map reach cs) ≡ map parent_link cs
links_are [] = refl
links_are (c ∷ cs) = ap (λ l. parent_link c ∷ l) (links_are cs)

parent_test : (s : Select) (place : ℕ) (f : FromItem) (c : Closure) (k : Kind) → (own_of c).kind ≡ k → is_parent_bound s place f c k ≡ link_test s place f (Some (record { name = (own_of c).name; bound = model_bound (is_timeless c) k }))
parent_test s place f c Seed is = refl
parent_test s place f c Full is = by_test (is_timeless c)
  where
    by_test : (b : Bool) → b ≡ bound_test s place f (cond b Free Never)
    by_test true = refl
    by_test false = refl
parent_test s place f c View is = by_test (is_timeless c)
  where
    by_test : (b : Bool) → b ≡ bound_test s place f (cond b Free Never)
    by_test true = refl
    by_test false = refl
parent_test s place f c (Incremental time lookback) is = refl

found_parent_test : (s : Select) (place : ℕ) (f : FromItem) (o : Option Closure) → is_found_parent_bound s place f o ≡ link_test s place f (option_map parent_link o)
found_parent_test s place f None = refl
found_parent_test s place f (Some c) = parent_test s place f c (own_of c).kind refl

source_test : (s : Select) (place : ℕ) (f : FromItem) (t : Option (List ℕ)) → is_source_bound s place f t ≡ bound_test s place f (source_bound t)
source_test s place f None = refl
source_test s place f (Some time) = refl

relation_test : (parents : Closures) (s : Select) (place : ℕ) (f : FromItem) (name : Name) (o : Option Decl)
    → is_relation_bound parents s place f name o ≡ link_test s place f (or_link (option_map source_link o) (option_map parent_link (parent_named parents name)))
relation_test parents s place f name None = found_parent_test s place f (parent_named parents name)
relation_test parents s place f name (Some d) = source_test s place f d.time

tests_are : (own : Own) (parents : Closures) → may_read own parents ≡ may_read_links (map source_link own.sources) (parent_links (map reach (each_of parents)))
tests_are own parents = λ i s place f name. same s place f name i
  where
    same : (s : Select) (place : ℕ) (f : FromItem) (name : Name) → may_read own parents s place f name ≡ may_read_links (map source_link own.sources) (parent_links (map reach (each_of parents))) s place f name
    same s place f name =
        relation_test parents s place f name (source_declared own name)
        ∙ ap₂ (λ a b. link_test s place f (or_link a b)) (sym (found_of source_link name own.sources)) (sym (found_of parent_link name (each_of parents)) ∙ ap (λ l. link_named l name) (sym (links_are (each_of parents))))

breaker_is : (own : Own) (cs : Closures) → least (breakers (Model own cs)) ≡ breaker_as own (map reach (each_of cs)) (timed_over own (map reach (each_of cs))) own.kind
breaker_is own cs = by_kind own.kind refl ∙ ap (λ t. breaker_as own (map reach (each_of cs)) t own.kind) (timed_is own cs)
  where
    by_kind : (k : Kind) → own.kind ≡ k → least (breakers_as own cs k) ≡ breaker_as own (map reach (each_of cs)) (cond (is_incremental k) None (least (timed_reached (Model own cs)))) k
    by_kind (Incremental time lookback) is = ap (λ t. least (defn_breakers t own.defn)) (tests_are own cs)
    by_kind Full is = refl
    by_kind View is = refl
    by_kind Seed is = refl

-- one node on
abbrev closure_of : List Closure → Node → Closure
closure_of done n = Model n.own (parents_at done n.parents)

closures_more : (nodes : List Node) (i : ℕ) (d : Node) → i < length nodes → closures (take (i + 1) nodes) ≡ closures (take i nodes) ++ closure_of (closures (take i nodes)) (get_or nodes i d) ∷ []
closures_more nodes i d inside = ap closures (take_more nodes i d inside) ∙ fold-append with_model [] (take i nodes) (get_or nodes i d ∷ [])

node_reach_is : (done : List Closure) (n : Node) → reach (closure_of done n) ≡ node_reach (map reach done) n
node_reach_is done n = reach_is n.own (parents_at done n.parents) ∙ ap (reach_over n.own) (sym (reaches_are done n.parents))

node_pair_is : (done : List Closure) (n : Node) → unsteady_pair (closure_of done n) ≡ node_pair (map reach done) n
node_pair_is done n =
    ap (pair_with n.own.name) (breaker_is n.own (parents_at done n.parents)
    ∙ ap (λ rs. breaker_as n.own rs (timed_over n.own rs) n.own.kind) (sym (reaches_are done n.parents)))

pub reaches_more : (nodes : List Node) (i : ℕ) (d : Node) → i < length nodes
    → map reach (closures (take (i + 1) nodes)) ≡ map reach (closures (take i nodes)) ++ node_reach (map reach (closures (take i nodes))) (get_or nodes i d) ∷ []
reaches_more nodes i d inside =
    ap (map reach) (closures_more nodes i d inside) ∙ map-append reach (closures (take i nodes)) (closure_of (closures (take i nodes)) (get_or nodes i d) ∷ [])
    ∙ ap (λ r. map reach (closures (take i nodes)) ++ r ∷ []) (node_reach_is (closures (take i nodes)) (get_or nodes i d))

pub pairs_more : (nodes : List Node) (i : ℕ) (d : Node) → i < length nodes
    → flat_map unsteady_pair (closures (take (i + 1) nodes)) ≡ flat_map unsteady_pair (closures (take i nodes)) ++ node_pair (map reach (closures (take i nodes))) (get_or nodes i d)
pairs_more nodes i d inside =
    ap (flat_map unsteady_pair) (closures_more nodes i d inside) ∙ flat_map-append unsteady_pair (closures (take i nodes)) (closure_of (closures (take i nodes)) (get_or nodes i d) ∷ [])
    ∙ ap (λ l. flat_map unsteady_pair (closures (take i nodes)) ++ l) (append-nil (unsteady_pair (closure_of (closures (take i nodes)) (get_or nodes i d))))
    ∙ ap (λ l. flat_map unsteady_pair (closures (take i nodes)) ++ l) (node_pair_is (closures (take i nodes)) (get_or nodes i d))
