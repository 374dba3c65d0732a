-- Traces in order, and those that are listed.
use Rattle.std.proofs.Common.{◌≡◌, Bool, true, false, ◌&&◌, ◌||◌, not, cond, ℕ, List, [], ◌∷◌, refl, sym, ap, ◌∙◌, subst}
use Rattle.std.specs.List.{AllByRecursion}
use Rattle.std.specs.List.Sorted.{IsStrictlySortedBy}
use Rattle.std.specs.Option.{is_some, option_cmp}
use Rattle.std.specs.Ordering.{is_eq, is_lt, ordering_then}
use Rattle.std.specs.declared.cmp.Ordering.{Ordering}
use Rattle.std.specs.declared.cmp.Ordering.TheVariants.{Less}
use Rattle.std.specs.declared.option.Option.{Option}
use Rattle.std.specs.declared.option.Option.TheVariants.{None, Some}
use Rattle.std.specs.BTreeSet.{BTreeSet, IsFromIterResult}
use Rattle.std.specs.Cmp.{IsTotalOrder}
use Rattle.std.specs.Cmp.Lexicographic.{options_total}
use Rattle.std.proofs.lemmas.Cmp.{on_total, then_total}
use Rattle.std.proofs.lemmas.Map.Keys.{sorted_head, sorted_tail}
use Rattle.std.proofs.lemmas.Map.Lookups.{exact_bytes, exact_pairs, CmpEqualImpliesEq}
use Rattle.std.proofs.lemmas.Bool.{and_from as and_both}
use Rattle.mesh_list.specs.Keyed.{ascends, below_first}
use Rattle.mesh_base_values.specs.declared.values.Name.{Name}
use Rattle.mesh_base_values.specs.Names.{name_cmp, text_cmp}
use Rattle.mesh_base_values.specs.NameOrder.{names_exact, names_total, texts_total}
use Rattle.mesh_law_query.proofs.Has.{Has, Has_filter, Has_filter_from, Has_from, Has_to}
use Rattle.mesh_lineage.specs.Alike.{IsAlike}
use Rattle.mesh_lineage.proofs.Alike.{back, map_alike, set_alike, there}
use Rattle.mesh_trace.specs.Pairs.{as_trace, as_traces}
use Rattle.mesh_trace.specs.Traces.{has_column_of, is_listed, listed, trace_cmp, trace_itself}
use Rattle.mesh_trace.specs.declared.traces.Trace.{Trace}
use Rattle.mesh_trace.proofs.Needs.{any_same}

abbrev Pair : Type 0
Pair = Name × Option (List ℕ)

abbrev column_cmp : Option (List ℕ) → Option (List ℕ) → Ordering
column_cmp = option_cmp text_cmp

abbrev pub pair_cmp : Pair → Pair → Ordering
pair_cmp a b = ordering_then (name_cmp a.0 b.0) (column_cmp a.1 b.1)

columns_exact : CmpEqualImpliesEq column_cmp
columns_exact None None h = refl
columns_exact None (Some b) h = absurd (cc)
columns_exact (Some a) None h = absurd (cc)
columns_exact (Some a) (Some b) h = ap Some (exact_bytes a b h)

pairs_total : IsTotalOrder pair_cmp
pairs_total = then_total (on_total (λ (p : Pair). p.0) names_total) (on_total (λ (p : Pair). p.1) (options_total texts_total))

pairs_exact : CmpEqualImpliesEq pair_cmp
pairs_exact = exact_pairs name_cmp column_cmp names_exact columns_exact

first_below : (x : Pair) (xs : List Pair) → AllByRecursion (λ y. pair_cmp x y ≡ Less) xs → below_first trace_cmp trace_itself (as_trace x) (as_traces xs) ≡ true
first_below x [] h = refl
first_below x (z ∷ zs) h = ap is_lt h.0

pairs_up : (ks : List Pair) → IsStrictlySortedBy pair_cmp ks → ascends trace_cmp trace_itself (as_traces ks) ≡ true
pairs_up [] s = refl
pairs_up (x ∷ xs) s = and_both _ _ (first_below x xs (sorted_head pair_cmp x xs s)) (pairs_up xs (sorted_tail pair_cmp x xs s))

-- the keys of a set of such pairs
pub keys_up : (pairs : List Pair) (set : BTreeSet Pair) → IsFromIterResult pair_cmp pairs set → ascends trace_cmp trace_itself (as_traces set.keys) ≡ true
keys_up pairs set made = pairs_up set.keys made.1

pub keys_alike : (pairs : List Pair) (set : BTreeSet Pair) (all : List Trace) → IsFromIterResult pair_cmp pairs set → as_traces pairs ≡ all → IsAlike (as_traces set.keys) all
keys_alike pairs set all made is = subst (IsAlike (as_traces set.keys)) is (map_alike as_trace set.keys pairs (set_alike pair_cmp pairs_total pairs_exact pairs set made))

-- what is listed of lists that have the same
listed_within : (xs ys : List Trace) → IsAlike xs ys → (t : Trace) → Has t (listed xs) → Has t (listed ys)
listed_within xs ys a t h =
    let (i, k) = Has_filter_from (is_listed xs) xs t h in
    Has_filter (is_listed ys) ys t (there xs ys a t i)
    (ap (λ b. is_some t.column || not b) (any_same (λ (s : Trace). is_some s.column && is_eq (name_cmp s.relation t.relation)) ys xs (back xs ys a) (there xs ys a)) ∙ k)

pub listed_alike : (xs ys : List Trace) → IsAlike xs ys → IsAlike (listed xs) (listed ys)
listed_alike xs ys a t =
    (λ c. Has_to (listed ys) t (listed_within xs ys a t (Has_from (listed xs) t c)), λ c. Has_to (listed xs) t (listed_within ys xs (λ s. ((a s).1, (a s).0)) t (Has_from (listed ys) t c)))

-- one trace more, or none
pub one_added : (t : Trace) (key name : Name) (column : List ℕ) (new old : Bool) → t.column ≡ Some column → key ≡ t.relation → new ≡ cond (is_eq (name_cmp key name)) true old → new ≡ (old || has_column_of (t ∷ []) name)
one_added t key name column new old e k is = is ∙ ap (λ (r : Name). cond (is_eq (name_cmp r name)) true old) k ∙ go (is_eq (name_cmp t.relation name)) old ∙ ap (λ (c : Option (List ℕ)). old || ((is_some c && is_eq (name_cmp t.relation name)) || false)) (sym e)
  where
    go : (a b : Bool) → cond a true b ≡ (b || (a || false))
    go true true = refl
    go true false = refl
    go false true = refl
    go false false = refl

pub none_added : (t : Trace) (name : Name) (old : Bool) → t.column ≡ None → old ≡ (old || has_column_of (t ∷ []) name)
none_added t name old e = go old ∙ ap (λ (c : Option (List ℕ)). old || ((is_some c && is_eq (name_cmp t.relation name)) || false)) (sym e)
  where
    go : (b : Bool) → b ≡ (b || false)
    go true = refl
    go false = refl
