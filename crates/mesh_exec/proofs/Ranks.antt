-- The models of a plan stand by rank.
use Rattle.std.proofs.Common.{◌≡◌, ◌⊎◌, inl, inr, ◌≤◌, ◌<◌, nat_lt, nat_le, ◌&&◌, ℕ, zero, suc, Bool, true, false, List, [], ◌∷◌, ◌++◌, length, IsTrue, refl, ap, ◌∙◌, subst, arith}
use Rattle.std.specs.Cmp.{nat_cmp_is}
use Rattle.std.specs.List.{AllByRecursion, Contains, slice_index_or}
use Rattle.std.specs.Ordering.{is_lt, nat_cmp, ordering_then}
use Rattle.std.specs.declared.cmp.Ordering.TheVariants.{Greater}
use Rattle.std.proofs.lemmas.Bool.{ltb-true, ltb-false}
use Rattle.std.proofs.lemmas.List.Elements.{Contains-append_cases}
use Rattle.mesh_list.specs.Keyed.{ascends, below_first}
use Rattle.mesh_base_values.specs.Names.{name_cmp}
use Rattle.mesh_base_values.proofs.Tests.{both_parts as is_both}
use Rattle.mesh_base.specs.declared.plans.Due.{Due}
use Rattle.mesh_base.specs.declared.plans.Entry.{Entry}
use Rattle.mesh_base.specs.declared.snapshots.Node.{Node}
use Rattle.mesh_base.specs.rules.Proper.{are_fit as nodes_fit, have_distinct_names, is_proper, node_cmp, node_itself}
use Rattle.mesh_exec_works.specs.Dues.{behind}
use Rattle.mesh_exec_works.specs.Works.{Part, parts_from}

abbrev Rising : List Node → Type 0
Rising ns = ascends node_cmp node_itself ns ≡ true

rank_le : (a b : Node) → is_lt (node_cmp a b) ≡ true → a.rank ≤ b.rank
rank_le a b h = go (nat_lt b.rank a.rank) refl
  where
    go : (c : Bool) → nat_lt b.rank a.rank ≡ c → a.rank ≤ b.rank
    go false e = ltb-false b.rank a.rank e
    go true e =
        let greater : Greater ≡ nat_cmp a.rank b.rank = nat_cmp_is a.rank b.rank Greater (ltb-true b.rank a.rank e) in
        let f : false ≡ true = ap (λ o. is_lt (ordering_then o (name_cmp a.own.name b.own.name))) greater ∙ h in absurd (cc)

-- no model has a smaller rank
abbrev NoLower : ℕ → List Part → Type 0
NoLower rank ps = AllByRecursion (λ (p : Part). rank ≤ p.node.rank) ps

from_first : (rank place : ℕ) (n : Node) (ns : List Node) (es : List Entry) (dues : List Due) → Rising (n ∷ ns) → rank ≤ n.rank → NoLower rank (parts_from place (n ∷ ns) es dues)
from_first rank place n ns [] dues up le = tt
from_first rank place n [] (e ∷ es) dues up le = (le, tt)
from_first rank place n (m ∷ ns) (e ∷ es) dues up le =
    let b = is_both (below_first node_cmp node_itself n (m ∷ ns)) (ascends node_cmp node_itself (m ∷ ns)) up in
    let next = rank_le n m b.0 in
    (le, from_first rank (suc place) m ns es (behind place dues) b.1 (omega (arith, le, next)))

abbrev first_rank : List Part → ℕ
first_rank [] = 0
first_rank (p ∷ ps) = p.node.rank

abbrev rest_of : List Part → List Part
rest_of [] = []
rest_of (p ∷ ps) = ps

rising : (n : Node) (ms : List Node) → Rising (n ∷ ms) → Rising ms
rising n ms h = (is_both (below_first node_cmp node_itself n ms) (ascends node_cmp node_itself ms) h).1

none_lower : (place : ℕ) (ns : List Node) (es : List Entry) (dues : List Due) (before after : List Part) (part : Part) → Rising ns → parts_from place ns es dues ≡ before ++ part ∷ after → NoLower part.node.rank (part ∷ after)
none_lower place [] es dues [] after part up is = absurd (cc)
none_lower place [] es dues (b ∷ before) after part up is = absurd (cc)
none_lower place (n ∷ ns) [] dues [] after part up is = absurd (cc)
none_lower place (n ∷ ns) [] dues (b ∷ before) after part up is = absurd (cc)
none_lower place (n ∷ ns) (e ∷ es) dues [] after part up is =
    let same : n.rank ≡ part.node.rank = ap first_rank is in
    subst (NoLower part.node.rank) is (from_first part.node.rank place n ns (e ∷ es) dues up (omega (arith, same)))
none_lower place (n ∷ ns) (e ∷ es) dues (b ∷ before) after part up is =
    none_lower (suc place) ns es (behind place dues) before after part (rising n ns up) (ap rest_of is)

no_lower : (rank : ℕ) (ps : List Part) (q : Part) → NoLower rank ps → Contains ps q → rank ≤ q.node.rank
no_lower rank ps q all (k, lt, is) = at ps k all lt is
  where
    at : (xs : List Part) (k : ℕ) → NoLower rank xs → k < length xs → slice_index_or xs k q ≡ q → rank ≤ q.node.rank
    at [] k all lt is = absurd (omega arith)
    at (x ∷ xs) zero all lt is = subst (λ (p : Part). rank ≤ p.node.rank) is all.0
    at (x ∷ xs) (suc k) all lt is = at xs k all.1 (omega arith) is

-- the models of smaller rank stand before a model
pub lower_before : (nodes : List Node) (es : List Entry) (dues : List Due) → IsTrue (is_proper nodes) → (before after : List Part) (part q : Part) → parts_from 0 nodes es dues ≡ before ++ part ∷ after → Contains (parts_from 0 nodes es dues) q → q.node.rank < part.node.rank → Contains before q
lower_before nodes es dues proper before after part q is has lower =
    let a = is_both (nat_le (length nodes) 4096) (ascends node_cmp node_itself nodes && (have_distinct_names nodes && nodes_fit nodes nodes)) proper in
    let b = is_both (ascends node_cmp node_itself nodes) (have_distinct_names nodes && nodes_fit nodes nodes) a.1 in
    go (Contains-append_cases before (part ∷ after) q (subst (λ (l : List Part). Contains l q) is has)) (none_lower 0 nodes es dues before after part b.0 is)
  where
    go : Contains before q ⊎ Contains (part ∷ after) q → NoLower part.node.rank (part ∷ after) → Contains before q
    go (inl here) all = here
    go (inr there) all = let le = no_lower part.node.rank (part ∷ after) q all there in absurd (omega (arith, le, lower))
