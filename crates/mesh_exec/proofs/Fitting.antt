-- What is due in a plan fits its models.
use Rattle.std.proofs.Common.{◌≡◌, ℕ, suc, ◌+◌, Bool, true, false, cond, nat_eq, List, [], ◌∷◌, length, Some, IsTrue, refl, sym, ap, ◌∙◌, arith}
use Rattle.std.specs.Prelude.{◌&&◌, nat_le}
use Rattle.std.specs.List.{list_all, slice_get}
use Rattle.std.proofs.lemmas.Bool.{eqb-true, and_from as both_are}
use Rattle.std.specs.declared.option.Option.{Option}
use Rattle.mesh_list.specs.Keyed.{ascends}
use Rattle.mesh_base_values.proofs.Tests.{both_parts as is_both}
use Rattle.mesh_base.specs.declared.plans.Due.{Due}
use Rattle.mesh_base.specs.declared.plans.Entry.{Entry}
use Rattle.mesh_base.specs.declared.snapshots.Node.{Node}
use Rattle.mesh_base.specs.rules.Proper.{is_body_of, is_fit as is_node_fit, have_distinct_names, is_plain_schema, is_proper, is_well_formed, node_cmp, node_itself, parents_at}
use Rattle.mesh_exec_works.specs.Dues.{behind, leading}
use Rattle.mesh_exec_works.specs.Executable.{is_due_in, is_due_of, place_of}
use Rattle.mesh_exec_works.specs.Works.{are_fit, is_fit, parts_from}

same_place : (a b : ℕ) → nat_eq a b ≡ true → a ≡ b
same_place a b h = eqb-true a b h

each_body : (all ns : List Node) → list_all (is_node_fit all) ns ≡ true → list_all (λ (n : Node). is_body_of n.own.kind n.own.defn) ns ≡ true
each_body all [] h = refl
each_body all (n ∷ ns) h =
    let a = is_both (is_node_fit all n) (list_all (is_node_fit all) ns) h in
    let b = is_both _ _ a.0 in
    let c = is_both _ (is_well_formed (parents_at all n.parents) n.own) b.1 in
    let d = is_both (is_plain_schema n.own.name.schema) _ c.1 in
    let e = is_both (is_body_of n.own.kind n.own.defn) _ d.1 in
    both_are (is_body_of n.own.kind n.own.defn) (list_all (λ (x : Node). is_body_of x.own.kind x.own.defn) ns) e.0 (each_body all ns a.1)

bodies : (nodes : List Node) → IsTrue (is_proper nodes) → list_all (λ (n : Node). is_body_of n.own.kind n.own.defn) nodes ≡ true
bodies nodes h =
    let fit = list_all (is_node_fit nodes) nodes in
    let a = is_both (nat_le (length nodes) 4096) (ascends node_cmp node_itself nodes && (have_distinct_names nodes && fit)) h in
    let b = is_both (ascends node_cmp node_itself nodes) (have_distinct_names nodes && fit) a.1 in
    let c = is_both (have_distinct_names nodes) fit b.1 in
    each_body nodes nodes c.1

leading_fit : (all : List Node) (n : Node) (place : ℕ) (dues : List Due) → slice_get all place ≡ Some n → list_all (is_due_in all) dues ≡ true → list_all (is_due_of (Some n)) (leading place dues) ≡ true
leading_fit all n place [] there h = refl
leading_fit all n place (d ∷ ds) there h = at (leading_fit all n place ds there (is_both (is_due_in all d) (list_all (is_due_in all) ds) h).1) (nat_eq (place_of d) place) refl
  where
    at : list_all (is_due_of (Some n)) (leading place ds) ≡ true → (b : Bool) → nat_eq (place_of d) place ≡ b → list_all (is_due_of (Some n)) (cond b (d ∷ leading place ds) []) ≡ true
    at rest true e =
        let k = is_both (is_due_in all d) (list_all (is_due_in all) ds) h in
        both_are (is_due_of (Some n) d) (list_all (is_due_of (Some n)) (leading place ds))
        (ap (λ (o : Option Node). is_due_of o d) (sym (ap (slice_get all) (same_place (place_of d) place e) ∙ there)) ∙ k.0)
        rest
    at rest false e = refl

behind_fit : (all : List Node) (place : ℕ) (dues : List Due) → list_all (is_due_in all) dues ≡ true → list_all (is_due_in all) (behind place dues) ≡ true
behind_fit all place [] h = refl
behind_fit all place (d ∷ ds) h = at (behind_fit all place ds (is_both (is_due_in all d) (list_all (is_due_in all) ds) h).1) (nat_eq (place_of d) place)
  where
    at : list_all (is_due_in all) (behind place ds) ≡ true → (b : Bool) → list_all (is_due_in all) (cond b (behind place ds) (d ∷ ds)) ≡ true
    at rest true = rest
    at rest false = h

fit_from : (all : List Node) (place : ℕ) (ns : List Node) (es : List Entry) (dues : List Due) → ((k : ℕ) → slice_get all (place + k) ≡ slice_get ns k)
    → list_all (λ (n : Node). is_body_of n.own.kind n.own.defn) ns ≡ true → list_all (is_due_in all) dues ≡ true → are_fit (parts_from place ns es dues) ≡ true
fit_from all place [] es dues there body h = refl
fit_from all place (n ∷ ns) [] dues there body h = refl
fit_from all place (n ∷ ns) (e ∷ es) dues there body h =
    let b = is_both (is_body_of n.own.kind n.own.defn) (list_all (λ (x : Node). is_body_of x.own.kind x.own.defn) ns) body in
    let here : slice_get all place ≡ Some n = let z : place ≡ place + 0 = omega arith in ap (slice_get all) z ∙ there 0 in
    both_are (is_fit n (leading place dues)) (are_fit (parts_from (suc place) ns es (behind place dues)))
    (both_are (is_body_of n.own.kind n.own.defn) (list_all (is_due_of (Some n)) (leading place dues)) b.0 (leading_fit all n place dues here h))
    (fit_from all (suc place) ns es (behind place dues) (λ k. let z : suc place + k ≡ place + suc k = omega arith in ap (slice_get all) z ∙ there (suc k)) b.1 (behind_fit all place dues h))

-- what is due of each model of a plan that can be made fits the model
pub parts_fit : (nodes : List Node) (es : List Entry) (dues : List Due) → IsTrue (is_proper nodes) → IsTrue (list_all (is_due_in nodes) dues) → are_fit (parts_from 0 nodes es dues) ≡ true
parts_fit nodes es dues proper fit = fit_from nodes 0 nodes es dues (λ k. let z : 0 + k ≡ k = omega arith in ap (slice_get nodes) z) (bodies nodes proper) fit
