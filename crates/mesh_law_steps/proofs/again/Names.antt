-- Names by their order, and the names of views.
use Rattle.std.proofs.Common.{◌≡◌, ℕ, Bool, true, false, cond, ◌⊎◌, inl, inr, List, [], ◌∷◌, ◌++◌, length, refl, sym, ap, ◌∙◌, subst, arith, length-append}
use Rattle.std.specs.Prelude.{codes}
use Rattle.std.specs.declared.cmp.Ordering.{Ordering}
use Rattle.std.specs.declared.cmp.Ordering.TheVariants.{Less, Equal, Greater}
use Rattle.mesh_list.specs.Keyed.{placed}
use Rattle.mesh_base_values.specs.Names.{name_cmp}
use Rattle.mesh_base_values.specs.NameOrder.{names_exact}
use Rattle.mesh_base_values.specs.Picked.{same_text}
use Rattle.mesh_base_values.specs.declared.values.Name.{Name}
use Rattle.mesh_law_query.proofs.Has.{Has}
use Rattle.mesh_spec_changes.proofs.listed.Lists.{placed_from, placed_itself, placed_keeps}
use Rattle.mesh_spec_changes.specs.Changes.{name_itself, names_by_order}
use Rattle.mesh_spec_changes.specs.Environments.{prod, view_in}

pub in_order : (ns : List Name) (n : Name) → Has n ns → Has n (names_by_order ns)
in_order [] n h = absurd h
in_order (m ∷ ms) n (inl e) = subst (λ (k : Name). Has k (placed name_cmp name_itself m (names_by_order ms))) e (placed_itself name_cmp name_itself m (names_by_order ms))
in_order (m ∷ ms) n (inr h) = go (name_cmp n m) refl (in_order ms n h)
  where
    go : (o : Ordering) → name_cmp n m ≡ o → Has n (names_by_order ms) → Has n (placed name_cmp name_itself m (names_by_order ms))
    go Equal e more = subst (λ (k : Name). Has k (placed name_cmp name_itself m (names_by_order ms))) (sym (names_exact n m e)) (placed_itself name_cmp name_itself m (names_by_order ms))
    go Less e more = placed_keeps name_cmp name_itself m (names_by_order ms) n more (λ q. absurd (let clash : Less ≡ Equal = sym e ∙ q in cc))
    go Greater e more = placed_keeps name_cmp name_itself m (names_by_order ms) n more (λ q. absurd (let clash : Greater ≡ Equal = sym e ∙ q in cc))

pub from_order : (ns : List Name) (n : Name) → Has n (names_by_order ns) → Has n ns
from_order [] n h = absurd h
from_order (m ∷ ms) n h = go (placed_from name_cmp name_itself m (names_by_order ms) n h) (from_order ms n)
  where
    go : (m ≡ n) ⊎ Has n (names_by_order ms) → (Has n (names_by_order ms) → Has n ms) → Has n (m ∷ ms)
    go (inl e) more = inl e
    go (inr k) more = inr (more k)

cut_end : (xs ys s : List ℕ) → xs ++ s ≡ ys ++ s → xs ≡ ys
cut_end [] [] s h = refl
cut_end [] (y ∷ ys) s h = absurd (omega (arith, ap length h, length-append ys s))
cut_end (x ∷ xs) [] s h = absurd (omega (arith, ap length h, length-append xs s))
cut_end (x ∷ xs) (y ∷ ys) s h =
    let first : x ≡ y = cc in
    let rest : xs ++ s ≡ ys ++ s = cc in
    let more : xs ≡ ys = cut_end xs ys s rest in
    λ i. first i ∷ more i

-- views of one environment that have one name are one model's
pub one_model : (env : List ℕ) (m n : Name) → view_in env m ≡ view_in env n → m ≡ n
one_model env m n h = go (same_text env prod) h
  where
    go : (b : Bool) → cond b m (record { schema = m.schema ++ (codes "__" ++ env); model = m.model }) ≡ cond b n (record { schema = n.schema ++ (codes "__" ++ env); model = n.model }) → m ≡ n
    go true e = e
    go false e =
        let schemas = cut_end m.schema n.schema (codes "__" ++ env) (ap (λ (k : Name). k.schema) e) in
        let models : m.model ≡ n.model = ap (λ (k : Name). k.model) e in
        λ i. record { schema = schemas i; model = models i }
