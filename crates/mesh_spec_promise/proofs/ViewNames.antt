-- A view's name tells its environment and its model.
use Rattle.std.proofs.Common.{◌≡◌, ℕ, suc, ◌-◌, Bool, true, false, cond, not, ◌&&◌, ◌==◌, nat_eq, List, [], ◌∷◌, ◌++◌, length, drop, refl, sym, ◌∙◌, ap, subst, arith}
use Rattle.std.specs.List.{ends_with}
use Rattle.std.specs.Cmp.Lexicographic.{pointwise}
use Rattle.std.proofs.lemmas.Bool.{not-true as not_true, or_parts as or_none}
use Rattle.mesh_list.proofs.Ascends.{and_left, and_right}
use Rattle.mesh_base_values.specs.Names.{begins_with, has_two_underscores}
use Rattle.mesh_base_values.specs.Picked.{same_text}
use Rattle.mesh_base_values.specs.declared.values.Name.{Name}
use Rattle.mesh_base_values.proofs.Equals.{text_is as same_is}
use Rattle.mesh_base.specs.rules.Proper.{is_plain_schema}
use Rattle.mesh_spec_changes.specs.Environments.{prod, view_in}

-- no two underscores adjoin, and the last letter is none
abbrev Plain : List ℕ → Type 0
Plain [] = Unit {0}
Plain (x ∷ []) = ¬ (x ≡ 95)
Plain (x ∷ y ∷ ys) = (x ≡ 95 → y ≡ 95 → ⊥) × Plain (y ∷ ys)

plain_tail : (x : ℕ) (xs : List ℕ) → Plain (x ∷ xs) → Plain xs
plain_tail x [] p = tt
plain_tail x (y ∷ ys) p = p.1

plain_not : (b f : List ℕ) → Plain (b ++ 95 ∷ 95 ∷ f) → ⊥
plain_not [] f p = p.0 refl refl
plain_not (x ∷ xs) f p = plain_not xs f (plain_tail x (xs ++ 95 ∷ 95 ∷ f) p)

split : (a b e f : List ℕ) → Plain a → Plain b → a ++ 95 ∷ 95 ∷ e ≡ b ++ 95 ∷ 95 ∷ f → (a ≡ b) × (e ≡ f)
split [] [] e f p q h = (refl, let g : e ≡ f = cc in g)
split [] (y ∷ []) e f p q h = absurd (q (let g : y ≡ 95 = cc in g))
split [] (y ∷ z ∷ zs) e f p q h = absurd (q.0 (let g : y ≡ 95 = cc in g) (let g : z ≡ 95 = cc in g))
split (x ∷ []) [] e f p q h = absurd (p (let g : x ≡ 95 = cc in g))
split (x ∷ z ∷ zs) [] e f p q h = absurd (p.0 (let g : x ≡ 95 = cc in g) (let g : z ≡ 95 = cc in g))
split (x ∷ xs) (y ∷ ys) e f p q h =
    let first : x ≡ y = cc in
    let rest : xs ++ 95 ∷ 95 ∷ e ≡ ys ++ 95 ∷ 95 ∷ f = cc in
    let both = split xs ys e f (plain_tail x xs p) (plain_tail y ys q) rest in
    (λ i. first i ∷ both.0 i, both.1)

-- the test tells so
plain_says : (s : List ℕ) → has_two_underscores s ≡ false → ends_with nat_eq s (95 ∷ []) ≡ false → Plain s
plain_says [] h e = tt
plain_says (x ∷ []) h e = λ is. let f : ends_with nat_eq (x ∷ []) (95 ∷ []) ≡ true = ap (λ (n : ℕ). ends_with nat_eq (n ∷ []) (95 ∷ [])) is in let g : true ≡ false = sym f ∙ e in cc
plain_says (x ∷ y ∷ ys) h e = (
  λ a b. let parts = or_none ((x == 95) && begins_with 95 (y ∷ ys)) (has_two_underscores (y ∷ ys)) h in
      let f : ((x == 95) && (y == 95)) ≡ true = (λ i. (a i == 95) && (b i == 95)) in
      let g : true ≡ false = sym f ∙ parts.0 in cc,
  plain_says (y ∷ ys) (or_none ((x == 95) && begins_with 95 (y ∷ ys)) (has_two_underscores (y ∷ ys)) h).1 (sym (ap (λ (l : List ℕ). pointwise nat_eq (95 ∷ []) l) cut) ∙ e),
)
  where
    cut : drop (length (x ∷ y ∷ ys) - 1) (x ∷ y ∷ ys) ≡ drop (length (y ∷ ys) - 1) (y ∷ ys)
    cut = let n : length (x ∷ y ∷ ys) - 1 ≡ suc (length (y ∷ ys) - 1) = omega arith in ap (λ (k : ℕ). drop k (x ∷ y ∷ ys)) n

plain_of : (m : Name) → is_plain_schema m.schema ≡ true → Plain m.schema
plain_of m h = plain_says m.schema (not_true _ (and_left (not (has_two_underscores m.schema)) _ h)) (not_true _ (and_right (not (has_two_underscores m.schema)) _ h))

pub view_names : (e f : List ℕ) (m n : Name) → is_plain_schema m.schema ≡ true → is_plain_schema n.schema ≡ true → view_in e m ≡ view_in f n → (e ≡ f) × (m ≡ n)
view_names e f m n pm pn h = go (same_text e prod) (same_text f prod) refl refl h
  where
    go : (a b : Bool) → same_text e prod ≡ a → same_text f prod ≡ b → cond a m (record { schema = m.schema ++ 95 ∷ 95 ∷ e; model = m.model }) ≡ cond b n (record { schema = n.schema ++ 95 ∷ 95 ∷ f; model = n.model }) → (e ≡ f) × (m ≡ n)
    go true true s t k = (same_is e prod s ∙ sym (same_is f prod t), k)
    go true false s t k = absurd (plain_not n.schema f (subst Plain (ap (λ (q : Name). q.schema) k) (plain_of m pm)))
    go false true s t k = absurd (plain_not m.schema e (subst Plain (sym (ap (λ (q : Name). q.schema) k)) (plain_of n pn)))
    go false false s t k =
        let both = split m.schema n.schema e f (plain_of m pm) (plain_of n pn) (ap (λ (q : Name). q.schema) k) in
        let models : m.model ≡ n.model = ap (λ (q : Name). q.model) k in
        (both.1, λ i. record { schema = both.0 i; model = models i })
