-- CTEs by the place of their name.
use Rattle.std.proofs.Common.{◌≡◌, ℕ, suc, ◌+◌, ◌<◌, Bool, true, false, ◌||◌, cond, List, [], ◌∷◌, ◌++◌, length, get_or, Option, None, Some, refl, sym, ap, ◌∙◌, arith}
use Rattle.std.specs.List.{list_any, slice_get}
use Rattle.std.specs.Option.{IfSome, option_map, is_some}
use Rattle.std.specs.BTreeMap.{BTreeMap, Updates, get}
use Rattle.std.specs.Cmp.{Equal-is}
use Rattle.std.proofs.lemmas.Map.Lookups.{exact_bytes}
use Rattle.std.proofs.lemmas.Option.{slice_get_read}
use Rattle.mesh_base.specs.declared.queries.Rel.TheVariants.{Cte}
use Rattle.mesh_base.specs.Outputs.{select_columns}
use Rattle.mesh_base_values.specs.Names.{text_cmp}
use Rattle.mesh_base_values.specs.Picked.{same_text}
use Rattle.mesh_resolve_selects.specs.declared.outputs.commons.Common.{Common}
use Rattle.mesh_resolve_selects.specs.outputs.Commons.{Found, cte_named, is_cte, place_named}

-- one has a name exactly where it has a place
pub has_place : (name : List ℕ) (cs : List Common) → list_any (is_cte name) cs ≡ is_some (place_named name cs)
has_place name [] = refl
has_place name (c ∷ cs) = by_first (same_text c.name name) (place_named name cs) (list_any (is_cte name) cs) (has_place name cs)
  where
    by_first : (b : Bool) (o : Option ℕ) (t : Bool) → t ≡ is_some o → (b || t) ≡ is_some (cond b (Some 0) (option_map suc o))
    by_first true o t more = refl
    by_first false None t more = more
    by_first false (Some n) t more = more

abbrev pub relation_of : ℕ → Common → Found
relation_of place c = (Cte place, select_columns c.selects)

-- the CTE at a place, counted from n
abbrev pub at_place : ℕ → List Common → Option ℕ → Option Found
at_place n cs None = None
at_place n cs (Some i) = option_map (relation_of (n + i)) (slice_get cs i)

-- what a name means is the CTE at its place
pub named_at : (n : ℕ) (name : List ℕ) (cs : List Common) → cte_named n cs name ≡ at_place n cs (place_named name cs)
named_at n name [] = refl
named_at n name (c ∷ cs) = by_first (same_text c.name name) (place_named name cs) (named_at (suc n) name cs)
  where
    here : n ≡ n + 0
    here = omega arith

    further : (i : ℕ) → suc n + i ≡ n + suc i
    further i = omega arith

    by_first : (b : Bool) (o : Option ℕ) → cte_named (suc n) cs name ≡ at_place (suc n) cs o
        → cond b (Some (relation_of n c)) (cte_named (suc n) cs name) ≡ at_place n (c ∷ cs) (cond b (Some 0) (option_map suc o))
    by_first true o more = ap (λ (m : ℕ). Some (relation_of m c)) here
    by_first false None more = more
    by_first false (Some i) more = more ∙ ap (λ (m : ℕ). option_map (relation_of m) (slice_get cs i)) (further i)

none_before : (i : ℕ) → 0 + i ≡ i
none_before i = omega arith

pub this_one : (name : List ℕ) (cs seen : List Common) (i : ℕ) (c : Common) → Some i ≡ place_named name cs → seen ≡ cs → i < length cs → c ≡ get_or seen i c
    → cte_named 0 cs name ≡ Some (relation_of i c)
this_one name cs seen i c place same lt is =
    named_at 0 name cs ∙ ap (at_place 0 cs) (sym place)
    ∙ ap (option_map (relation_of (0 + i))) (slice_get_read cs (length cs) i c refl lt (is ∙ ap (λ l. get_or l i c) same)) ∙ ap (λ (m : ℕ). Some (relation_of m c)) (none_before i)

-- a place is one in the list
pub place_within : (name : List ℕ) (cs : List Common) → IfSome (place_named name cs) (λ i. i < length cs)
place_within name [] = tt
place_within name (c ∷ cs) = by_first (same_text c.name name) (place_named name cs) (place_within name cs)
  where
    by_first : (b : Bool) (o : Option ℕ) → IfSome o (λ i. i < length cs) → IfSome (cond b (Some 0) (option_map suc o)) (λ i. i < suc (length cs))
    by_first true o more = omega arith
    by_first false None more = tt
    by_first false (Some i) more = omega (more, arith)

lacks_first : (b : Bool) (o : Option ℕ) → cond b (Some 0) (option_map suc o) ≡ None → (b ≡ false) × (o ≡ None)
lacks_first true o none = absurd (let clash : Some 0 ≡ None = none in cc)
lacks_first false None none = (refl, refl)
lacks_first false (Some n) none = absurd (let clash : Some (suc n) ≡ None = none in cc)

same_both : (a b name : List ℕ) → same_text a name ≡ true → same_text b name ≡ true → same_text a b ≡ true
same_both a b name p q =
    let one : a ≡ name = exact_bytes a name ((Equal-is (text_cmp a name)).0 p) in
    let two : b ≡ name = exact_bytes b name ((Equal-is (text_cmp b name)).0 q) in
    ap (same_text a) (two ∙ sym one) ∙ ap (λ l. same_text l a) one ∙ ap (same_text name) one ∙ ap (λ l. same_text l name) (sym one) ∙ p

-- where a name is new, one more CTE has the next place
pub next_place : (cs : List Common) (c : Common) (name : List ℕ) → place_named c.name cs ≡ None → place_named name (cs ++ c ∷ []) ≡ cond (same_text c.name name) (Some (length cs)) (place_named name cs)
next_place [] c name new = refl
next_place (x ∷ xs) c name new =
    let lacks = lacks_first (same_text x.name c.name) (place_named c.name xs) new in
    by_names (same_text x.name name) (same_text c.name name) refl refl lacks.0 (next_place xs c name lacks.1)
  where
    by_names : (p q : Bool) → same_text x.name name ≡ p → same_text c.name name ≡ q → same_text x.name c.name ≡ false
        → place_named name (xs ++ c ∷ []) ≡ cond q (Some (length xs)) (place_named name xs)
        → cond p (Some 0) (option_map suc (place_named name (xs ++ c ∷ []))) ≡ cond q (Some (suc (length xs))) (cond p (Some 0) (option_map suc (place_named name xs)))
    by_names true true here there apart more = absurd (let clash : true ≡ false = sym (same_both x.name c.name name here there) ∙ apart in cc)
    by_names true false here there apart more = refl
    by_names false true here there apart more = ap (option_map suc) more
    by_names false false here there apart more = ap (option_map suc) more

-- places by name stay right where a new name gets the next place
pub one_more_place : (old new : BTreeMap (List ℕ) ℕ) (cs more : List Common) (c : Common) (key : List ℕ) (n : ℕ) → ((name : List ℕ) → get text_cmp old name ≡ place_named name cs)
    → Updates text_cmp old new key (Some n) → key ≡ c.name → n ≡ length cs → more ≡ cs ++ c ∷ [] → place_named c.name cs ≡ None → (name : List ℕ) → get text_cmp new name ≡ place_named name more
one_more_place old new cs more c key n right updates is place all none name =
    updates.0 name ∙ ap (cond (same_text key name) (Some n)) (right name)
    ∙ ap (λ k. cond (same_text k name) (Some n) (place_named name cs)) is ∙ ap (λ m. cond (same_text c.name name) (Some m) (place_named name cs)) place
    ∙ sym (next_place cs c name none) ∙ ap (place_named name) (sym all)

-- a name that no CTE has has no place
pub no_place : (name : List ℕ) (cs : List Common) → list_any (is_cte name) cs ≡ false → place_named name cs ≡ None
no_place name cs none = by_place (place_named name cs) (sym (has_place name cs) ∙ none)
  where
    by_place : (o : Option ℕ) → is_some o ≡ false → o ≡ None
    by_place None none = refl
    by_place (Some i) none = cc
