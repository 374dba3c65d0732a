-- One FROM item more, one SELECT more, one CTE more.
use Rattle.std.proofs.Common.{◌≡◌, ℕ, suc, ◌+◌, ◌<◌, List, [], ◌∷◌, ◌++◌, length, take, sym, ap, ◌∙◌, get_or, append-nil, append_assoc, arith, length-take}
use Rattle.std.specs.List.{flat_map}
use Rattle.std.proofs.lemmas.List.{take_more}
use Rattle.std.proofs.lemmas.Grind.{flat_map-append}
use Rattle.mesh_base.specs.declared.queries.FromItem.{FromItem}
use Rattle.mesh_base.specs.declared.queries.Select.{Select}
use Rattle.mesh_lineage.specs.Unsteady.{Test, item_breakers, items_breakers, least, lesser, select_breakers, selects_breakers}
use Rattle.mesh_lineage.proofs.Least.{least_append}

items_append : (may : Test) (s : Select) (place : ℕ) (xs ys : List FromItem) → items_breakers may s place (xs ++ ys) ≡ items_breakers may s place xs ++ items_breakers may s (length xs + place) ys
items_append may s place [] ys = let here : place ≡ length {A = FromItem} [] + place = omega arith in ap (λ n. items_breakers may s n ys) here
items_append may s place (x ∷ xs) ys =
    let next : length xs + suc place ≡ suc (length xs) + place = omega arith in
    ap (λ l. item_breakers may s place x x.rel ++ l) (items_append may s (suc place) xs ys ∙ ap (λ n. items_breakers may s (suc place) xs ++ items_breakers may s n ys) next)
    ∙ sym (append_assoc (item_breakers may s place x x.rel) (items_breakers may s (suc place) xs) (items_breakers may s (suc (length xs) + place) ys))

pub items_more : (may : Test) (s : Select) (from : List FromItem) (i : ℕ) (d : FromItem) → i < length from
    → least (items_breakers may s 0 (take (i + 1) from)) ≡ lesser (least (items_breakers may s 0 (take i from))) (least (item_breakers may s i (get_or from i d) ((get_or from i d).rel)))
items_more may s from i d inside =
    let far : length (take i from) + 0 ≡ i = omega (arith, length-take i from) in
    ap (λ l. least (items_breakers may s 0 l)) (take_more from i d inside)
    ∙ ap least (items_append may s 0 (take i from) (get_or from i d ∷ []))
    ∙ least_append (items_breakers may s 0 (take i from)) (items_breakers may s (length (take i from) + 0) (get_or from i d ∷ []))
    ∙ ap (λ n. lesser (least (items_breakers may s 0 (take i from))) (least (items_breakers may s n (get_or from i d ∷ [])))) far
    ∙ ap (λ l. lesser (least (items_breakers may s 0 (take i from))) (least l)) (append-nil (item_breakers may s i (get_or from i d) ((get_or from i d).rel)))

pub selects_more : (may : Test) (selects : List Select) (i : ℕ) (d : Select) → i < length selects
    → least (selects_breakers may (take (i + 1) selects)) ≡ lesser (least (selects_breakers may (take i selects))) (least (select_breakers may (get_or selects i d)))
selects_more may selects i d inside =
    ap (λ l. least (selects_breakers may l)) (take_more selects i d inside)
    ∙ ap least (flat_map-append (select_breakers may) (take i selects) (get_or selects i d ∷ []))
    ∙ least_append (selects_breakers may (take i selects)) (selects_breakers may (get_or selects i d ∷ []))
    ∙ ap (λ l. lesser (least (selects_breakers may (take i selects))) (least l)) (append-nil (select_breakers may (get_or selects i d)))

pub ctes_more : (may : Test) (ctes : List (List Select)) (i : ℕ) (d : List Select) → i < length ctes
    → least (flat_map (selects_breakers may) (take (i + 1) ctes)) ≡ lesser (least (flat_map (selects_breakers may) (take i ctes))) (least (selects_breakers may (get_or ctes i d)))
ctes_more may ctes i d inside =
    ap (λ l. least (flat_map (selects_breakers may) l)) (take_more ctes i d inside)
    ∙ ap least (flat_map-append (selects_breakers may) (take i ctes) (get_or ctes i d ∷ []))
    ∙ least_append (flat_map (selects_breakers may) (take i ctes)) (flat_map (selects_breakers may) (get_or ctes i d ∷ []))
    ∙ ap (λ l. lesser (least (flat_map (selects_breakers may) (take i ctes))) (least l)) (append-nil (selects_breakers may (get_or ctes i d)))
