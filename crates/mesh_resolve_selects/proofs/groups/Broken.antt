-- The first place where the rule is broken, from the end backwards.
use Rattle.std.proofs.Common.{◌≡◌, ℕ, ◌+◌, ◌-◌, ◌<◌, ◌≤◌, false, List, [], ◌∷◌, length, drop, get_or, refl, ap, sym, ◌∙◌, arith}
use Rattle.std.proofs.lemmas.List.{drop_all, drop_more}
use Rattle.std.specs.declared.option.Option.{Option}
use Rattle.std.specs.declared.option.Option.TheVariants.{None}
use Rattle.mesh_resolve_selects.specs.groups.Grouping.{Breaches, breaking, earliest}

no_marks : (bs : Breaches) → breaking [] bs ≡ []
no_marks [] = refl
no_marks (b ∷ bs) = refl

no_breaches : (ms : List ℕ) → breaking ms [] ≡ []
no_breaches [] = refl
no_breaches (m ∷ ms) = refl

-- the first place among those from the i-th on
abbrev pub FirstFrom : ℕ → List ℕ → Breaches → Option ℕ → Type 0
FirstFrom i marks breaches found = found ≡ earliest (breaking (drop i marks) (drop i breaches))

pub past_marks : (i : ℕ) (marks : List ℕ) (breaches : Breaches) → length marks ≤ i → FirstFrom i marks breaches None
past_marks i marks breaches le = ap earliest (sym (ap (λ ms. breaking ms (drop i breaches)) (drop_all i marks le) ∙ no_marks (drop i breaches)))

pub past_breaches : (i : ℕ) (marks : List ℕ) (breaches : Breaches) → length breaches ≤ i → FirstFrom i marks breaches None
past_breaches i marks breaches le = ap earliest (sym (ap (λ bs. breaking (drop i marks) bs) (drop_all i breaches le) ∙ no_breaches (drop i marks)))

-- what is no breach changes nothing
pub none_here : (i : ℕ) (marks : List ℕ) (breaches : Breaches) (found : Option ℕ) → 0 < i → i ≤ length marks → i ≤ length breaches → get_or breaches (i - 1) false ≡ false → FirstFrom i marks breaches found → FirstFrom (i - 1) marks breaches found
none_here i marks breaches found some le less not_here after =
    let lt : i - 1 < length marks = omega arith in
    let within : i - 1 < length breaches = omega arith in
    let next : i - 1 + 1 ≡ i = omega arith in
    after ∙ sym (ap earliest (
    ap (λ ms. breaking ms (drop (i - 1) breaches)) (drop_more marks (i - 1) 0 lt)
    ∙ ap (breaking (get_or marks (i - 1) 0 ∷ drop (i - 1 + 1) marks)) (drop_more breaches (i - 1) false within)
    ∙ ap (λ x. breaking (get_or marks (i - 1) 0 ∷ drop (i - 1 + 1) marks) (x ∷ drop (i - 1 + 1) breaches)) not_here
    ∙ ap (λ n. breaking (drop n marks) (drop n breaches)) next))
