-- One member more, behind the gap before it.
use Rattle.std.proofs.Common.{◌≡◌, ℕ, zero, suc, ◌+◌, ◌<◌, List, [], ◌∷◌, ◌++◌, length, map, take, get_or, refl, sym, ap, ◌∙◌, append_assoc, add-one, arith}
use Rattle.std.proofs.Math.Seq.{take-suc}
use Rattle.std.proofs.lemmas.List.{append-nil, length-map, length-take-le, map_push}
use Rattle.std.specs.Prelude.{codes}
use Rattle.std.specs.List.{flat_map}
use Rattle.std.proofs.lemmas.List.Concat.{flat_map-cons}
use Rattle.mesh_canon_text.specs.Text.{gap, members, spaced}

spaced_push : {A : Type 0} (f : A → List ℕ) (xs : List A) (x : A) → spaced f (xs ++ x ∷ []) ≡ spaced f xs ++ (32 ∷ f x)
unfolding spaced
spaced_push f [] x = flat_map-cons (λ y. codes " " ++ f y) x [] ∙ ap (λ ys. 32 ∷ ys) (append-nil (f x))
spaced_push f (y ∷ xs) x =
    flat_map-cons (λ z. codes " " ++ f z) y (xs ++ x ∷ [])
    ∙ ap (λ ys. (32 ∷ f y) ++ ys) (spaced_push f xs x)
    ∙ sym (append_assoc (32 ∷ f y) (flat_map (λ z. codes " " ++ f z) xs) (32 ∷ f x))
    ∙ ap (λ ys. ys ++ (32 ∷ f x)) (sym (flat_map-cons (λ z. codes " " ++ f z) y xs))

spaced_none : {A : Type 0} (f : A → List ℕ) → spaced f [] ≡ []
unfolding spaced
spaced_none f = refl

pub members_push : {A : Type 0} (f : A → List ℕ) (xs : List A) (x : A) (i : ℕ) → length xs ≡ i → members f (xs ++ x ∷ []) ≡ members f xs ++ (gap i ++ f x)
unfolding members
members_push f [] x zero e = ap (λ ys. f x ++ ys) (spaced_none f) ∙ append-nil (f x)
members_push f [] x (suc i) e = absurd (omega (arith, e))
members_push f (y ∷ xs) x zero e = absurd (omega (arith, e))
members_push f (y ∷ xs) x (suc i) e = ap (λ ys. f y ++ ys) (spaced_push f xs x) ∙ sym (append_assoc (f y) (spaced f xs) (32 ∷ f x))

-- a loop that writes members, one member on
pub one_more : {A : Type 0} (f : A → List ℕ) (old before between out : List ℕ) (all : List A) (x : A) (i : ℕ) → i < length all → x ≡ get_or all i x → before ≡ old ++ (91 ∷ members (λ t. t) (map f (take i all))) → between ≡ before ++ gap i → out ≡ between ++ f x → out ≡ old ++ (91 ∷ members (λ t. t) (map f (take (i + 1) all)))
one_more f old before between out all x i lt is p q r =
    let texts : map f (take (i + 1) all) ≡ map f (take i all) ++ f x ∷ [] =
    ap (λ n. map f (take n all)) (add-one i) ∙ ap (map f) (take-suc all i x lt ∙ ap (λ y. take i all ++ y ∷ []) (sym is)) ∙ map_push f (take i all) x in
    let count : length (map f (take i all)) ≡ i = length-map (take i all) f ∙ length-take-le i all (omega arith) in
    let m = ap (members (λ t. t)) texts ∙ members_push (λ t. t) (map f (take i all)) (f x) i count in
    let so_far : List ℕ = 91 ∷ members (λ t. t) (map f (take i all)) in
    r ∙ ap (λ ys. ys ++ f x) q ∙ ap (λ ys. (ys ++ gap i) ++ f x) p
    ∙ append_assoc (old ++ so_far) (gap i) (f x) ∙ append_assoc old so_far (gap i ++ f x)
    ∙ ap (λ ys. old ++ (91 ∷ ys)) (sym m)
