-- Parts of tables as the keys of a set.
use Rattle.std.proofs.Common.{◌≡◌, ℕ, ℤ, ◌+◌, ◌<◌, Bool, true, false, ◌&&◌, ◌||◌, cond, List, [], ◌∷◌, ◌++◌, length, take, get_or, refl, sym, ap, ◌∙◌}
use Rattle.std.specs.Cmp.Lexicographic.{slice_cmp}
use Rattle.std.specs.Ordering.{int_cmp, is_eq, ordering_reverse, ordering_then}
use Rattle.std.specs.declared.cmp.Ordering.{Ordering}
use Rattle.std.specs.declared.cmp.Ordering.TheVariants.{Less, Equal, Greater}
use Rattle.std.proofs.lemmas.Cmp.{int_cmp_total}
use Rattle.std.proofs.lemmas.List.{take_more}
use Rattle.std.proofs.lemmas.List.Folds.{list_any-append}
use Rattle.mesh_base_values.specs.Names.{name_cmp}
use Rattle.mesh_base_values.specs.declared.values.Name.{Name}
use Rattle.mesh_base.specs.declared.forgets.Forget.{Forget}
use Rattle.mesh_spec_changes.specs.due.Marks.{same_marks}
use Rattle.mesh_spec_changes.specs.due.Parts.{is_among, same_name, same_part, same_second}
use Rattle.mesh_plan_due.specs.Sets.{part_cmp}
use Rattle.mesh_plan_due.proofs.Rows.{turned}

then_eq : (a b : Ordering) → is_eq (ordering_then a b) ≡ (is_eq a && is_eq b)
then_eq Less b = refl
then_eq Equal b = refl
then_eq Greater b = refl

turned_seconds : (a b : ℤ) → same_second a b ≡ same_second b a
turned_seconds a b = ap is_eq (int_cmp_total.antisymm a b) ∙ go (int_cmp b a)
  where
    go : (o : Ordering) → is_eq (ordering_reverse o) ≡ is_eq o
    go Less = refl
    go Equal = refl
    go Greater = refl

swapped : (a b c : Bool) → ((a && b) && c) ≡ (c && (a && b))
swapped false b false = refl
swapped false b true = refl
swapped true false false = refl
swapped true false true = refl
swapped true true false = refl
swapped true true true = refl

pub key_is : (s e : ℤ) (o : Name) (a b : ℤ) (x : Name) → is_eq (part_cmp (s, e, o) (a, b, x)) ≡ (same_name x o && (same_second a s && same_second b e))
key_is s e o a b x =
    then_eq (ordering_then (int_cmp s a) (int_cmp e b)) (name_cmp o x)
    ∙ ap (λ t. t && same_name o x) (then_eq (int_cmp s a) (int_cmp e b))
    ∙ swapped (same_second s a) (same_second e b) (same_name o x)
    ∙ (λ i. turned o x i && (turned_seconds s a i && turned_seconds e b i))

or_turned : (a b : Bool) → cond a true b ≡ (b || (a || false))
or_turned true true = refl
or_turned true false = refl
or_turned false true = refl
or_turned false false = refl

pub added : (a b c : Bool) → a ≡ c → cond a true b ≡ (b || (c || false))
added a b c e = or_turned a b ∙ ap (λ x. b || (x || false)) e

pub none_added : (b : Bool) → b ≡ (b || (false || false))
none_added true = refl
none_added false = refl

pub among_more : (parts : List Forget) (i : ℕ) (x p : Forget) → i < length parts → x ≡ get_or parts i x → is_among (take (i + 1) parts) p ≡ (is_among (take i parts) p || is_among (x ∷ []) p)
among_more parts i x p inside here = ap (λ l. is_among l p) (take_more parts i x inside ∙ ap (λ y. take i parts ++ y ∷ []) (sym here)) ∙ list_any-append (same_part p) (take i parts) (x ∷ [])

-- lists of seconds are the same where they compare so
pub seconds_same : (xs ys : List ℤ) → is_eq (slice_cmp int_cmp xs ys) ≡ same_marks xs ys
seconds_same [] [] = refl
seconds_same [] (y ∷ ys) = refl
seconds_same (x ∷ xs) [] = refl
seconds_same (x ∷ xs) (y ∷ ys) = then_eq (int_cmp x y) (slice_cmp int_cmp xs ys) ∙ ap (λ b. same_second x y && b) (seconds_same xs ys)
