-- Parts in lists, and models whose objects are apart.
use Rattle.std.proofs.Common.{◌≡◌, ℤ, true, false, ◌&&◌, inl, inr, List, [], ◌∷◌, ap, sym, ◌∙◌, subst}
use Rattle.std.specs.Cmp.{Equal-is}
use Rattle.std.specs.Ordering.{int_cmp, is_eq}
use Rattle.std.proofs.lemmas.Cmp.{int_cmp_total, tied_itself}
use Rattle.std.proofs.lemmas.Map.Lookups.{exact_signed}
use Rattle.std.proofs.lemmas.Bool.{and_from as and_both}
use Rattle.mesh_list.proofs.Ascends.{and_left, and_right}
use Rattle.mesh_base_values.specs.Names.{name_cmp}
use Rattle.mesh_base_values.proofs.Equals.{name_is as object_is}
use Rattle.mesh_base.specs.declared.forgets.Forget.{Forget}
use Rattle.mesh_base.specs.declared.forgets.Forget.TheVariants.{Marks, Range}
use Rattle.mesh_law_query.proofs.Has.{Has, Has_to}
use Rattle.mesh_spec_changes.specs.due.Parts.{is_among, same_part, same_second}
use Rattle.mesh_spec_changes.specs.due.Plans.{Planned}
use Rattle.mesh_spec_promise.proofs.Seconds.{any_of}
use Rattle.mesh_law_changes.proofs.Recorded.{same_object}
use Rattle.mesh_law_changes.specs.along.Ready.{AreApart}
use Rattle.mesh_law_steps.proofs.opens.Lists.{of_all, some_passes}

pub second_itself : (a : ℤ) → same_second a a ≡ true
second_itself a = (Equal-is (int_cmp a a)).1 (tied_itself int_cmp_total a)

pub second_is : (a b : ℤ) → same_second a b ≡ true → a ≡ b
second_is a b h = exact_signed a b ((Equal-is (int_cmp a b)).0 h)

-- parts that are the same are one
pub part_is : (p q : Forget) → same_part p q ≡ true → p ≡ q
part_is (Range a start end) (Range b start' end') h =
    let object : a ≡ b = object_is a b (and_left (is_eq (name_cmp a b)) (same_second start start' && same_second end end') h) in
    let both : (same_second start start' && same_second end end') ≡ true = and_right (is_eq (name_cmp a b)) (same_second start start' && same_second end end') h in
    let starts : start ≡ start' = second_is start start' (and_left (same_second start start') (same_second end end') both) in
    let ends : end ≡ end' = second_is end end' (and_right (same_second start start') (same_second end end') both) in
    λ i. Range (object i) (starts i) (ends i)
part_is (Range a start end) (Marks b) h = absurd (let clash : false ≡ true = h in cc)
part_is (Marks a) (Range b start end) h = absurd (let clash : false ≡ true = h in cc)
part_is (Marks a) (Marks b) h = ap Marks (object_is a b h)

pub part_itself : (p : Forget) → same_part p p ≡ true
part_itself (Range a start end) = and_both _ _ (same_object a) (and_both _ _ (second_itself start) (second_itself end))
part_itself (Marks a) = same_object a

-- a part is among a list where it stands in it
pub among_has : (list : List Forget) (p : Forget) → is_among list p ≡ true → Has p list
among_has list p h = let (q, there, same) = some_passes (same_part p) list h in subst (λ (r : Forget). Has r list) (sym (part_is p q same)) there

pub has_among : (list : List Forget) (p : Forget) → Has p list → is_among list p ≡ true
has_among list p there = any_of (same_part p) list p (Has_to list p there) (part_itself p)

pub not_among : (list : List Forget) (p : Forget) → is_among list p ≡ false → Has p list → ⊥
not_among list p none there = let clash : true ≡ false = sym (has_among list p there) ∙ none in cc

-- of models that are apart, two of one object are one
pub one_of_object : (ps : List Planned) → AreApart ps → (p q : Planned) → Has p ps → Has q ps → p.object ≡ q.object → p ≡ q
one_of_object [] h p q k l same = absurd k
one_of_object (x ∷ xs) h p q (inl e) (inl f) same = sym e ∙ f
one_of_object (x ∷ xs) h p q (inl e) (inr l) same = absurd (of_all (λ (r : Planned). x.object ≡ r.object → ⊥) xs h.0 q l (ap (λ (r : Planned). r.object) e ∙ same))
one_of_object (x ∷ xs) h p q (inr k) (inl f) same = absurd (of_all (λ (r : Planned). x.object ≡ r.object → ⊥) xs h.0 p k (ap (λ (r : Planned). r.object) f ∙ sym same))
one_of_object (x ∷ xs) h p q (inr k) (inr l) same = one_of_object xs h.1 p q k l same
