-- Values that take no memory: by another name, and the first WHEN that is true.
use Rattle.std.proofs.Common.{◌≡◌, ℕ, zero, suc, ◌+◌, ◌<◌, Bool, true, false, if◌then◌else◌, List, [], ◌∷◌, take, length, IfSome, slice_index_or, refl, sym, ap, subst, ◌∙◌, arith}
use Rattle.std.specs.List.{fold}
use Rattle.std.specs.Option.{option_map}
use Rattle.std.specs.declared.option.Option.{Option}
use Rattle.std.specs.declared.option.Option.TheVariants.{None, Some}
use Rattle.mesh_base_values.specs.declared.values.Cell.{Cell}
use Rattle.mesh_spec_query.specs.Cells.{is_true, chosen}
use Rattle.mesh_eval_rows.specs.declared.plain.Plain.{Plain}
use Rattle.mesh_eval_rows.specs.Plain.{cell_of}
use Rattle.mesh_eval_expressions.specs.declared.bound.forms.BoundWhen.{BoundWhen}
use Rattle.mesh_eval_expressions.specs.bound.Meaning.{Given, bound_value, bound_when, bound_whens}
use Rattle.mesh_eval_expressions.proofs.Nodes.{when_is}

-- what is had of a value, by another name
pub same : (r : Option Plain) (x y : Cell) → IfSome r (λ p. cell_of p ≡ x) → x ≡ y → IfSome r (λ p. cell_of p ≡ y)
same r x y h e = subst (λ z. IfSome r (λ p. cell_of p ≡ z)) e h

-- of one that is there
pub found : (r : Option Plain) (p : Plain) (x : Cell) → IfSome r (λ p. cell_of p ≡ x) → r ≡ Some p → cell_of p ≡ x
found r p x h is = subst (λ o. IfSome o (λ p. cell_of p ≡ x)) is h

-- what was chosen stays
stays : (v : Cell) (ws : List (Cell × Cell)) → fold chosen (Some v) ws ≡ Some v
stays v [] = refl
stays v (w ∷ ws) = stays v ws

-- the first WHEN that is true, where none before it was
pub first_true : (ws : List BoundWhen) (i : ℕ) (w : BoundWhen) (g : Given) → i < length ws → w ≡ slice_index_or ws i w
    → fold chosen None (bound_whens (take i ws) g) ≡ None → is_true (bound_value w.test g) ≡ true → fold chosen None (bound_whens ws g) ≡ Some (bound_value w.value g)
first_true [] i w g inside is none test = absurd (omega arith)
first_true (x ∷ ws) zero w g inside is none test =
    ap (λ p. fold chosen (chosen None p) (bound_whens ws g)) (ap (λ y. bound_when y g) (sym is) ∙ when_is w g)
    ∙ ap (λ b. fold chosen (if b then Some (bound_value w.value g) else None) (bound_whens ws g)) test
    ∙ stays (bound_value w.value g) (bound_whens ws g)
first_true (x ∷ ws) (suc i) w g inside is none test = go (is_true (bound_value x.test g)) refl (λ n. first_true ws i w g (omega arith) is n test)
  where
    one : fold chosen (chosen None (bound_value x.test g, bound_value x.value g)) (bound_whens (take i ws) g) ≡ None
    one = ap (λ p. fold chosen (chosen None p) (bound_whens (take i ws) g)) (sym (when_is x g)) ∙ none

    go : (b : Bool) → is_true (bound_value x.test g) ≡ b → (fold chosen None (bound_whens (take i ws) g) ≡ None → fold chosen None (bound_whens ws g) ≡ Some (bound_value w.value g))
        → fold chosen None (bound_whens (x ∷ ws) g) ≡ Some (bound_value w.value g)
    go true e rest = absurd (let clash : Some (bound_value x.value g) ≡ None = sym (stays (bound_value x.value g) (bound_whens (take i ws) g)) ∙ ap (λ b. fold chosen (if b then Some (bound_value x.value g) else None) (bound_whens (take i ws) g)) (sym e) ∙ one in cc)
    go false e rest =
        ap (λ p. fold chosen (chosen None p) (bound_whens ws g)) (when_is x g)
        ∙ ap (λ b. fold chosen (if b then Some (bound_value x.value g) else None) (bound_whens ws g)) e
        ∙ rest (ap (λ b. fold chosen (if b then Some (bound_value x.value g) else None) (bound_whens (take i ws) g)) (sym e) ∙ one)

-- one more that isn't true
pub one_more : (ws : List BoundWhen) (i : ℕ) (w : BoundWhen) (g : Given) → i < length ws → w ≡ slice_index_or ws i w
    → fold chosen None (bound_whens (take i ws) g) ≡ None → is_true (bound_value w.test g) ≡ false → fold chosen None (bound_whens (take (i + 1) ws) g) ≡ None
one_more [] i w g inside is none test = absurd (omega arith)
one_more (x ∷ ws) zero w g inside is none test =
    ap (λ p. chosen None p) (ap (λ y. bound_when y g) (sym is) ∙ when_is w g)
    ∙ ap (λ b. if b then Some (bound_value w.value g) else None) test
one_more (x ∷ ws) (suc i) w g inside is none test = go (chosen None (bound_when x g)) refl (λ n. one_more ws i w g (omega arith) is n test)
  where
    plus : (i : ℕ) → suc i + 1 ≡ suc (i + 1)
    plus i = omega arith

    go : (o : Option Cell) → chosen None (bound_when x g) ≡ o → (fold chosen None (bound_whens (take i ws) g) ≡ None → fold chosen None (bound_whens (take (i + 1) ws) g) ≡ None)
        → fold chosen None (bound_whens (take (suc i + 1) (x ∷ ws)) g) ≡ None
    go (Some v) e rest = absurd (let clash : Some v ≡ None = sym (stays v (bound_whens (take i ws) g)) ∙ ap (λ o. fold chosen o (bound_whens (take i ws) g)) (sym e) ∙ none in cc)
    go None e rest =
        ap (λ n. fold chosen None (bound_whens (take n (x ∷ ws)) g)) (plus i)
        ∙ ap (λ o. fold chosen o (bound_whens (take (i + 1) ws) g)) e
        ∙ rest (ap (λ o. fold chosen o (bound_whens (take i ws) g)) (sym e) ∙ none)

-- the value of a WHEN that is true, and of ELSE
pub taken : (r : Option (Option Plain)) (x : Cell) (o : Option Cell) → IfSome r (λ found. option_map cell_of found ≡ Some x) → o ≡ Some x → IfSome r (λ found. option_map cell_of found ≡ o)
taken r x o h e = subst (λ z. IfSome r (λ found. option_map cell_of found ≡ z)) (sym e) h

pub chosen_of : (r : Option (Option Plain)) (found : Option Plain) (o : Option Cell) → IfSome r (λ found. option_map cell_of found ≡ o) → r ≡ Some found → option_map cell_of found ≡ o
chosen_of r found o h is = subst (λ z. IfSome z (λ found. option_map cell_of found ≡ o)) is h
