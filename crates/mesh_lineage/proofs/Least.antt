-- The least of some names.
use Rattle.std.proofs.Common.{◌≡◌, List, [], ◌∷◌, ◌++◌, Some, None, refl, sym, ap, ◌∙◌}
use Rattle.std.specs.declared.cmp.Ordering.{Ordering}
use Rattle.std.specs.declared.cmp.Ordering.TheVariants.{Less, Equal, Greater}
use Rattle.std.specs.declared.option.Option.{Option}
use Rattle.std.specs.Ordering.{ordering_reverse}
use Rattle.mesh_base_values.specs.declared.values.Name.{Name}
use Rattle.mesh_base_values.specs.Names.{name_cmp}
use Rattle.mesh_base_values.specs.NameOrder.{names_exact, names_total}
use Rattle.mesh_lineage.specs.Unsteady.{least, lesser, lesser_by}

abbrev of_two : Name → Name → Name
of_two a b = lesser_by (name_cmp a b) a b

names_assoc : (a b c : Name) → of_two (of_two a b) c ≡ of_two a (of_two b c)
names_assoc a b c = by_orders (name_cmp a b) refl (name_cmp b c) refl
  where
    by_orders : (o : Ordering) → name_cmp a b ≡ o → (p : Ordering) → name_cmp b c ≡ p → of_two (lesser_by o a b) c ≡ of_two a (lesser_by p b c)
    by_orders Less e Less f = ap (λ o. lesser_by o a c) (names_total.trans a b c e f) ∙ sym (ap (λ o. lesser_by o a b) e)
    by_orders Less e Equal f = ap (λ o. lesser_by o a c) (ap (name_cmp a) (sym (names_exact b c f)) ∙ e) ∙ sym (ap (λ o. lesser_by o a b) e)
    by_orders Less e Greater f = refl
    by_orders Equal e Less f = ap (λ o. lesser_by o a c) (ap (λ x. name_cmp x c) (names_exact a b e) ∙ f) ∙ sym (ap (λ o. lesser_by o a b) e)
    by_orders Equal e Equal f = ap (λ o. lesser_by o a c) (ap (λ x. name_cmp x c) (names_exact a b e) ∙ f) ∙ sym (ap (λ o. lesser_by o a b) e)
    by_orders Equal e Greater f = refl
    by_orders Greater e Less f = ap (λ o. lesser_by o b c) f ∙ sym (ap (λ o. lesser_by o a b) e)
    by_orders Greater e Equal f = ap (λ o. lesser_by o b c) f ∙ sym (ap (λ o. lesser_by o a b) e)
    by_orders Greater e Greater f =
        let back : name_cmp c a ≡ Less = names_total.trans c b a (names_total.antisymm c b ∙ ap ordering_reverse f) (names_total.antisymm b a ∙ ap ordering_reverse e) in
        ap (λ o. lesser_by o b c) f ∙ sym (ap (λ o. lesser_by o a c) (names_total.antisymm a c ∙ ap ordering_reverse back))

pub lesser_assoc : (a b c : Option Name) → lesser (lesser a b) c ≡ lesser a (lesser b c)
lesser_assoc None b c = refl
lesser_assoc (Some a) None c = refl
lesser_assoc (Some a) (Some b) None = refl
lesser_assoc (Some a) (Some b) (Some c) = ap Some (names_assoc a b c)

pub lesser_none : (a : Option Name) → lesser a None ≡ a
lesser_none None = refl
lesser_none (Some a) = refl

pub least_append : (xs ys : List Name) → least (xs ++ ys) ≡ lesser (least xs) (least ys)
least_append [] ys = refl
least_append (x ∷ xs) ys = ap (lesser (Some x)) (least_append xs ys) ∙ sym (lesser_assoc (Some x) (least xs) (least ys))
