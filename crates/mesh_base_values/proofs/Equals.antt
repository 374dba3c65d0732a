-- What an order finds equal, and texts and names that are the same.
use Rattle.std.proofs.Common.{◌≡◌, ℕ, true, List, refl, ap, ◌∙◌}
use Rattle.std.specs.Cmp.{Equal-is}
use Rattle.std.specs.declared.cmp.Ordering.{Ordering}
use Rattle.std.specs.declared.cmp.Ordering.TheVariants.{Less, Equal, Greater}
use Rattle.std.specs.Ordering.{is_eq, ordering_reverse}
use Rattle.std.proofs.lemmas.Cmp.{tied_itself}
use Rattle.std.proofs.lemmas.Map.Lookups.{exact_bytes}
use Rattle.mesh_base_values.specs.Names.{name_cmp, text_cmp}
use Rattle.mesh_base_values.specs.NameOrder.{names_exact, names_total, texts_total}
use Rattle.mesh_base_values.specs.Picked.{same_text}
use Rattle.mesh_base_values.specs.declared.values.Name.{Name}

pub equal_of : (o : Ordering) → is_eq o ≡ true → o ≡ Equal
equal_of Less e = cc
equal_of Equal e = refl
equal_of Greater e = cc

pub self_equal : (o : Ordering) → o ≡ ordering_reverse o → is_eq o ≡ true
self_equal Less e = cc
self_equal Equal e = refl
self_equal Greater e = cc

pub eq_turned : (o : Ordering) → is_eq (ordering_reverse o) ≡ is_eq o
eq_turned Less = refl
eq_turned Equal = refl
eq_turned Greater = refl

pub text_is : (a b : List ℕ) → same_text a b ≡ true → a ≡ b
text_is a b h = exact_bytes a b ((Equal-is (text_cmp a b)).0 h)

pub text_itself : (a : List ℕ) → same_text a a ≡ true
text_itself a = ap is_eq (tied_itself texts_total a)

pub name_is : (a b : Name) → is_eq (name_cmp a b) ≡ true → a ≡ b
name_is a b h = names_exact a b ((Equal-is (name_cmp a b)).0 h)

pub one_name : (a b : Name) → a ≡ b → is_eq (name_cmp a b) ≡ true
one_name a b e = ap (λ (x : Name). is_eq (name_cmp x b)) e ∙ ap is_eq (tied_itself names_total b)
