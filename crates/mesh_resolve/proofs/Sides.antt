-- Columns that are the same, by name and by type.
use Rattle.std.proofs.Common.{◌≡◌, Bool, IsTrue, true, ◌&&◌, ◌↔◌, List, [], ◌∷◌, refl, sym, ap, ◌∙◌}
use Rattle.std.specs.Ordering.{is_eq}
use Rattle.std.proofs.lemmas.Bool.{and_from}
use Rattle.std.proofs.lemmas.Cmp.{tied_itself}
use Rattle.mesh_list.proofs.Ascends.{and_left, and_right}
use Rattle.mesh_base_values.specs.NameOrder.{texts_total}
use Rattle.mesh_base_values.specs.Picked.{same_text}
use Rattle.mesh_base_values.specs.Types.{same_type}
use Rattle.mesh_base_values.specs.declared.values.ColType.{ColType}
use Rattle.mesh_base_values.specs.declared.values.ColType.TheVariants as types
use Rattle.mesh_base_values.specs.declared.values.Column.{Column}
use Rattle.mesh_base_values.proofs.Equals.{text_is}
use Rattle.mesh_base_values.proofs.Tests.{same_truth as by_truth}
use Rattle.mesh_resolve.specs.Owns.{are_same_columns}

type_itself : (k : ColType) → same_type k k ≡ true
type_itself types.Int = refl
type_itself types.Text = refl
type_itself types.Date = refl
type_itself types.Bool = refl

type_is : (a b : ColType) → same_type a b ≡ true → a ≡ b
type_is types.Int types.Int e = refl
type_is types.Text types.Text e = refl
type_is types.Date types.Date e = refl
type_is types.Bool types.Bool e = refl
type_is types.Int types.Text e = absurd (cc)
type_is types.Int types.Date e = absurd (cc)
type_is types.Int types.Bool e = absurd (cc)
type_is types.Text types.Int e = absurd (cc)
type_is types.Text types.Date e = absurd (cc)
type_is types.Text types.Bool e = absurd (cc)
type_is types.Date types.Int e = absurd (cc)
type_is types.Date types.Text e = absurd (cc)
type_is types.Date types.Bool e = absurd (cc)
type_is types.Bool types.Int e = absurd (cc)
type_is types.Bool types.Text e = absurd (cc)
type_is types.Bool types.Date e = absurd (cc)

columns_itself : (xs : List Column) → are_same_columns xs xs ≡ true
columns_itself [] = refl
columns_itself (x ∷ xs) =
    and_from (same_text x.name x.name) (same_type x.kind x.kind && are_same_columns xs xs) (ap is_eq (tied_itself texts_total x.name))
    (and_from (same_type x.kind x.kind) (are_same_columns xs xs) (type_itself x.kind) (columns_itself xs))

columns_are : (xs ys : List Column) → are_same_columns xs ys ≡ true → xs ≡ ys
columns_are [] [] e = refl
columns_are [] (y ∷ ys) e = absurd (cc)
columns_are (x ∷ xs) [] e = absurd (cc)
columns_are (x ∷ xs) (y ∷ ys) e =
    let names = text_is x.name y.name (and_left (same_text x.name y.name) (same_type x.kind y.kind && are_same_columns xs ys) e) in
    let rest = and_right (same_text x.name y.name) (same_type x.kind y.kind && are_same_columns xs ys) e in
    let kinds = type_is x.kind y.kind (and_left (same_type x.kind y.kind) (are_same_columns xs ys) rest) in
    let more = columns_are xs ys (and_right (same_type x.kind y.kind) (are_same_columns xs ys) rest) in
    λ i. record { name = names i; kind = kinds i } ∷ more i

-- a test that says whether they are one
pub same_exactly : (b : Bool) (xs ys : List Column) → IsTrue b ↔ (xs ≡ ys) → b ≡ are_same_columns xs ys
same_exactly b xs ys h =
    by_truth b (are_same_columns xs ys)
    (λ t. ap (are_same_columns xs) (sym (h.0 t)) ∙ columns_itself xs)
    (λ t. h.1 (columns_are xs ys t))
