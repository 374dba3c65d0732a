-- The order of names is total, and ties only a name with itself.
use Rattle.std.proofs.Common.{◌≡◌, refl}
use Rattle.std.specs.declared.cmp.Ordering.{Ordering}
use Rattle.std.specs.declared.cmp.Ordering.TheVariants.{Less, Equal, Greater}
use Rattle.std.specs.Ordering.{ordering_then}
use Rattle.std.specs.Cmp.{IsTotalOrder}
use Rattle.std.specs.Cmp.Lexicographic.{lists_total}
use Rattle.std.proofs.lemmas.Cmp.{nat_cmp_total, on_total, then_total}
use Rattle.std.proofs.lemmas.Map.Lookups.{exact_bytes, CmpEqualImpliesEq}
use Rattle.mesh_base_values.specs.declared.values.Name.{Name}
use Rattle.mesh_base_values.specs.Names.{text_cmp, name_cmp}

pub then_equal : (o r : Ordering) → ordering_then o r ≡ Equal → (o ≡ Equal) × (r ≡ Equal)
then_equal Less r e = cc
then_equal Equal r e = (refl, e)
then_equal Greater r e = cc

pub texts_total : IsTotalOrder text_cmp
texts_total = lists_total nat_cmp_total

pub names_total : IsTotalOrder name_cmp
names_total = then_total (on_total (λ (n : Name). n.schema) texts_total) (on_total (λ (n : Name). n.model) texts_total)

pub names_exact : CmpEqualImpliesEq name_cmp
names_exact a b h =
    let both = then_equal (text_cmp a.schema b.schema) (text_cmp a.model b.model) h in
    let schemas : a.schema ≡ b.schema = exact_bytes a.schema b.schema both.0 in
    let models : a.model ≡ b.model = exact_bytes a.model b.model both.1 in
    λ i. record { schema = schemas i; model = models i }
