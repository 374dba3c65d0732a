-- Records by kind and name, what is found of them, and what writes make of them.
use Rattle.std.proofs.Common.{◌≡◌, ℕ, List, [], ◌∷◌, map, filter, Some, None}
use Rattle.std.specs.Prelude.{◌==◌}
use Rattle.std.specs.declared.option.Option.{Option}
use Rattle.std.specs.declared.cmp.Ordering.{Ordering}
use Rattle.std.specs.Ordering.{nat_cmp, ordering_then}
use Rattle.std.specs.Cmp.{IsTotalOrder}
use Rattle.std.proofs.lemmas.Cmp.{nat_cmp_total, on_total, then_total}
use Rattle.std.proofs.lemmas.Map.Lookups.{CmpEqualImpliesEq, exact_bytes, exact_unsigned}
use Rattle.mesh_list.specs.Keyed.{found, placed, without}
use Rattle.mesh_base_values.specs.Names.{text_cmp}
use Rattle.mesh_base_values.specs.NameOrder.{texts_total, then_equal}
use Rattle.mesh_keep.specs.declared.kept.Kept.{Kept}
use Rattle.mesh_keep.specs.declared.kept.Place.{Place}
use Rattle.mesh_keep.specs.declared.kept.Record.{Record}
use Rattle.mesh_keep.specs.declared.kept.Write.{Write}

-- by kind, and then by the bytes of the name
abbrev pub place_cmp : Place → Place → Ordering
place_cmp a b = ordering_then (nat_cmp a.kind b.kind) (text_cmp a.name b.name)

-- where a record is kept
abbrev pub kept_place : Kept → Place
kept_place k = record { kind = k.kind; name = k.name }

pub places_total : IsTotalOrder place_cmp
places_total = then_total (on_total (λ (p : Place). p.kind) nat_cmp_total) (on_total (λ (p : Place). p.name) texts_total)

pub places_exact : CmpEqualImpliesEq place_cmp
places_exact a b h =
    let both = then_equal (nat_cmp a.kind b.kind) (text_cmp a.name b.name) h in
    let kinds : a.kind ≡ b.kind = exact_unsigned a.kind b.kind both.0 in
    let names : a.name ≡ b.name = exact_bytes a.name b.name both.1 in
    λ i. record { kind = kinds i; name = names i }

-- a record without its kind
abbrev pub as_record : Kept → Record
as_record k = record { name = k.name; body = k.body }

-- the body of a record
abbrev pub body_of : Option Kept → Option (List ℕ)
body_of None = None
body_of (Some k) = Some k.body

-- the body of the record of that kind and name
abbrev pub body_at : List Kept → ℕ → List ℕ → Option (List ℕ)
body_at kept kind name = body_of (found place_cmp kept_place (record { kind = kind; name = name }) kept)

-- the records of that kind
abbrev pub records_of : ℕ → List Kept → List Record
records_of kind kept = map as_record (filter (λ k. k.kind == kind) kept)

-- the records with this one, or without any of its kind and name
abbrev pub put : List Kept → ℕ → List ℕ → Option (List ℕ) → List Kept
put kept kind name None = without place_cmp kept_place (record { kind = kind; name = name }) kept
put kept kind name (Some body) = placed place_cmp kept_place (record { kind = kind; name = name; body = body }) kept

abbrev pub write_one : List Kept → Write → List Kept
write_one kept w = put kept w.kind w.name w.body

-- the records with all writes, one after another
abbrev pub written : List Kept → List Write → List Kept
written kept [] = kept
written kept (w ∷ ws) = written (write_one kept w) ws
