-- What the items of a book and the tables of a source are found by, and the order of these keys.
use Rattle.std.proofs.Common.{◌≡◌, ℕ, List}
use Rattle.std.specs.declared.cmp.Ordering.{Ordering}
use Rattle.std.specs.Ordering.{ordering_then}
use Rattle.std.specs.Cmp.{IsTotalOrder}
use Rattle.std.proofs.lemmas.Cmp.{on_total, then_total}
use Rattle.std.proofs.lemmas.Map.Lookups.{exact_bytes, CmpEqualImpliesEq}
use Rattle.mesh_base_values.specs.declared.values.Name.{Name}
use Rattle.mesh_base.specs.declared.jobs.Input.{Input}
use Rattle.mesh_base.specs.declared.snapshots.Ref.{Ref}
use Rattle.mesh_base.specs.declared.snapshots.Snapshot.{Snapshot}
use Rattle.mesh_base.specs.declared.snapshots.Env.{Env}
use Rattle.mesh_base_values.specs.Names.{text_cmp, name_cmp}
use Rattle.mesh_base_values.specs.NameOrder.{then_equal, texts_total, names_total, names_exact}

-- by name, and then by fingerprint
abbrev pub ref_cmp : Ref → Ref → Ordering
ref_cmp a b = ordering_then (name_cmp a.name b.name) (text_cmp a.fingerprint b.fingerprint)

-- a reference by itself
abbrev pub ref_itself : Ref → Ref
ref_itself r = r

-- the model of a reference
abbrev pub ref_name : Ref → Name
ref_name r = r.name

-- snapshots are found by name and fingerprint
abbrev pub snapshot_ref : Snapshot → Ref
snapshot_ref s = record { name = s.name; fingerprint = s.fingerprint }

-- environments are found by name
abbrev pub env_name : Env → List ℕ
env_name e = e.name

-- tables of a source are found by name
abbrev pub input_name : Input → Name
input_name i = i.name

pub refs_total : IsTotalOrder ref_cmp
refs_total = then_total (on_total (λ (r : Ref). r.name) names_total) (on_total (λ (r : Ref). r.fingerprint) texts_total)

pub refs_exact : CmpEqualImpliesEq ref_cmp
refs_exact a b h =
    let both = then_equal (name_cmp a.name b.name) (text_cmp a.fingerprint b.fingerprint) h in
    let names : a.name ≡ b.name = names_exact a.name b.name both.0 in
    let fingerprints : a.fingerprint ≡ b.fingerprint = exact_bytes a.fingerprint b.fingerprint both.1 in
    λ i. record { name = names i; fingerprint = fingerprints i }
