-- The snapshots that a list names, by rank and name, as they are collected, and their places.
use Rattle.std.specs.Prelude.{ℕ, ◌+◌, List, [], ◌∷◌, map, Some, None, if◌then◌else◌}
use Rattle.std.specs.Cmp.{IsTotalOrder}
use Rattle.std.specs.List.{flat_map}
use Rattle.std.specs.Option.{option_to_list}
use Rattle.std.specs.Ordering.{is_eq, nat_cmp, ordering_then}
use Rattle.std.specs.declared.cmp.Ordering.{Ordering}
use Rattle.std.specs.declared.option.Option.{Option}
use Rattle.std.proofs.Common.{◌≡◌}
use Rattle.std.proofs.lemmas.Cmp.{nat_cmp_total, on_total, then_total}
use Rattle.std.proofs.lemmas.Map.Lookups.{exact_unsigned, CmpEqualImpliesEq}
use Rattle.mesh_list.specs.Keyed.{placed}
use Rattle.mesh_base_values.specs.Names.{name_cmp}
use Rattle.mesh_base_values.specs.NameOrder.{names_exact, names_total, then_equal}
use Rattle.mesh_base_values.specs.declared.values.Name.{Name}
use Rattle.mesh_base.specs.declared.snapshots.Node.{Node}
use Rattle.mesh_base.specs.declared.snapshots.Ref.{Ref}
use Rattle.mesh_base.specs.declared.snapshots.Snapshot.{Snapshot}
use Rattle.mesh_spec_changes.specs.listed.Listed.{rank_cmp, snapshot_itself}
use Rattle.mesh_category.specs.declared.versions.standing.Rank.{Rank}
use Rattle.mesh_category.specs.declared.versions.standing.Standing.{Standing}

-- by rank, and then by name
abbrev pub rank_order : Rank → Rank → Ordering
rank_order a b = ordering_then (nat_cmp a.rank b.rank) (name_cmp a.name b.name)

abbrev pub rank_of : Standing → Rank
rank_of s = record { rank = s.snapshot.now.rank; name = s.snapshot.now.name }

-- the snapshots that were collected
abbrev pub snapshot_of : Standing → Snapshot
snapshot_of s = s.snapshot.now

abbrev pub snapshots_of : List Standing → List Snapshot
snapshots_of all = map snapshot_of all

-- one more among snapshots by rank and name, where there is one
abbrev pub with_one : Option Snapshot → List Snapshot → List Snapshot
with_one None ss = ss
with_one (Some s) ss = placed rank_cmp snapshot_itself s ss

-- where the first snapshot of a name stands, counted from this place on
abbrev pub place_from : ℕ → Name → List Snapshot → Option ℕ
place_from place name [] = None
place_from place name (s ∷ ss) = if is_eq (name_cmp s.name name) then Some place else place_from (place + 1) name ss

-- the places of parents, by their names
abbrev pub places_by : (Name → Option ℕ) → List Ref → List ℕ
places_by place refs = flat_map (λ (r : Ref). option_to_list (place r.name)) refs

-- a snapshot as a model of a project, whose parents stand at their places
abbrev pub node_by : (Name → Option ℕ) → Snapshot → Node
node_by place s = record { own = s.own; parents = places_by place s.parents; rank = s.rank; fingerprint = s.fingerprint }

pub ranks_total : IsTotalOrder rank_order
ranks_total = then_total (on_total (λ (r : Rank). r.rank) nat_cmp_total) (on_total (λ (r : Rank). r.name) names_total)

pub ranks_exact : CmpEqualImpliesEq rank_order
ranks_exact a b h =
    let both = then_equal (nat_cmp a.rank b.rank) (name_cmp a.name b.name) h in
    let ranks : a.rank ≡ b.rank = exact_unsigned a.rank b.rank both.0 in
    let names : a.name ≡ b.name = names_exact a.name b.name both.1 in
    λ i. record { rank = ranks i; name = names i }
