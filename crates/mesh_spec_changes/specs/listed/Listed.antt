-- The project of a list of snapshots, as an environment has one.
use Rattle.std.specs.Prelude.{ℕ, Bool, ◌&&◌, nat_le, List, [], ◌∷◌, map, length}
use Rattle.std.specs.List.{flat_map}
use Rattle.std.specs.Option.{option_to_list}
use Rattle.std.specs.Ordering.{nat_cmp, ordering_then}
use Rattle.std.specs.declared.cmp.Ordering.{Ordering}
use Rattle.mesh_list.specs.Keyed.{ascends, first_at, placed}
use Rattle.mesh_base_values.specs.Names.{name_cmp}
use Rattle.mesh_base.specs.Keys.{ref_cmp, ref_name, snapshot_ref}
use Rattle.mesh_base.specs.declared.snapshots.Node.{Node}
use Rattle.mesh_base.specs.declared.snapshots.Ref.{Ref}
use Rattle.mesh_base.specs.declared.snapshots.Snapshot.{Snapshot}
use Rattle.mesh_house_book.specs.WellFormed.{are_kept, have_parents, snapshot_at}

-- A list that an environment may have: its entries are snapshots of the book, at most 4,096, their names ascend, so
-- that a model has one, and with an entry it has its parents.
abbrev pub is_list_fit : List Snapshot → List Ref → Bool
is_list_fit all list =
    are_kept all list
    && (nat_le (length list) 4096
    && (ascends name_cmp ref_name list && have_parents all list list))

-- snapshots stand by rank, and then by name
abbrev pub rank_cmp : Snapshot → Snapshot → Ordering
rank_cmp a b = ordering_then (nat_cmp a.rank b.rank) (name_cmp a.name b.name)

-- a snapshot is its own key
abbrev pub snapshot_itself : Snapshot → Snapshot
snapshot_itself s = s

-- these snapshots by rank and name
abbrev pub by_rank : List Snapshot → List Snapshot
by_rank [] = []
by_rank (s ∷ ss) = placed rank_cmp snapshot_itself s (by_rank ss)

-- the snapshots that the entries of a list name
abbrev pub named : List Snapshot → List Ref → List Snapshot
named all list = flat_map (λ r. option_to_list (snapshot_at all r)) list

-- the same by rank and name
abbrev pub entries : List Snapshot → List Ref → List Snapshot
entries all list = by_rank (named all list)

-- the places among some snapshots of those that these references name
abbrev pub places_among : List Snapshot → List Ref → List ℕ
places_among among refs = flat_map (λ r. option_to_list (first_at ref_cmp snapshot_ref r among)) refs

-- a snapshot as a model of a project: its parents are those at their places
abbrev pub as_node : List Snapshot → Snapshot → Node
as_node among s = record { own = s.own; parents = places_among among s.parents; rank = s.rank; fingerprint = s.fingerprint }

-- the models of the project of a list, one for each entry
abbrev pub listed : List Snapshot → List Ref → List Node
listed all list = map (as_node (entries all list)) (entries all list)
