-- The new fingerprints of a book's snapshots, put into a map one rank after another.
use Rattle.std.specs.Prelude.{ℕ, zero, suc, nat_eq, nat_le, List, [], ◌∷◌, map, Some, None, if◌then◌else◌}
use Rattle.std.specs.declared.option.Option.{Option}
use Rattle.std.specs.Ordering.{is_eq}
use Rattle.mesh_list.specs.Keyed.{placed}
use Rattle.mesh_base_values.specs.Names.{name_cmp}
use Rattle.mesh_base.specs.declared.forgets.Rename.{Rename}
use Rattle.mesh_base.specs.declared.snapshots.Ref.{Ref}
use Rattle.mesh_base.specs.declared.snapshots.Snapshot.{Snapshot}
use Rattle.mesh_base.specs.Keys.{ref_cmp, snapshot_ref}
use Rattle.mesh_house_book.specs.moves.Renames.{rename_old, renamed}
use Rattle.mesh_janitor.specs.declared.migrate.entries.Entry.{Entry}
use Rattle.mesh_janitor.specs.migrate.Migration.{rename_by, rename_new, twins_or}

-- an entry is found by the reference that its rename names
abbrev pub entry_old : Entry → Ref
entry_old e = e.rename.old

-- the renames of entries
abbrev pub renames_of : List Entry → List Rename
renames_of entries = map (λ e. e.rename) entries

-- the map with a snapshot's fingerprint over those that the map has
abbrev pub put : List Rename → Snapshot → List Rename
put renames s = placed ref_cmp rename_old (rename_by renames s) renames

-- the map after the snapshots of one rank
abbrev pub layer : ℕ → List Snapshot → List Rename → List Rename
layer rank [] renames = renames
layer rank (s ∷ ss) renames = layer rank ss (if nat_eq s.rank rank then put renames s else renames)

-- and after those of all ranks below a limit
abbrev pub layers : ℕ → List Snapshot → List Rename → List Rename
layers zero all renames = renames
layers (suc rank) all renames = layer rank all (layers rank all renames)

abbrev pub limit_above : ℕ → ℕ → ℕ
limit_above limit rank = if nat_le limit rank then suc rank else limit

-- a number that is above each rank
abbrev pub limit_from : ℕ → List Snapshot → ℕ
limit_from limit [] = limit
limit_from limit (s ∷ ss) = limit_from (limit_above limit s.rank) ss

-- a snapshot with the fingerprint that the map has
abbrev pub rename_at : List Rename → Snapshot → Rename
rename_at renames s = record { old = snapshot_ref s; new = (renamed renames (snapshot_ref s)).fingerprint }

-- the first of the renames of this one's model, which stand in front, that gives what this one gives
abbrev pub near_twin : Rename → List Rename → Option Rename
near_twin m [] = None
near_twin m (x ∷ xs) =
    if is_eq (name_cmp x.old.name m.old.name) then
    (if is_eq (ref_cmp (rename_new x) (rename_new m)) then Some x else near_twin m xs)
    else None

-- the first rename that gives what a later one of its model gives, with that one
abbrev pub near_twins : List Rename → Option (Rename × Rename)
near_twins [] = None
near_twins (m ∷ ms) = twins_or m (near_twin m ms) (near_twins ms)
