-- A snapshot with all that it stands on, as a book has it.
use Rattle.std.specs.Prelude.{◌≡◌, ℕ, zero, suc, List, [], ◌∷◌, Some}
use Rattle.std.specs.Option.{option_map}
use Rattle.std.specs.declared.option.Option.{Option}
use Rattle.mesh_base.specs.Keys.{snapshot_ref}
use Rattle.mesh_base.specs.declared.snapshots.Ref.{Ref}
use Rattle.mesh_base.specs.declared.snapshots.Snapshot.{Snapshot}
use Rattle.mesh_house_book.specs.WellFormed.{snapshot_at}
use Rattle.mesh_spec_model.specs.Closures.{Closure, Closures, Model, Alone, with_parent}

-- the closures of the snapshots that these references name
abbrev pub parents_by : (Snapshot → Closure) → List Snapshot → List Ref → Closures
parents_by f all [] = Alone
parents_by f all (r ∷ rs) = with_parent (option_map f (snapshot_at all r)) (parents_by f all rs)

-- a snapshot's closure, down to so many generations
abbrev pub closed : List Snapshot → ℕ → Snapshot → Closure
closed all zero s = Model s.own Alone
closed all (suc depth) s = Model s.own (parents_by (closed all depth) all s.parents)

-- a snapshot's closure: it has as many generations above it as its rank says
abbrev pub closing : List Snapshot → Snapshot → Closure
closing all s = closed all s.rank s

-- the closure of the snapshot that a reference names
abbrev pub closure_at : List Snapshot → Ref → Option Closure
closure_at all r = option_map (closing all) (snapshot_at all r)

-- a book has this snapshot
abbrev pub IsSnapshot : List Snapshot → Snapshot → Type 0
IsSnapshot all s = snapshot_at all (snapshot_ref s) ≡ Some s

-- some snapshots have one of this reference, with the definition, the parents and the rank of another
pub record IsAlike (all : List Snapshot) (r : Ref) (p : Snapshot) : Type 0 where
  pub snapshot : Snapshot
  pub known : snapshot_at all r ≡ Some snapshot
  pub own : snapshot.own ≡ p.own
  pub parents : snapshot.parents ≡ p.parents
  pub rank : snapshot.rank ≡ p.rank
