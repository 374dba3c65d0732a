-- What is found in a book after a snapshot is put.
use Rattle.std.proofs.Common.{◌≡◌, Bool, true, false, cond, Some, None, refl, sym, ◌∙◌, ap}
use Rattle.std.specs.declared.option.Option.{Option}
use Rattle.std.specs.Ordering.{is_eq}
use Rattle.mesh_list.proofs.Found.{found-placed}
use Rattle.mesh_base_values.specs.Names.{name_cmp}
use Rattle.mesh_base_values.specs.NameOrder.{names_exact}
use Rattle.mesh_base_values.specs.declared.values.Name.{Name}
use Rattle.mesh_base_values.proofs.Equals.{name_is as object_is}
use Rattle.mesh_base.specs.Keys.{ref_cmp, refs_exact, snapshot_ref}
use Rattle.mesh_base.specs.declared.snapshots.Ref.{Ref}
use Rattle.mesh_base.specs.declared.snapshots.Snapshot.{Snapshot}
use Rattle.mesh_house_book.specs.Changes.{new_version, put_for, put_snapshot, version_object, with_version}
use Rattle.mesh_house_book.specs.WellFormed.{snapshot_at}
use Rattle.mesh_house_book.specs.declared.book.Book.{Book}
use Rattle.mesh_house_book.specs.declared.versions.Version.{Version}
use Rattle.mesh_house.specs.World.{version_of}
use Rattle.mesh_spec_promise.proofs.Found.{found-exchanged}
use Rattle.mesh_law_changes.specs.along.Ready.{put_version}

pub snapshot_after : (b : Book) (s : Snapshot) (r : Ref) → snapshot_at (put_snapshot b s).snapshots r ≡ cond (is_eq (ref_cmp (snapshot_ref s) r)) (Some s) (snapshot_at b.snapshots r)
snapshot_after b s r = go (snapshot_at b.snapshots (snapshot_ref s)) refl
  where
    go : (o : Option Snapshot) → snapshot_at b.snapshots (snapshot_ref s) ≡ o → snapshot_at (put_for o ref_cmp snapshot_ref s b.snapshots) r ≡ cond (is_eq (ref_cmp (snapshot_ref s) r)) (Some s) (snapshot_at b.snapshots r)
    go None e = found-placed ref_cmp refs_exact snapshot_ref s r b.snapshots
    go (Some old) e = found-exchanged ref_cmp refs_exact snapshot_ref s r old b.snapshots e

-- its object has a version, the one from before or a new one
pub version_after : (b : Book) (s : Snapshot) (name : Name) → version_of (put_snapshot b s) name ≡ cond (is_eq (name_cmp s.object name)) (Some (put_version (version_of b name) name)) (version_of b name)
version_after b s name = go (version_of b s.object) refl
  where
    new : version_of b s.object ≡ None → (c : Bool) → is_eq (name_cmp s.object name) ≡ c → cond c (Some (new_version s.object)) (version_of b name) ≡ cond c (Some (put_version (version_of b name) name)) (version_of b name)
    new e false f = refl
    new e true f =
        let same : s.object ≡ name = object_is s.object name f in
        ap (λ (n : Name). Some (new_version n)) same ∙ sym (ap (λ o. Some (put_version o name)) (ap (version_of b) (sym same) ∙ e))

    old : (v : Version) → version_of b s.object ≡ Some v → (c : Bool) → is_eq (name_cmp s.object name) ≡ c → version_of b name ≡ cond c (Some (put_version (version_of b name) name)) (version_of b name)
    old v e false f = refl
    old v e true f =
        let there : version_of b name ≡ Some v = ap (version_of b) (sym (object_is s.object name f)) ∙ e in
        there ∙ sym (ap (λ o. Some (put_version o name)) there)

    go : (o : Option Version) → version_of b s.object ≡ o → version_of (record b { versions = with_version o s.object b.versions }) name ≡ cond (is_eq (name_cmp s.object name)) (Some (put_version (version_of b name) name)) (version_of b name)
    go None e = found-placed name_cmp names_exact version_object (new_version s.object) name b.versions ∙ new e (is_eq (name_cmp s.object name)) refl
    go (Some v) e = old v e (is_eq (name_cmp s.object name)) refl
