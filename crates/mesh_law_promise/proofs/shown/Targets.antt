-- What stands behind a snapshot reads the objects of the snapshot's parents.
use Rattle.std.proofs.Common.{◌≡◌, List, Some, None, refl, ap, subst}
use Rattle.std.specs.Option.{option_to_list}
use Rattle.std.specs.declared.option.Option.{Option}
use Rattle.mesh_base_values.specs.declared.values.Pair.{Pair}
use Rattle.mesh_base_values.specs.declared.kinds.Kind.{Kind}
use Rattle.mesh_base_values.specs.declared.kinds.Kind.TheVariants.{Full, View, Seed, Incremental}
use Rattle.mesh_base.specs.declared.definitions.Own.{Own}
use Rattle.mesh_base.specs.declared.snapshots.Ref.{Ref}
use Rattle.mesh_base.specs.declared.snapshots.Snapshot.{Snapshot}
use Rattle.mesh_house_book.specs.WellFormed.{snapshot_at}
use Rattle.mesh_law_query.proofs.Has.{Has, Has_flat_from, Has_map_from, Has_some_from}
use Rattle.mesh_spec_changes.specs.listed.Closing.{IsSnapshot}
use Rattle.mesh_house.specs.declared.objects.Body.{Body}
use Rattle.mesh_house.specs.declared.objects.Body.TheVariants.{Rows, Stored}
use Rattle.mesh_house.specs.declared.objects.Object.{Object}
use Rattle.mesh_house.specs.declared.world.World.{World}
use Rattle.mesh_house.specs.World.{body_of, object_at}
use Rattle.mesh_spec_changes.specs.shown.Shown.{targets_of}
use Rattle.mesh_spec_changes.specs.due.Parts.{Parts}
use Rattle.mesh_spec_changes.specs.Apart.{targets_behind}
use Rattle.mesh_spec_promise.specs.Sound.{IsBodyOf, Sound, object_named, parent_objects}

-- a stored query is that of a view, over its parents' objects
pub viewed : (all : List Snapshot) (s : Snapshot) (kind : Kind) (own : Own) (targets : List Pair) → IsBodyOf all s kind (Stored own targets) → (kind ≡ View) × (targets ≡ parent_objects all s.parents)
viewed all s View own targets h = (refl, h.1)
viewed all s Full own targets h = absurd h
viewed all s Seed own targets h = absurd h
viewed all s (Incremental time lookback) own targets h = absurd h

-- a target is the object of a parent
pub record IsOfParent (all : List Snapshot) (s : Snapshot) (t : Pair) : Type 0 where
  pub ref : Ref
  pub parent : Has ref s.parents
  pub snapshot : Snapshot
  pub known : snapshot_at all ref ≡ Some snapshot
  pub object : snapshot.object ≡ t.second

of_parents : (all : List Snapshot) (s : Snapshot) (t : Pair) → Has t (parent_objects all s.parents) → IsOfParent all s t
of_parents all s t h =
    let (r, i, j) = Has_flat_from (object_named all) s.parents t h in
    let (p, k, is) = Has_map_from (λ (u : Snapshot). record { first = r.name; second = u.object }) (option_to_list (snapshot_at all r)) t j in
    record { ref = r; parent = i; snapshot = p; known = Has_some_from (snapshot_at all r) p k; object = ap (λ (q : Pair). q.second) is }

pub body_reads : (all : List Snapshot) (s : Snapshot) (b : Body) → IsBodyOf all s s.own.kind b → (t : Pair) → Has t (targets_of b) → IsOfParent all s t
body_reads all s (Rows rows) is t h = absurd h
body_reads all s (Stored own targets) is t h = of_parents all s t (subst (Has t) (viewed all s s.own.kind own targets is).1 h)

-- each target of the object of a snapshot is
pub object_reads : (x : Parts) (w : World) → Sound x w → (s : Snapshot) → IsSnapshot w.book.snapshots s → (t : Pair)
    → Has t (targets_behind (body_of (object_at w s.object))) → IsOfParent w.book.snapshots s t
object_reads x w sound s known t h = at (object_at w s.object) refl h
  where
    at : (o : Option Object) → object_at w s.object ≡ o → Has t (targets_behind (body_of o)) → IsOfParent w.book.snapshots s t
    at None e k = absurd k
    at (Some o) e k = body_reads w.book.snapshots s o.body (sound.objects.bodies s known o e) t k
