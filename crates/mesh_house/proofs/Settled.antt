-- What is to go out of a world is taken out, or one thing more is to go.
use Rattle.std.proofs.Common.{◌≡◌, true, List, [], sym, ◌∙◌, ap}
use Rattle.mesh_list.specs.Keyed.{placed, without, ascends}
use Rattle.mesh_base_values.specs.declared.values.Name.{Name}
use Rattle.mesh_base_values.specs.Names.{name_cmp}
use Rattle.mesh_base_values.specs.NameOrder.{names_total, names_exact}
use Rattle.mesh_base.specs.declared.snapshots.Ref.{Ref}
use Rattle.mesh_base.specs.declared.snapshots.Snapshot.{Snapshot}
use Rattle.mesh_base.specs.Keys.{ref_cmp, refs_total, refs_exact, snapshot_ref}
use Rattle.mesh_house_book.specs.declared.book.Book.{Book}
use Rattle.mesh_house_book.specs.declared.versions.Version.{Version}
use Rattle.mesh_house_book.specs.Changes.{version_object, forget_version, delete_snapshot}
use Rattle.mesh_house.specs.declared.gone.Gone.{Gone}
use Rattle.mesh_house.specs.declared.objects.Object.{Object}
use Rattle.mesh_house.specs.declared.world.World.{World}
use Rattle.mesh_house.specs.Objects.{object_name}
use Rattle.mesh_house.specs.Outside.{itself, outside}
use Rattle.mesh_house.specs.Gone.{nothing_gone, settled, thinned}
use Rattle.mesh_house.specs.Step.{with_book, drop_object}
use Rattle.mesh_house.proofs.Thinned.{outside_none, outside_empty, one_more_out}

-- nothing is to go
pub settled_nothing : (w : World) → settled w nothing_gone ≡ w
settled_nothing w =
    let objects = outside_none name_cmp object_name w.objects in
    let snapshots = outside_none ref_cmp snapshot_ref w.book.snapshots in
    let versions = outside_none name_cmp version_object w.book.versions in
    λ i. record w { objects = objects i; book = record w.book { snapshots = snapshots i; versions = versions i } }

-- a version goes later
pub version_waits : (b : Book) (g : Gone) (k : Name) (keys : List Name) → keys ≡ placed name_cmp itself k g.versions → ascends name_cmp version_object b.versions ≡ true → thinned b (record g { versions = keys }) ≡ forget_version (thinned b g) k
version_waits b g k keys is up =
    ap (λ (vs : List Version). record (thinned b g) { versions = vs })
    (ap (λ (ks : List Name). outside name_cmp version_object ks b.versions) is
    ∙ sym (one_more_out name_cmp names_total names_exact version_object k g.versions b.versions up))

-- or at once
pub version_goes : (b : Book) (g : Gone) (k : Name) → g.versions ≡ [] → thinned (forget_version b k) g ≡ forget_version (thinned b g) k
version_goes b g k none =
    ap (λ (vs : List Version). record (thinned b g) { versions = vs })
    (outside_empty name_cmp version_object g.versions (without name_cmp version_object k b.versions) none
    ∙ ap (without name_cmp version_object k) (sym (outside_empty name_cmp version_object g.versions b.versions none)))

-- a snapshot goes later
pub snapshot_waits : (b : Book) (g : Gone) (k : Ref) (keys : List Ref) → keys ≡ placed ref_cmp itself k g.snapshots → ascends ref_cmp snapshot_ref b.snapshots ≡ true → thinned b (record g { snapshots = keys }) ≡ delete_snapshot (thinned b g) k
snapshot_waits b g k keys is up =
    ap (λ (ss : List Snapshot). record (thinned b g) { snapshots = ss })
    (ap (λ (ks : List Ref). outside ref_cmp snapshot_ref ks b.snapshots) is
    ∙ sym (one_more_out ref_cmp refs_total refs_exact snapshot_ref k g.snapshots b.snapshots up))

-- or at once
pub snapshot_goes : (b : Book) (g : Gone) (k : Ref) → g.snapshots ≡ [] → thinned (delete_snapshot b k) g ≡ delete_snapshot (thinned b g) k
snapshot_goes b g k none =
    ap (λ (ss : List Snapshot). record (thinned b g) { snapshots = ss })
    (outside_empty ref_cmp snapshot_ref g.snapshots (without ref_cmp snapshot_ref k b.snapshots) none
    ∙ ap (without ref_cmp snapshot_ref k) (sym (outside_empty ref_cmp snapshot_ref g.snapshots b.snapshots none)))

-- a world whose book is another, and that loses the same objects
pub settled_book : (w : World) (g h : Gone) (b made : Book) → h.objects ≡ g.objects → thinned b h ≡ made → settled (with_book w b) h ≡ with_book (settled w g) made
settled_book w g h b made objects is = λ i. record w { objects = outside name_cmp object_name (objects i) w.objects; book = is i }

-- an object goes later
pub object_waits : (w : World) (g : Gone) (k : Name) (keys : List Name) → keys ≡ placed name_cmp itself k g.objects → ascends name_cmp object_name w.objects ≡ true → settled w (record g { objects = keys }) ≡ drop_object (settled w g) k
object_waits w g k keys is up =
    ap (λ (os : List Object). record (settled w g) { objects = os })
    (ap (λ (ks : List Name). outside name_cmp object_name ks w.objects) is
    ∙ sym (one_more_out name_cmp names_total names_exact object_name k g.objects w.objects up))
