-- A version that was changed is put back.
use Rattle.std.proofs.Common.{◌≡◌, Some, None, Ok, Err, Result, OnOk, OnErr, refl, ◌∙◌, ap, sym}
use Rattle.std.specs.declared.option.Option.{Option}
use Rattle.mesh_base_values.specs.declared.values.Name.{Name}
use Rattle.mesh_base_values.specs.Names.{name_cmp}
use Rattle.mesh_base_values.specs.NameOrder.{names_total, names_exact}
use Rattle.mesh_list.specs.Keyed.{found}
use Rattle.mesh_house_book.specs.declared.book.Book.{Book}
use Rattle.mesh_house_book.specs.declared.versions.Version.{Version}
use Rattle.mesh_house_book.specs.Changes.{version_object, at_version}
use Rattle.mesh_house.specs.declared.world.World.{World}
use Rattle.mesh_house.specs.Step.{with_book}
use Rattle.mesh_house.specs.Booked.{put_back}
use Rattle.mesh_house_book.proofs.Exchanged.{exchanged_twice, exchanged_itself, found_key}

pub undone : (f : Version → Version) (b : Book) (name : Name) (o : Option Version) → ((v : Version) → (f v).object ≡ v.object) → found name_cmp version_object name b.versions ≡ o → at_version o (λ v. v) (at_version o f b) ≡ b
undone f b name None kept is = refl
undone f b name (Some v) kept is =
    let key : v.object ≡ name = found_key name_cmp version_object names_exact name v b.versions is in
    let here : found name_cmp version_object v.object b.versions ≡ Some v = ap (λ (n : Name). found name_cmp version_object n b.versions) key ∙ is in
    ap (λ vs. record b { versions = vs })
    (exchanged_twice name_cmp version_object names_total v (f v) b.versions (sym (kept v)) ∙ exchanged_itself name_cmp version_object v b.versions here)

-- so a world whose book was changed for nothing is as it was
pub all_undone : {T E : Type 0} (done : Result T E) (f : Version → Version) (w : World) (b : Book) (name : Name) (before : Option Version) → ((v : Version) → (f v).object ≡ v.object)
    → before ≡ found name_cmp version_object name w.book.versions → OnOk done (b ≡ at_version (found name_cmp version_object name w.book.versions) f w.book) → OnErr done (b ≡ w.book)
    → put_back done before (with_book w b) ≡ w
all_undone (Ok x) f w b name before kept is ok err = ap (with_book w) ((λ i. at_version (is i) (λ v. v) (ok i)) ∙ undone f w.book name _ kept refl)
all_undone (Err e) f w b name before kept is ok err = ap (with_book w) err
