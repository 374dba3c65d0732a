use Rattle.std.proofs.Common.{◌≡◌, false, Some, None, refl, sym, ◌∙◌, ap, Bor}
use Rattle.std.specs.declared.option.Option.{Option}
use Rattle.std.specs.Option.{is_some, option_copied}
use Rattle.mesh_list.specs.Keyed.{found, without}
use Rattle.mesh_base_values.specs.declared.values.Name.{Name}
use Rattle.mesh_base_values.specs.Names.{name_cmp}
use Rattle.mesh_base_values.specs.NameOrder.{names_total}
use Rattle.mesh_house_book.specs.Changes.{version_object}
use Rattle.mesh_house_book.specs.declared.versions.Version.{Version}
use Rattle.mesh_house_book.proofs.Exchanged.{without_placed}
use Rattle.mesh_house_book.proofs.changes.add_version.Goals as goal

none_copied : {T : Type 0} (o : Option (Bor T)) → is_some o ≡ false → option_copied o ≡ None
none_copied None h = refl
none_copied (Some x) h = cc

pub returns-clause-back : goal.returns-clause-back
returns-clause-back c =
    let fresh : c.unmade.result.object ≡ c.args.object.now = ap (λ (v : Version). v.object) c.unmade.ensures ∙ c.in_ok-copy.ensures in
    let none : found name_cmp version_object c.args.object.now c.args.versions.now ≡ None = sym c.find.ensures ∙ none_copied c.find.result (sym c.is_some.ensures ∙ c.if-is_some.false) in
    ap (λ (n : Name). without name_cmp version_object n c.place.new.self) (sym fresh)
    ∙ ap (without name_cmp version_object c.unmade.result.object) c.in_ok-place.ensures.ok
    ∙ without_placed name_cmp version_object names_total c.unmade.result c.args.versions.now (ap (λ (n : Name). found name_cmp version_object n c.args.versions.now) fresh ∙ none)
