use Rattle.std.proofs.Common.{Some, None, List, map, sym, ◌∙◌, ap}
use Rattle.std.specs.Option.{is_some, option_copied}
use Rattle.mesh_base.specs.declared.definitions.Decl.{Decl}
use Rattle.mesh_base_values.specs.Names.{name_cmp}
use Rattle.mesh_base.specs.Keys.{ref_name}
use Rattle.mesh_list.specs.Keyed.{found}
use Rattle.mesh_base.specs.rules.Relations.{relation_columns, source_relation}
use Rattle.mesh_house_book.proofs.Relations.{from_source, from_parent}
use Rattle.mesh_house_book.proofs.seen.relation_is_there.Goals as goal

pub returns-in-Some : goal.returns-in-Some
returns-in-Some c =
    let sources = ap (λ (ds : List Decl). relation_columns (map source_relation ds) c.args.relation.now) c.as_slice.ensures in
    sym (ap is_some (from_source c.args.all.now c.args.s.now c.args.relation.now c.in-Some.field-0.now (sym sources ∙ sym c.source_columns.ensures ∙ ap option_copied c.in-Some.is)))

pub returns-in-Some-parent_at : goal.returns-in-Some-parent_at
returns-in-Some-parent_at c =
    let sources = ap (λ (ds : List Decl). relation_columns (map source_relation ds) c.args.relation.now) c.as_slice.ensures in
    let parents = ap (found name_cmp ref_name c.args.relation.now) c.as_slice-in-None.ensures in
    sym (ap is_some (from_parent c.args.all.now c.args.s.now c.args.relation.now (Some c.in-Some-parent_at.field-0.now) (sym sources ∙ sym c.source_columns.ensures ∙ ap option_copied c.in-None.is) (sym parents ∙ sym c.parent_at.ensures ∙ ap option_copied c.in-Some-parent_at.is)))

pub returns-in-None-parent_at : goal.returns-in-None-parent_at
returns-in-None-parent_at c =
    let sources = ap (λ (ds : List Decl). relation_columns (map source_relation ds) c.args.relation.now) c.as_slice.ensures in
    let parents = ap (found name_cmp ref_name c.args.relation.now) c.as_slice-in-None.ensures in
    sym (ap is_some (from_parent c.args.all.now c.args.s.now c.args.relation.now None (sym sources ∙ sym c.source_columns.ensures ∙ ap option_copied c.in-None.is) (sym parents ∙ sym c.parent_at.ensures ∙ ap option_copied c.in-None-parent_at.is)))
