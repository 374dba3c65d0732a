use Rattle.std.proofs.Common.{Some, sym, ap, ◌∙◌}
use Rattle.mesh_base.specs.Outputs.{select_columns}
use Rattle.mesh_base.specs.declared.queries.Rel.TheVariants.{Cte}
use Rattle.mesh_resolve_selects.specs.outputs.Commons.{selects_of}
use Rattle.mesh_resolve_selects.proofs.outputs.Places.{this_one}
use Rattle.mesh_resolve_selects.proofs.outputs.commons.cte_named.Goals as goal

pub returns : goal.returns
returns c =
    ap (λ l. Some (Cte c.in-Some.place, l)) (c.in_ok-columns.ensures ∙ ap select_columns (c.as_slice-2.ensures ∙ ap selects_of (sym c.index-as_slice-place.is)))
    ∙ sym (this_one c.args.name.now c.args.ctes.now c.as_slice.result.now c.in-Some.place c.index-as_slice-place.result c.in-Some.ensures.first c.as_slice.ensures c.in-Some.ensures.within c.index-as_slice-place.is)
