use Rattle.std.proofs.Common.{arith, sym, ◌∙◌, ap}
use Rattle.std.specs.Ordering.{is_eq}
use Rattle.mesh_list.proofs.Standing.{has_it, lacks_it, passes_all, where_first, where_none}
use Rattle.mesh_base_values.specs.declared.values.Name.{Name}
use Rattle.mesh_base_values.specs.Names.{name_cmp}
use Rattle.mesh_base_values.specs.NameOrder.{names_total}
use Rattle.mesh_resolve.proofs.catalog.sought.Goals as goal

pub returns-then-at-items : goal.returns-then-at-items
returns-then-at-items g c =
    sym (where_none name_cmp g.T.Named.called c.args.name.now c.args.items.now
    (passes_all name_cmp names_total g.T.Named.called c.args.name.now c.args.items.now c.seek-at.result c.seek-at.ensures.place (omega arith))).not_found

pub returns-then-is_eq : goal.returns-then-is_eq
returns-then-is_eq g c =
    sym ((where_first name_cmp g.T.Named.called c.args.name.now c.args.items.now c.seek-at.result
    (has_it name_cmp names_total g.T.Named.called c.args.name.now c.args.items.now c.seek-at.result c.seek-at.ensures.place c.index-items-at.result (omega arith) c.index-items-at.is
    (ap (λ (n : Name). is_eq (name_cmp n c.args.name.now)) (sym c.called.ensures) ∙ ap is_eq (sym c.compare.ensures) ∙ sym c.is_eq.ensures ∙ c.if-is_eq.true))).is_found
    c.index-items-at-then-is_eq.result c.index-items-at-then-is_eq.is)

pub returns : goal.returns
returns g c =
    sym (where_none name_cmp g.T.Named.called c.args.name.now c.args.items.now
    (lacks_it name_cmp names_total g.T.Named.called c.args.name.now c.args.items.now c.seek-at.result c.seek-at.ensures.place c.index-items-at.result c.requires (omega arith) c.index-items-at.is
    (ap (λ (n : Name). is_eq (name_cmp n c.args.name.now)) (sym c.called.ensures) ∙ ap is_eq (sym c.compare.ensures) ∙ sym c.is_eq.ensures ∙ c.if-is_eq.false))).not_found
