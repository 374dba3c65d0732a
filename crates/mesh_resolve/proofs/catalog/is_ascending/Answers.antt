use Rattle.std.proofs.Common.{arith, sym, ap, ap₂, ◌∙◌, refl}
use Rattle.std.specs.Ordering.{is_lt}
use Rattle.mesh_list.proofs.Standing.{ascends_so_far}
use Rattle.mesh_base_values.specs.declared.values.Name.{Name}
use Rattle.mesh_base_values.specs.Names.{name_cmp}
use Rattle.mesh_base_values.specs.NameOrder.{names_total}
use Rattle.mesh_resolve.proofs.catalog.is_ascending.Goals as goal

pub loop-i-preserved : goal.loop-i-preserved
loop-i-preserved g c = record {
  so_far = ascends_so_far name_cmp names_total g.T.Named.called c.args.items.now c.loop-i.i c.index-items-i.result c.index-items-i-in-loop-i.result (omega arith) (omega arith) c.index-items-i.is c.index-items-i-in-loop-i.is (ap₂ (λ (p q : Name). is_lt (name_cmp p q)) (sym c.called.ensures) (sym c.called-in-loop-i.ensures) ∙ ap is_lt (sym c.compare.ensures) ∙ sym c.is_lt.ensures ∙ c.if-not-is_lt.false) c.loop-i.invariant.so_far;
  end = refl;
}
