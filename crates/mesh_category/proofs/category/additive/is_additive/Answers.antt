use Rattle.mesh_category.proofs.category.Additions.{by_parts}
use Rattle.mesh_category.proofs.category.additive.is_additive.Goals as goal

pub returns-then-adds_columns : goal.returns-then-adds_columns
returns-then-adds_columns c =
    by_parts c.args.old.now c.args.new.now c.in-Sql.was c.in-Sql-defn.is' c.in-Sql.is c.in-Sql-defn.is c.are_alike_but_defn.result
    (λ t. (c.adds_columns.ensures.0 c.if-adds_columns.true, c.are_alike_but_defn.ensures.0 t), λ h. c.are_alike_but_defn.ensures.1 h.1)
