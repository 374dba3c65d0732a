use Rattle.std.proofs.Common.{sym}
use Rattle.mesh_resolve_scope.proofs.NameLayers.{nothing_asked, compare_asked, is_null_asked, between_asked, one_of_asked}
use Rattle.mesh_resolve_scope.proofs.lone.is_untested.Goals as goal

pub returns-in-Nothing : goal.returns-in-Nothing
returns-in-Nothing c = rw c.in-Nothing.is (sym nothing_asked)

pub returns-in-Compare : goal.returns-in-Compare
returns-in-Compare c = rw c.in-Compare.is (sym (compare_asked c.in-Compare.cmp c.in-Compare.right))

pub returns-in-IsNull : goal.returns-in-IsNull
returns-in-IsNull c = rw c.in-IsNull.is (sym (is_null_asked c.in-IsNull.negated))

pub returns-in-Between : goal.returns-in-Between
returns-in-Between c = rw c.in-Between.is (sym (between_asked c.in-Between.negated c.in-Between.low c.in-Between.high))

pub returns-in-OneOf : goal.returns-in-OneOf
returns-in-OneOf c = rw c.in-OneOf.is (sym (one_of_asked c.in-OneOf.negated c.in-OneOf.of))
