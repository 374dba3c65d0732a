use Rattle.std.proofs.Common.{List, subst}
use Rattle.mesh_base_values.specs.declared.values.Name.{Name}
use Rattle.mesh_category.specs.category.Gone.{IsSameBag}
use Rattle.mesh_category.proofs.category.named.removed.Goals as goal

pub returns : goal.returns
returns c = record {
  same = subst (λ (names : List Name). IsSameBag names c.in_ok-made.made) c.in_ok-names.ensures c.in_ok-made.ensures.same;
  ascending = c.in_ok-made.ensures.ascending;
}
