use Rattle.std.proofs.Common.{◌≡◌, List, ℕ, length, take}
use Rattle.std.specs.List.{All}
use Rattle.mesh_spec_model.specs.Closures.{closures}
use Rattle.mesh_plan_due.specs.Lineages.{HaveLineages}
use Rattle.mesh_plan_due.proofs.lineages.lineages.Given as goal

abbrev pub invariant-loop-at : goal.invariant-loop-at
invariant-loop-at l = record {
  rows : HaveLineages l.nodes (closures (take l.at l.nodes)) l.rows.items;
  long : length l.rows.items ≡ l.at;
  words : All (λ (r : List ℕ). length r ≡ l.words) l.rows.items;
}
