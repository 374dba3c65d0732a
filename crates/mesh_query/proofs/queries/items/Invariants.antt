use Rattle.std.proofs.Common.{false, ◌-◌, ◌≤◌, drop, length}
use Rattle.mesh_query_grammar.specs.Rules.{items, more_items}
use Rattle.mesh_query_grammar.specs.Plans.{done, read}
use Rattle.mesh_query.specs.Answers.{Onward}
use Rattle.mesh_query.proofs.queries.items.Given as goal

abbrev pub invariant-commas : goal.invariant-commas
invariant-commas l = (l.from ≤ l.at) × Onward false l.depth items (drop l.from l.tokens) (read (more_items l.list) done) (drop l.at l.tokens) l.fn.nodes.left l.nodes.left

abbrev pub decreases-commas : goal.decreases-commas
decreases-commas l = length l.initial.tokens - l.at
