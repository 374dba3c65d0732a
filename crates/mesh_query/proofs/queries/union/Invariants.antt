use Rattle.std.proofs.Common.{false, ◌-◌, ◌≤◌, drop, length}
use Rattle.mesh_query_grammar.specs.Signs.{place}
use Rattle.mesh_query_grammar.specs.Rules.{union, more_selects}
use Rattle.mesh_query_grammar.specs.Plans.{done, read}
use Rattle.mesh_query.specs.Answers.{Onward}
use Rattle.mesh_query.proofs.queries.union.Given as goal

abbrev pub invariant-unions : goal.invariant-unions
invariant-unions l = (l.from ≤ l.at) × Onward false l.depth union (drop l.from l.tokens) (read (more_selects (place (drop l.from l.tokens)) l.selects) done) (drop l.at l.tokens) l.fn.nodes.left l.nodes.left

abbrev pub decreases-unions : goal.decreases-unions
decreases-unions l = length l.initial.tokens - l.at
