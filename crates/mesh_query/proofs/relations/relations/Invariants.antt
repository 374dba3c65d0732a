use Rattle.std.proofs.Common.{false, ◌-◌, ◌≤◌, drop, length}
use Rattle.mesh_query_grammar.specs.Signs.{place}
use Rattle.mesh_query_grammar.specs.Rules.{relations, more_joins}
use Rattle.mesh_query_grammar.specs.Plans.{done, read}
use Rattle.mesh_query.specs.Answers.{Onward}
use Rattle.mesh_query.proofs.relations.relations.Given as goal

abbrev pub invariant-joins : goal.invariant-joins
invariant-joins l = (l.from ≤ l.at) × Onward false l.depth relations (drop l.from l.tokens) (read (more_joins (place (drop l.from l.tokens)) l.first l.joins) done) (drop l.at l.tokens) l.fn.nodes.left l.nodes.left

abbrev pub decreases-joins : goal.decreases-joins
decreases-joins l = length l.initial.tokens - l.at
