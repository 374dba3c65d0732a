use Rattle.std.proofs.Common.{false, ◌-◌, ◌≤◌, drop, length}
use Rattle.mesh_query_grammar.specs.Rules.{exprs, more_exprs}
use Rattle.mesh_query_grammar.specs.Plans.{done, read}
use Rattle.mesh_query.specs.Answers.{Onward}
use Rattle.mesh_query.proofs.queries.key_list.Given as goal

abbrev pub invariant-commas : goal.invariant-commas
invariant-commas l = (l.from ≤ l.at) × Onward false l.depth exprs (drop l.from l.tokens) (read (more_exprs l.list) done) (drop l.at l.tokens) l.fn.nodes.left l.nodes.left

abbrev pub decreases-commas : goal.decreases-commas
decreases-commas l = length l.initial.tokens - l.at
