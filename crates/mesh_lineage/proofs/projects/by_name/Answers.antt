use Rattle.std.proofs.Common.{sym, ap, ◌∙◌}
use Rattle.mesh_lineage.specs.Pairs.{as_pairs}
use Rattle.mesh_lineage.proofs.ByName.{onto, one_more}
use Rattle.mesh_lineage.proofs.projects.by_name.Goals as goal

pub loop-pair-preserved : goal.loop-pair-preserved
loop-pair-preserved c =
    one_more c.pop.new.self.items c.in-Some.pair c.loop-pair.map.entries c.insert.new.self.entries c.into_vec-rest.result.items c.in_ok-insert.ensures.entries
    (sym (ap (λ l. onto l (as_pairs c.loop-pair.map.entries)) c.in-Some.ensures.items) ∙ c.loop-pair.invariant)

pub loop-pair-preserved-in_ok-insert : goal.loop-pair-preserved-in_ok-insert
loop-pair-preserved-in_ok-insert c =
    one_more c.pop.new.self.items c.in-Some.pair c.loop-pair.map.entries c.insert.new.self.entries c.into_vec-rest.result.items c.in_ok-insert.ensures.entries
    (sym (ap (λ l. onto l (as_pairs c.loop-pair.map.entries)) c.in-Some.ensures.items) ∙ c.loop-pair.invariant)
