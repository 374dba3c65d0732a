use Rattle.std.proofs.Common.{◌≡◌, ◌++◌, List, OnOk, ap, subst, ◌∙◌}
use Rattle.std.specs.List.{flat_map}
use Rattle.mesh_base_values.specs.declared.values.Name.{Name}
use Rattle.mesh_query_grammar.specs.declared.surface.queries.SurfaceJoin.{SurfaceJoin}
use Rattle.mesh_project.specs.nodes.Reads.{join_reads, rel_reads}
use Rattle.mesh_project.proofs.nodes.reads.add_from.Goals as goal

pub returns : goal.returns
returns c =
    let old = c.args.names.now in
    let first = rel_reads c.args.from.now.first in
    let more : List SurfaceJoin → List Name = λ l. flat_map join_reads l in
    subst (λ (l : List Name). OnOk c.add_joins.result (c.add_joins.new.names ≡ l))
    (ap (λ (l : List Name). l ++ more c.as_slice.result.now) c.in_ok-add_rel.ensures ∙ ap (λ (l : List SurfaceJoin). old ++ first ++ more l) c.as_slice.ensures)
    c.add_joins.ensures
