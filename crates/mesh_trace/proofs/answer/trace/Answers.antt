use Rattle.std.proofs.Common.{◌∷◌, [], ap, ◌∙◌}
use Rattle.mesh_spec_model.specs.Closures.{closures}
use Rattle.mesh_trace.specs.Feeds.{feeds}
use Rattle.mesh_trace.specs.Traces.{listed, model_named}
use Rattle.mesh_trace.proofs.Listing.{listed_alike}
use Rattle.mesh_trace.proofs.Sets.{alike_then}
use Rattle.mesh_trace.proofs.answer.trace.Goals as goal

pub returns-clause-exactly : goal.returns-clause-exactly
returns-clause-exactly c d named =
    let all = feeds d (c.args.column.now ∷ []) in
    alike_then c.in_ok-made.made (listed c.in_ok-found.found) (listed all) c.in_ok-made.ensures.exactly (listed_alike c.in_ok-found.found all (c.in_ok-found.ensures d (ap (λ ns. model_named (closures ns) c.args.m.now) c.as_slice.ensures.nodes ∙ named)))
