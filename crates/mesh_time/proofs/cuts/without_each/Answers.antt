use Rattle.std.proofs.Common.{◌∙◌, ap}
use Rattle.mesh_time.specs.Edits.{spans_without_each}
use Rattle.mesh_time.proofs.Without.{each_alike}
use Rattle.mesh_time.proofs.cuts.without_each.Goals as goal

pub returns : goal.returns
returns c =
    c.in_ok-made.ensures
    ∙ ap (λ l. spans_without_each l c.args.spans.now) c.as_slice.ensures.value
    ∙ each_alike _ _ _ c.requires c.in_ok-all.ensures.seconds
