use Rattle.std.proofs.Common.{◌≡◌, ◌++◌, List, ap, ◌∙◌, subst}
use Rattle.std.specs.List.{slice_get}
use Rattle.std.specs.declared.option.Option.TheVariants.{Some}
use Rattle.mesh_spec_model.specs.Closures.{closures}
use Rattle.mesh_lineage.specs.Alike.{IsAlike}
use Rattle.mesh_trace.specs.Asks.{all_fed}
use Rattle.mesh_trace.specs.declared.traces.Trace.{Trace}
use Rattle.mesh_trace.proofs.answer.feeds_of.Goals as goal

pub returns-in_ok-walk-in-Some : goal.returns-in_ok-walk-in-Some
returns-in_ok-walk-in-Some c d named =
    let cs = closures c.args.nodes.now in
    let at : slice_get cs c.in-Some.place ≡ Some d = c.in-Some.ensures.there ∙ named in
    let made : List Trace = c.walk.new.found in
    subst (IsAlike made) (ap (λ (l : List Trace). l ++ all_fed c.in_ok-asks-in-Some.asks.items cs) c.new-found.ensures ∙ c.in_ok-asks-in-Some.ensures.fed cs d at) c.in_ok-walk-in-Some.ensures
