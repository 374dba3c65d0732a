use Rattle.std.proofs.Common.{Some, get_or, ap, sym, ◌∙◌}
use Rattle.mesh_resolve_scope.specs.declared.sight.sight.Seen.{Seen}
use Rattle.mesh_resolve_scope.specs.sight.Sight.{meant, meant_in}
use Rattle.mesh_resolve_scope.specs.sight.Sole.{sole}
use Rattle.mesh_resolve_scope.proofs.sight.Soles.{means_nothing, means_there}
use Rattle.mesh_resolve_scope.proofs.sight.names.meant.Goals as goal

pub returns-in-None-place : goal.returns-in-None-place
returns-in-None-place c =
    sym (ap (λ item. sole (meant item c.args.name.now c.args.sight.now.from)) c.in-Some.is
    ∙ ap sole (means_nothing c.in-Some.of c.args.name.now c.args.sight.now.from (sym c.place.ensures.sole ∙ c.in-None-place.is)))

pub returns-in-Some-Some : goal.returns-in-Some-Some
returns-in-Some-Some c =
    c.meant_in.ensures
    ∙ ap (λ (d : Seen). sole (meant_in c.args.name.now d)) (c.index-from-place.is ∙ ap (λ l. get_or l c.in-Some-Some.place c.index-from-place.result) c.from-in-Some-Some.ensures)
    ∙ sym (ap (λ item. sole (meant item c.args.name.now c.args.sight.now.from)) c.in-Some.is
    ∙ ap sole (means_there c.in-Some.of c.args.name.now c.args.sight.now.from c.in-Some-Some.place c.index-from-place.result (sym c.place.ensures.sole ∙ c.in-Some-Some.is ∙ ap Some c.in-Some-Some.field-0-is)))
