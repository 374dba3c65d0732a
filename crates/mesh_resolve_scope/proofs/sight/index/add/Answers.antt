use Rattle.std.proofs.Common.{Some, ap, sym, ◌∙◌}
use Rattle.mesh_resolve_scope.specs.sight.Sole.{sole_of_both}
use Rattle.mesh_resolve_scope.proofs.sight.Soles.{one_more_of, still_several}
use Rattle.mesh_resolve_scope.proofs.sight.index.add.Goals as goal

pub returns-then-is_several : goal.returns-then-is_several
returns-then-is_several g c =
    still_several c.args.index.now c.args.name.now c.args.value (sym (c.copied-had.ensures ∙ c.get.ensures.value) ∙ c.is_several.ensures c.if-is_several.true)

pub returns : goal.returns
returns g c =
    one_more_of c.args.index.now c.insert.new.self c.args.name.now c.in_ok-key.key (Some c.with_one.result) c.args.value c.in_ok-key.ensures
    (c.with_one.ensures ∙ ap (λ o. sole_of_both o (Some (Some c.args.value))) (c.copied-had.ensures ∙ c.get.ensures.value))
    c.in_ok-insert.ensures.updates
