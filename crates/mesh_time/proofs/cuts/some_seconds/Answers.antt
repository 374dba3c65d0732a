use Rattle.std.proofs.Common.{◌∙◌, ap, ◌++◌, ◌∷◌, [], List, filter, get_or, pos, sym}
use Rattle.std.specs.Int.Signed.{lt_z}
use Rattle.std.proofs.lemmas.List.Elements.{filter_more}
use Rattle.mesh_base_values.specs.declared.times.Bounds.{Bounds}
use Rattle.mesh_time.proofs.cuts.some_seconds.Goals as goal

abbrev none : Bounds
none = record { start = pos 0; end = pos 0 }

pub loop-span-preserved : goal.loop-span-preserved
loop-span-preserved c =
    c.in_ok-push_some.ensures
    ∙ ap (λ (l : List Bounds). l ++ filter (λ b. lt_z b.start b.end) (get_or c.args.gone.now c.loop-span.span-index none ∷ [])) c.loop-span.invariant
    ∙ sym (filter_more (λ b. lt_z b.start b.end) c.args.gone.now c.loop-span.span-index none c.loop-span-test.true)
