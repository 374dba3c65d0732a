use Rattle.std.proofs.Common.{◌≤◌, ◌⊎◌, length, subst, sym, ap, ◌∙◌, arith}
use Rattle.mesh_cli_apply.specs.Listing.{as_targets}
use Rattle.mesh_cli_apply.proofs.Listed.{none_left, shorter}
use Rattle.mesh_cli_apply.proofs.listing.by_name.Goals as goal

pub loop-left-init : goal.loop-left-init
loop-left-init c =
    let ns = c.args.nodes.now in
    let es = c.args.entries.now in (
      omega (arith, c.min-left.ensures),
      omega (arith, c.min-left.ensures),
      ap as_targets c.new-made.ensures.empty ∙ sym (none_left c.min-left.result ns es (subst (λ k. (length ns ≤ k) ⊎ (length es ≤ k)) (sym c.min-left.ensures) (shorter (length ns) (length es)))),
    )
