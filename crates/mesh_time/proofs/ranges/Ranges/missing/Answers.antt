use Rattle.std.proofs.Common.{rules, w64, ◌≡◌, false, true, ◌∙◌}
use Rattle.std.specs.Prelude.{FitsSigned}
use Rattle.std.proofs.lemmas.Int.{to_z-of_z}
use Rattle.mesh_time.specs.Ranges.{is_apart}
use Rattle.mesh_time.proofs.Missing.{rest_goes_on, held_by_rest, more_missing, none_missing}
use Rattle.mesh_time.proofs.ranges.Ranges.missing.Goals as goal
use Rattle.mesh_time.proofs.ranges.Ranges.missing.Goals.{then-not-front_covers+in_ok-push, else-not-front_covers}

pub loop-number-preserved : goal.loop-number-preserved
loop-number-preserved c =
    let start_fits : FitsSigned w64 c.unit_at-unit.result.start = search rules in
    let end_fits : FitsSigned w64 c.unit_at-unit.result.end = search rules in
    let apart : is_apart c.args.self.now ≡ true = rw (← c.self.view_is) c.self.invariant in
    let next = simp to_z-of_z at c.open_after-rest.ensures in
    let front = simp to_z-of_z at c.front_covers.ensures in
    let held = held_by_rest c.args.self.now _ _ c.args.schedule.now c.loop-number.number _ _ apart c.unit_at-unit.ensures next c.loop-number.invariant.rest front in
    record {
      made =
          elim c.if-not-front_covers.branch [
            | then-not-front_covers+in_ok-push w ↦
                (let lacking : c.front_covers.result ≡ false = search rules in
                w.made-is ∙ w.in_ok-push.ensures.ok ∙ more_missing c.args.self.now c.args.schedule.now c.loop-number.number _ _ c.loop-number.invariant.made (held ∙ lacking) c.unit_at-unit.ensures)
            | else-not-front_covers w ↦
                (let there : c.front_covers.result ≡ true = search rules in
                w.made-is ∙ none_missing c.args.self.now c.args.schedule.now c.loop-number.number _ c.loop-number.invariant.made (held ∙ there))
          ];
      rest = rest_goes_on c.args.self.now _ _ c.args.schedule.now c.loop-number.number _ c.unit_at-unit.ensures next c.loop-number.invariant.rest;
    }
