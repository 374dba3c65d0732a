use Rattle.std.proofs.Common.{rules, ◌≡◌, Ok, ap, FitsSigned, w32}
use Rattle.std.proofs.lemmas.Int.{to_z-of_z}
use Rattle.mesh_base_values.specs.declared.times.Bounds.{Bounds}
use Rattle.mesh_cli_look.specs.asking.Evaluated.{days, evaluated}
use Rattle.mesh_cli_look.proofs.asking.Looking.{later, stops}
use Rattle.mesh_cli_look.proofs.asking.evaluated.evaluate.Goals as goal

pub returns-in_err-b : goal.returns-in_err-b
returns-in_err-b g c = record {
  looks =
      stops (λ w. Ok w.book) (λ w b. evaluated b c.args.env.now c.args.model.now (days c.args.first c.args.last) w) _ _ _ _ c.in_err-b.ensures c.from_residual.ensures.1;
}

pub returns : goal.returns
returns g c =
    let first_fits : FitsSigned w32 c.args.first = search rules in
    let last_fits : FitsSigned w32 c.args.last = search rules in
    let named : c.days.result ≡ days c.args.first c.args.last = simp to_z-of_z at c.days.ensures in
    record {
      looks = later (λ w. Ok w.book) (λ w b. evaluated b c.args.env.now c.args.model.now (days c.args.first c.args.last) w) (evaluated c.in_ok-b.b c.args.env.now c.args.model.now c.days.result) _ _ _ c.in_ok-b.b c.evaluated.result
          c.in_ok-b.ensures c.evaluated.ensures (λ w is. ap (λ (u : Bounds). evaluated c.in_ok-b.b c.args.env.now c.args.model.now u w) named);
    }
