use Rattle.std.proofs.Common.{rules, w64, ◌≡◌, true, not, ◌||◌, FitsSigned, ap, sym, ◌∙◌}
use Rattle.std.specs.BTreeSet.{contains}
use Rattle.std.proofs.lemmas.Int.{to_z-of_z}
use Rattle.mesh_plan_due.specs.Sets.{part_cmp}
use Rattle.mesh_plan_due.proofs.due.is_due.Goals as goal

pub returns-else-not-held-clause-due : goal.returns-else-not-held-clause-due
returns-else-not-held-clause-due c =
    let start_fits : FitsSigned w64 c.args.unit.now.start = search rules in
    let end_fits : FitsSigned w64 c.args.unit.now.end = search rules in
    let held : c.args.held ≡ true = search rules in
    let e = c.is_among.ensures in
    simp to_z-of_z at e ∙ ap (λ b. not b || contains part_cmp c.args.again.now (c.args.unit.now.start, c.args.unit.now.end, c.args.key.now.2)) (sym held)
