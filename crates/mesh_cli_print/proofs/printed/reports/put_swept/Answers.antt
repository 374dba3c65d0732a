use Rattle.std.proofs.Common.{◌++◌, ◌∙◌, ap, append_assoc}
use Rattle.std.specs.Prelude.{codes}
use Rattle.std.specs.Fmt.{decimal}
use Rattle.mesh_cli_print.proofs.faults.Joined.{four, wrote}
use Rattle.mesh_cli_print.proofs.printed.reports.put_swept.Goals as goal

pub returns : goal.returns
returns c =
    let s = c.args.swept.now in
    let last = decimal s.changes ++ codes " changes\n" in
    let third = (decimal s.snapshots ++ codes " snapshots, ") ++ last in
    let second = (decimal s.objects ++ codes " objects, ") ++ third in
    wrote c.put_counted-4.result _ _ _ _ (four c.put_counted-4.result _ _ _ _ _ _ _ _ _ c.in_ok-put_counted.ensures c.in_ok-put_counted-2.ensures c.in_ok-put_counted-3.ensures c.put_counted-4.ensures)
    (append_assoc (decimal s.environments) (codes " environments, ") second
    ∙ ap (λ l. decimal s.environments ++ (codes " environments, " ++ l)) (append_assoc (decimal s.objects) (codes " objects, ") third
    ∙ ap (λ l. decimal s.objects ++ (codes " objects, " ++ l)) (append_assoc (decimal s.snapshots) (codes " snapshots, ") last)))
