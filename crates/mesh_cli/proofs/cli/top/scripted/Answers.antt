use Rattle.std.proofs.Common.{List, ℕ, Ok, refl, sym, subst}
use Rattle.mesh_cli.specs.cli.Scripts.{IsScript, lines_run, unread}
use Rattle.mesh_cli.proofs.cli.top.scripted.Goals as goal

pub returns-in-Err : goal.returns-in-Err
returns-in-Err g c = unread c.in-Err.refusal c.in-Err.ensures (refl, c.printed.ensures)

pub returns-in-Ok : goal.returns-in-Ok
returns-in-Ok g c = lines_run _ (subst (λ (s : List ℕ). IsScript (g.S.Source.told c.args.input.now) (g.S.Source.told c.script_of.new.input) (Ok s)) (sym c.as_slice.ensures) c.in-Ok.ensures) c.batch.ensures.ends
