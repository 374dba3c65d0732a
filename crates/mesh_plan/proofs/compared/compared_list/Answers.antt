use Rattle.std.proofs.Common.{sym}
use Rattle.mesh_plan.proofs.Beside.{list_fits}
use Rattle.mesh_plan.proofs.compared.compared_list.Goals as goal

pub returns-in-Some-clause-fit : goal.returns-in-Some-clause-fit
returns-in-Some-clause-fit c = list_fits c.args.b.now c.args.env.now c.in-Some.e.now c.requires.book (sym c.in-Some.ensures)

pub returns-in-Some-find-clause-fit : goal.returns-in-Some-find-clause-fit
returns-in-Some-find-clause-fit c = list_fits c.args.b.now c.args.production.now c.in-Some-find.e.now c.requires.book (sym c.in-Some-find.ensures)
