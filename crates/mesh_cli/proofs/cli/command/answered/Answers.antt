use Rattle.std.proofs.Common.{sym, subst}
use Rattle.mesh_cli_words.specs.declared.line.Command.{Command}
use Rattle.mesh_cli.specs.cli.Ends.{Commanded}
use Rattle.mesh_cli.specs.cli.Sides.{sides}
use Rattle.mesh_cli.proofs.cli.command.answered.Goals as goal

pub returns-in-Run : goal.returns-in-Run
returns-in-Run g c =
    subst (λ (k : Command). Commanded c.args.dir.now k (sides (g.F.Folder.told c.args.folder.now) (g.C.Clock.told c.args.clock.now) (g.W.Warehouse.told c.args.house.now)) (sides (g.F.Folder.told c.args.folder.now) (g.C.Clock.told c.ran.new.clock) (g.W.Warehouse.told c.ran.new.house)) c.ran.result)
    (sym c.in-Run.is) (c.ran.ensures c.args.dir.now (g.F.Folder.told c.args.folder.now))

pub returns-in-Janitor : goal.returns-in-Janitor
returns-in-Janitor g c =
    subst (λ (k : Command). Commanded c.args.dir.now k (sides (g.F.Folder.told c.args.folder.now) (g.C.Clock.told c.args.clock.now) (g.W.Warehouse.told c.args.house.now)) (sides (g.F.Folder.told c.args.folder.now) (g.C.Clock.told c.swept.new.clock) (g.W.Warehouse.told c.swept.new.house)) c.swept.result)
    (sym c.in-Janitor.is) (c.swept.ensures c.args.dir.now (g.F.Folder.told c.args.folder.now))

pub returns-in-Demo : goal.returns-in-Demo
returns-in-Demo g c =
    subst (λ (k : Command). Commanded c.args.dir.now k (sides (g.F.Folder.told c.args.folder.now) (g.C.Clock.told c.args.clock.now) (g.W.Warehouse.told c.args.house.now)) (sides (g.F.Folder.told c.args.folder.now) (g.C.Clock.told c.args.clock.now) (g.W.Warehouse.told c.args.house.now)) c.demonstrated.result)
    (sym c.in-Demo.is) (c.demonstrated.ensures c.args.dir.now (sides (g.F.Folder.told c.args.folder.now) (g.C.Clock.told c.args.clock.now) (g.W.Warehouse.told c.args.house.now)))

pub returns-in-Trace : goal.returns-in-Trace
returns-in-Trace g c =
    subst (λ (k : Command). Commanded c.args.dir.now k (sides (g.F.Folder.told c.args.folder.now) (g.C.Clock.told c.args.clock.now) (g.W.Warehouse.told c.args.house.now)) (sides (g.F.Folder.told c.traced.new.folder) (g.C.Clock.told c.args.clock.now) (g.W.Warehouse.told c.args.house.now)) c.traced.result)
    (sym c.in-Trace.is) (c.traced.ensures (g.C.Clock.told c.args.clock.now) (g.W.Warehouse.told c.args.house.now))

pub returns-in-Impact : goal.returns-in-Impact
returns-in-Impact g c =
    subst (λ (k : Command). Commanded c.args.dir.now k (sides (g.F.Folder.told c.args.folder.now) (g.C.Clock.told c.args.clock.now) (g.W.Warehouse.told c.args.house.now)) (sides (g.F.Folder.told c.affected.new.folder) (g.C.Clock.told c.args.clock.now) (g.W.Warehouse.told c.args.house.now)) c.affected.result)
    (sym c.in-Impact.is) (c.affected.ensures (g.C.Clock.told c.args.clock.now) (g.W.Warehouse.told c.args.house.now))
