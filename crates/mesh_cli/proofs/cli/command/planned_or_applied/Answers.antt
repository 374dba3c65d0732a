use Rattle.std.proofs.Common.{Bool, sym, subst}
use Rattle.std.specs.Option.{option_copied}
use Rattle.mesh_cli_words.specs.declared.line.Command.TheVariants.{Plan}
use Rattle.mesh_cli.specs.cli.Ends.{Commanded}
use Rattle.mesh_cli.specs.cli.Sides.{sides}
use Rattle.mesh_cli.proofs.cli.command.planned_or_applied.Goals as goal

pub returns-else-auto_apply : goal.returns-else-auto_apply
returns-else-auto_apply g c =
    subst (λ (b : Bool). Commanded c.args.dir.now (Plan c.args.env.now b c.args.workers c.args.moment (option_copied c.args.again)) (sides (g.F.Folder.told c.args.folder.now) (g.C.Clock.told c.args.clock.now) (g.W.Warehouse.told c.args.house.now)) (sides (g.F.Folder.told c.planned.new.folder) (g.C.Clock.told c.planned.new.clock) (g.W.Warehouse.told c.planned.new.house)) c.planned.result)
    (sym c.if-auto_apply.false) (c.planned.ensures c.args.workers)
