use Rattle.std.proofs.Common.{drop}
use Rattle.mesh_cli.specs.cli.Sides.{sides}
use Rattle.mesh_cli_print.specs.printed.Printing.{sinks}
use Rattle.mesh_cli.proofs.cli.Scripting.{GoesOn}
use Rattle.mesh_cli.proofs.cli.batches.steps.Given as goal

-- what comes of the texts that are left comes of all
abbrev pub invariant-loop-text : goal.invariant-loop-text
invariant-loop-text g l =
    GoesOn l.dir l.texts (drop l.text-index l.texts)
    (sides (g.F.Folder.told l.fn.folder) (g.C.Clock.told l.fn.clock) (g.W.Warehouse.told l.fn.house)) (sides (g.F.Folder.told l.folder) (g.C.Clock.told l.clock) (g.W.Warehouse.told l.house))
    (sinks (g.O.Sink.told l.fn.out) (g.E.Sink.told l.fn.err)) (sinks (g.O.Sink.told l.out) (g.E.Sink.told l.err))
