use Rattle.std.proofs.Common.{length, ap, arith}
use Rattle.mesh_exec_works.specs.Plain.{plain_models}
use Rattle.mesh_exec_works.specs.Works.{part_of}
use Rattle.mesh_exec.proofs.Models.{filling_ok, filling_stops, memory_stops, tables_stop}
use Rattle.mesh_exec.specs.Fills.{first_pool}
use Rattle.mesh_exec.proofs.making.fill_object.Goals as goal

pub returns-in_err-tables : goal.returns-in_err-tables
returns-in_err-tables g c = tables_stop (plain_models c.args.nodes.now c.args.entries.now) (part_of c.args.work.now) _ _ _ c.from_residual.result c.in_err-tables.ensures c.from_residual.ensures.1

pub returns-in_err-pools : goal.returns-in_err-pools
returns-in_err-pools g c = memory_stops (plain_models c.args.nodes.now c.args.entries.now) (part_of c.args.work.now) _ _ c.from_residual-in_err-pools.result c.in_ok-tables.ensures.untouched c.from_residual-in_err-pools.ensures.1

pub fill_all-requires-clause-there : goal.fill_all-requires-clause-there
fill_all-requires-clause-there g c κs within = omega (arith, ap length c.in_ok-pools.ensures)

pub returns-in_err-made : goal.returns-in_err-made
returns-in_err-made g c =
    filling_stops (plain_models c.args.nodes.now c.args.entries.now) (part_of c.args.work.now) _ _ _ c.in_ok-tables.tables (first_pool c.in_ok-pools.pools) _ c.from_residual-in_err-made.result (ap first_pool c.in_ok-pools.ensures)
    c.in_ok-tables.ensures c.in_err-made.ensures.makes c.from_residual-in_err-made.ensures.1

pub returns : goal.returns
returns g c =
    filling_ok (plain_models c.args.nodes.now c.args.entries.now) (part_of c.args.work.now) _ _ _ c.in_ok-tables.tables (first_pool c.in_ok-pools.pools) c.in_ok-made.made (ap first_pool c.in_ok-pools.ensures)
    c.in_ok-tables.ensures c.in_ok-made.ensures.makes c.in_ok-made.ensures.number c.in_ok-made.ensures.calls
