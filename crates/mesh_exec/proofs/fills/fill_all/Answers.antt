use Rattle.std.proofs.Common.{◌≡◌, ℕ, List, length}
use Rattle.mesh_base.specs.declared.jobs.Input.{Input}
use Rattle.mesh_exec_works.specs.Plain.{model_of}
use Rattle.mesh_exec.specs.Fills.{fillings, first_pool}
use Rattle.mesh_exec.proofs.Filling.{ok_at}
use Rattle.mesh_exec.proofs.fills.fill_all.Goals as goal

pub returns-else-is_computed-clause-makes : goal.returns-else-is_computed-clause-makes
returns-else-is_computed-clause-makes g c = c.fill_kept.ensures.makes (first_pool c.args.pools.now)

pub returns-else-is_computed-clause-number : goal.returns-else-is_computed-clause-number
returns-else-is_computed-clause-number g c =
    ok_at (λ (made : ℕ) (tables : List Input). made ≡ length (fillings (model_of c.args.node.now c.args.entry.now) tables c.args.dues.now)) c.fill_kept.result (first_pool c.args.pools.now) c.fill_kept.ensures.number
