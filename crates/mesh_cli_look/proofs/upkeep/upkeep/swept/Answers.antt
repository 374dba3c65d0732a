use Rattle.std.proofs.Common.{rules, ◌≡◌, Err, ◌∙◌, ap, subst, FitsSigned, w64, to_z, of_z}
use Rattle.std.proofs.lemmas.Int.{to_z-of_z}
use Rattle.mesh_spec_changes.specs.Kept.{sweeps}
use Rattle.mesh_janitor.specs.declared.janitor.faults.SweepFault.{SweepFault}
use Rattle.mesh_janitor.specs.janitor.Sweeping.{Sweeps}
use Rattle.mesh_cli_look.proofs.upkeep.Sweeps.{failed, wanted}
use Rattle.mesh_cli_look.proofs.upkeep.upkeep.swept.Goals as goal

pub returns-in-Err-Warehouse : goal.returns-in-Err-Warehouse
returns-in-Err-Warehouse g c =
    let fits : FitsSigned w64 c.args.t = search rules in
    let same : to_z w64 (of_z w64 c.args.t) ≡ c.args.t = simp to_z-of_z in
    failed c.args.t c.args.b.now c.requires _ _ c.sweep.result (simp to_z-of_z at c.sweep.ensures.behind)
    (subst (λ t. Sweeps (sweeps c.args.b.now t) (g.W.Warehouse.told c.args.house.now) (g.W.Warehouse.told c.sweep.new.house) c.sweep.result) same c.sweep.ensures.makes)
    (c.in-Err-Warehouse.is ∙ ap (λ (f : SweepFault). Err f) c.in-Err-Warehouse.field-0-is)

pub returns-in-Err-Memory : goal.returns-in-Err-Memory
returns-in-Err-Memory g c =
    let fits : FitsSigned w64 c.args.t = search rules in
    let same : to_z w64 (of_z w64 c.args.t) ≡ c.args.t = simp to_z-of_z in
    wanted c.args.t c.args.b.now c.requires _ _ c.sweep.result (simp to_z-of_z at c.sweep.ensures.behind)
    (subst (λ t. Sweeps (sweeps c.args.b.now t) (g.W.Warehouse.told c.args.house.now) (g.W.Warehouse.told c.sweep.new.house) c.sweep.result) same c.sweep.ensures.makes)
    (c.in-Err-Memory.is ∙ ap (λ (f : SweepFault). Err f) c.in-Err-Memory.field-0-is)
