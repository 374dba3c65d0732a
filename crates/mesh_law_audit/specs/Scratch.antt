-- What audits find from scratch: over the sources, seeds and definitions alone.
use Rattle.std.specs.Prelude.{◌≡◌, ◌↔◌, All, List, [], None, Some}
use Rattle.std.specs.List.{flat_map}
use Rattle.mesh_base_values.specs.Bag.{IsSameBag}
use Rattle.mesh_base_values.specs.declared.values.Cell.{Cell}
use Rattle.mesh_base.specs.declared.jobs.Input.{Input}
use Rattle.mesh_base.specs.declared.rules.plans.Plan.{Plan}
use Rattle.mesh_base.specs.declared.snapshots.Node.{Node}
use Rattle.mesh_spec_model.specs.Horizons.{Clock}
use Rattle.mesh_house.specs.declared.world.World.{World}
use Rattle.mesh_audit.specs.declared.audits.Audit.{Audit}
use Rattle.mesh_audit.specs.declared.audits.Finding.{Finding}
use Rattle.mesh_audit.specs.Audited.{audit_rows, finding, findings, lost_for, placed, scratch_rows}

-- a finding for each audit that has rows from scratch, in the order of the audits
abbrev pub scratch_findings : List Audit → List Node → List Input → Clock → List Finding
scratch_findings audits nodes sources clock = flat_map (λ a. finding a (scratch_rows a nodes sources clock)) audits

-- In a world audits find over a plan's models what they find from scratch, and miss no object.
pub record FindFromScratch (p : Plan) (sources : List Input) (clock : Clock) (w : World) : Type 0 where
  -- an audit's rows are those from scratch, perhaps in another order
  pub rows : (a : Audit) → (rows : List (List Cell)) × (audit_rows w (placed p.project.nodes p.entries) a ≡ Some rows) × IsSameBag rows (scratch_rows a p.project.nodes sources clock)
  -- so audits find what they find from scratch, with as many rows
  pub found : (audits : List Audit) → findings p audits w ≡ Some (scratch_findings audits p.project.nodes sources clock)
  -- and nothing exactly where none of them has rows from scratch
  pub nothing : (audits : List Audit) → (findings p audits w ≡ Some []) ↔ All (λ a. scratch_rows a p.project.nodes sources clock ≡ []) audits
  pub objects : (audits : List Audit) → lost_for p audits w ≡ None
