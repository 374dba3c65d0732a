use Rattle.mesh_law_audit.proofs.Findings.{all_found, none_missed, one_found}
use Rattle.mesh_law_audit.proofs.Rows.{rows_found}
use Rattle.mesh_law_audit.proofs.laws.audits_find_what_they_find_from_scratch.Goals as goal

pub returns : goal.returns
returns c = record { rows = rows_found; finding = one_found; findings = all_found; objects = none_missed }
