-- What audits find where the models of a plan are left up to date.
use Rattle.std.proofs.Common.{◌≡◌, List, [], ◌∷◌, ◌++◌, length, Some, refl, sym, ap, ◌∙◌, subst}
use Rattle.std.specs.List.{All}
use Rattle.std.proofs.lemmas.List.Elements.{All-cons, All-head, All-nil, All-tail}
use Rattle.mesh_base_values.specs.Bag.{IsSameBag}
use Rattle.mesh_base_values.specs.declared.values.Cell.{Cell}
use Rattle.mesh_base.specs.declared.jobs.Input.{Input}
use Rattle.mesh_base.specs.declared.rules.plans.Plan.{Plan}
use Rattle.mesh_base.specs.declared.snapshots.Node.{Node}
use Rattle.mesh_spec_model.specs.Horizons.{Clock}
use Rattle.mesh_house.specs.declared.world.World.{World}
use Rattle.mesh_plan.specs.Plans.{promised}
use Rattle.mesh_audit.specs.declared.audits.Audit.{Audit}
use Rattle.mesh_audit.specs.declared.audits.Finding.{Finding}
use Rattle.mesh_audit.specs.Audited.{audit_rows, finding, findings, placed, scratch_rows}
use Rattle.mesh_law_audit.specs.Scratch.{FindFromScratch, scratch_findings}
use Rattle.mesh_law_audit.specs.UpToDate.{AreUpToDate}
use Rattle.mesh_law_audit.proofs.Executing.{AreLeft}
use Rattle.mesh_law_audit.proofs.Findings.{all_found, none_missed}
use Rattle.mesh_law_audit.proofs.Rows.{rows_found}

-- nothing is found exactly where no audit has rows from scratch
module _ (nodes : List Node) (sources : List Input) (clock : Clock) where
  abbrev Clean : Audit → Type 0
  Clean a = scratch_rows a nodes sources clock ≡ []

  first_clean : (a : Audit) (rows : List (List Cell)) (more : List Finding) → finding a rows ++ more ≡ [] → (rows ≡ []) × (more ≡ [])
  first_clean a [] more e = (refl, e)
  first_clean a (row ∷ rows) more e = absurd (cc)

  are_clean : (audits : List Audit) → scratch_findings audits nodes sources clock ≡ [] → All Clean audits
  are_clean [] e = All-nil Clean
  are_clean (a ∷ audits) e =
      let both = first_clean a (scratch_rows a nodes sources clock) (scratch_findings audits nodes sources clock) e in
      All-cons Clean a audits both.0 (are_clean audits both.1)

  nothing_found : (audits : List Audit) → All Clean audits → scratch_findings audits nodes sources clock ≡ []
  nothing_found [] h = refl
  nothing_found (a ∷ audits) h = ap (λ (rows : List (List Cell)). finding a rows ++ scratch_findings audits nodes sources clock) (All-head Clean a audits h) ∙ nothing_found audits (All-tail Clean a audits h)

same_list : (xs ys : List Finding) → Some xs ≡ Some ys → xs ≡ ys
same_list xs ys e = cc

-- Where the models of a plan are left up to date, audits find what they find from scratch.
module _ (clock : Clock) (p : Plan) (w v : World) (left : AreLeft clock (promised p) w v) (entries : length p.entries ≡ length p.project.nodes) where
  up_to_date : AreUpToDate clock left.doubt v p.project.nodes p.entries
  up_to_date = record { sound = left.sound; now = left.now; as_many = entries; models = left.models }

  all_left : (audits : List Audit) → findings p audits v ≡ Some (scratch_findings audits p.project.nodes w.sources clock)
  all_left audits =
      all_found clock left.doubt v p.project.nodes p.entries up_to_date audits
      ∙ ap (λ (s : List Input). Some (scratch_findings audits p.project.nodes s clock)) left.sources

  pub found_as_left : FindFromScratch p w.sources clock v
  found_as_left = record {
    rows = λ a. subst (λ (s : List Input). (rows : List (List Cell)) × (audit_rows v (placed p.project.nodes p.entries) a ≡ Some rows) × IsSameBag rows (scratch_rows a p.project.nodes s clock)) left.sources
        (rows_found clock left.doubt v p.project.nodes p.entries up_to_date a);
    found = all_left;
    nothing = λ audits. (
      λ e. are_clean p.project.nodes w.sources clock audits (same_list (scratch_findings audits p.project.nodes w.sources clock) [] (sym (all_left audits) ∙ e)),
      λ h. all_left audits ∙ ap Some (nothing_found p.project.nodes w.sources clock audits h),
    );
    objects = none_missed clock left.doubt v p.project.nodes p.entries up_to_date;
  }
