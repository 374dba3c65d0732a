-- Over models that are up to date audits find what they find from scratch, and miss no object.
use Rattle.std.proofs.Common.{◌≡◌, ℕ, List, [], ◌∷◌, ◌++◌, length, map, None, Some, refl, ap, ◌∙◌, arith}
use Rattle.std.specs.List.{flat_map}
use Rattle.std.specs.Option.{option_and_then, option_map}
use Rattle.std.specs.declared.option.Option.{Option}
use Rattle.mesh_base_values.specs.declared.values.Cell.{Cell}
use Rattle.mesh_base.specs.declared.plans.Entry.{Entry}
use Rattle.mesh_base.specs.declared.snapshots.Node.{Node}
use Rattle.mesh_spec_model.specs.Horizons.{Clock}
use Rattle.mesh_law_query.proofs.Bags.{bag_is_perm}
use Rattle.mesh_law_query.proofs.Perm.{as_long}
use Rattle.mesh_house.specs.declared.world.World.{World}
use Rattle.mesh_spec_changes.specs.due.Parts.{Parts}
use Rattle.mesh_layer.specs.Lost.{first_of}
use Rattle.mesh_audit.specs.declared.audits.Audit.{Audit}
use Rattle.mesh_audit.specs.Audited.{finding, found_by, gathered, lost_by, placed, scratch_rows}
use Rattle.mesh_audit.proofs.Gathering.{audit_found, none_lost_of}
use Rattle.mesh_law_audit.specs.Scratch.{scratch_findings}
use Rattle.mesh_law_audit.specs.UpToDate.{AreUpToDate}
use Rattle.mesh_law_audit.proofs.Rows.{rows_found}

-- as many rows are one finding
as_many_rows : (a : Audit) (xs ys : List (List Cell)) → length xs ≡ length ys → finding a xs ≡ finding a ys
as_many_rows a [] [] e = refl
as_many_rows a [] (y ∷ ys) e = absurd (omega (arith, e))
as_many_rows a (x ∷ xs) [] e = absurd (omega (arith, e))
as_many_rows a (x ∷ xs) (y ∷ ys) e = ap (λ (n : ℕ). record { model = a.model; name = a.name; rows = n } ∷ []) e

-- where each gives something, so do all
all_give : {A B : Type 0} (f : A → Option (List B)) (g : A → List B) → ((a : A) → f a ≡ Some (g a)) → (ts : List A) → gathered f ts ≡ Some (flat_map g ts)
all_give f g h [] = refl
all_give f g h (t ∷ ts) = λ i. option_and_then (λ ys. option_map (λ zs. ys ++ zs) (all_give f g h ts i)) (h t i)

module _ (clock : Clock) (x : Parts) (w : World) (nodes : List Node) (entries : List Entry) (h : AreUpToDate clock x w nodes entries) where
  pub one_found : (a : Audit) → found_by w (placed nodes entries) a ≡ Some (finding a (scratch_rows a nodes w.sources clock))
  one_found a =
      let (rows, there, same) = rows_found clock x w nodes entries h a in
      let scratch = scratch_rows a nodes w.sources clock in
      ap (option_map (finding a)) there ∙ ap Some (as_many_rows a rows scratch (as_long (bag_is_perm rows scratch same)))

  pub all_found : (audits : List Audit) → gathered (found_by w (placed nodes entries)) audits ≡ Some (scratch_findings audits nodes w.sources clock)
  all_found audits = all_give (found_by w (placed nodes entries)) (λ a. finding a (scratch_rows a nodes w.sources clock)) one_found audits

  pub none_missed : (audits : List Audit) → first_of (map (lost_by w (placed nodes entries)) audits) ≡ None
  none_missed audits =
      let all = placed nodes entries in
      none_lost_of (found_by w all) (lost_by w all) (audit_found w all) audits (scratch_findings audits nodes w.sources clock) (all_found audits)
