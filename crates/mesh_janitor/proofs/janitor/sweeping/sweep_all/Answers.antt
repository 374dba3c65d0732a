use Rattle.std.proofs.Common.{◌≡◌, ℕ, FitsSigned, w64, to_z, of_z, length, ap, sym, ◌∙◌}
use Rattle.std.proofs.lemmas.Int.{to_z-of_z}
use Rattle.mesh_list.specs.Counts.{risen}
use Rattle.mesh_spec_changes.specs.Kept.{sweeps}
use Rattle.mesh_janitor.specs.declared.janitor.faults.Swept.{Swept}
use Rattle.mesh_janitor.specs.janitor.Sweeping.{numbers}
use Rattle.mesh_janitor.proofs.janitor.Making.{list_made, wanting}
use Rattle.mesh_janitor.proofs.janitor.sweeping.sweep_all.Goals as goal

pub returns-in_err-swept-clause-makes : goal.returns-in_err-swept-clause-makes
returns-in_err-swept-clause-makes g c = wanting (sweeps c.args.b.now c.args.t) _ _ c.from_residual.ensures.1

pub returns-clause-makes : goal.returns-clause-makes
returns-clause-makes g c =
    let fits : FitsSigned w64 c.args.t = c.ranges.t in
    let same : to_z w64 (of_z w64 c.args.t) ≡ c.args.t = simp to_z-of_z in
    list_made _ (sweeps c.args.b.now c.args.t) _ _ _ _ (c.as_slice.ensures ∙ c.in_ok-swept.ensures.changes ∙ ap (sweeps c.args.b.now) same) c.in_ok-make_counted.ensures.makes

pub returns-clause-numbers : goal.returns-clause-numbers
returns-clause-numbers g c =
    let fits : FitsSigned w64 c.args.t = c.ranges.t in
    let same : to_z w64 (of_z w64 c.args.t) ≡ c.args.t = simp to_z-of_z in
    c.in_ok-swept.ensures.numbers ∙ ap (numbers c.args.b.now) same

pub returns-clause-calls : goal.returns-clause-calls
returns-clause-calls g c =
    let made = c.in_ok-make_counted.ensures.number ∙ ap length (c.as_slice.ensures ∙ c.in_ok-swept.ensures.changes) ∙ sym (ap (λ (s : Swept). s.changes) c.in_ok-swept.ensures.numbers) in
    c.in_ok-make_counted.ensures.calls ∙ ap (λ (n : ℕ). risen n (g.W.Warehouse.told c.args.house.now).calls) made
