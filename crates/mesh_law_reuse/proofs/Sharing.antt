-- Twins have the same rows, times and marks.
use Rattle.std.proofs.Common.{◌≡◌, List, ap, sym, ◌∙◌}
use Rattle.mesh_base_values.specs.declared.times.Bounds.{Bounds}
use Rattle.mesh_base.specs.declared.jobs.Input.{Input}
use Rattle.mesh_spec_model.specs.Closures.{Closure}
use Rattle.mesh_spec_model.specs.Horizons.{Clock, horizon, schedule}
use Rattle.mesh_spec_model.specs.Scratch.{from_scratch, piece}
use Rattle.mesh_spec_changes.specs.reuse.Cores.{core, IsTwin}
use Rattle.mesh_spec_changes.specs.due.Marks.{marks}
use Rattle.mesh_law_reuse.proofs.Horizons.{horizon_core, schedule_core}
use Rattle.mesh_law_reuse.proofs.Cores.{piece_core, scratch_core}
use Rattle.mesh_law_reuse.proofs.Marking.{marks_core}

-- what is the same of each closure and its core is the same of twins
of_twins : {X : Type 0} (f : Closure → X) → ((c : Closure) → f c ≡ f (core c)) → (a b : Closure) → IsTwin a b → f a ≡ f b
of_twins f same a b e = same a ∙ ap f e ∙ sym (same b)

pub same_rows : (a b : Closure) → IsTwin a b → (sources : List Input) (clock : Clock) → from_scratch sources clock a ≡ from_scratch sources clock b
same_rows a b e sources clock = of_twins (from_scratch sources clock) (scratch_core sources clock) a b e

pub same_pieces : (a b : Closure) → IsTwin a b → (sources : List Input) (clock : Clock) (u : Bounds) → piece sources clock a u ≡ piece sources clock b u
same_pieces a b e sources clock u = of_twins (λ c. piece sources clock c u) (λ c. piece_core sources clock c u) a b e

pub same_horizons : (a b : Closure) → IsTwin a b → (clock : Clock) → horizon clock a ≡ horizon clock b
same_horizons a b e clock = of_twins (horizon clock) (horizon_core clock) a b e

pub same_schedules : (a b : Closure) → IsTwin a b → (clock : Clock) → schedule clock a ≡ schedule clock b
same_schedules a b e clock = of_twins (schedule clock) (schedule_core clock) a b e

pub twin_marks : (a b : Closure) → IsTwin a b → (clock : Clock) → marks clock a ≡ marks clock b
twin_marks a b e clock = of_twins (marks clock) (marks_core clock) a b e
