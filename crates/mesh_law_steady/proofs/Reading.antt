-- A steady incremental model needs no rows but those near its unit, and the tables that a model reads are its
-- sources' and its parents'.
use Rattle.std.proofs.Common.{◌≡◌, true, List, ap}
use Rattle.mesh_base_values.specs.Kinds.{is_incremental}
use Rattle.mesh_base_values.specs.declared.times.Bounds.{Bounds}
use Rattle.mesh_base_values.specs.declared.values.Cell.{Cell}
use Rattle.mesh_base.specs.declared.definitions.Decl.{Decl}
use Rattle.mesh_base.specs.declared.definitions.Own.{Own}
use Rattle.mesh_base.specs.declared.jobs.Input.{Input}
use Rattle.mesh_spec_model.specs.Closures.{Closure, Closures, Model}
use Rattle.mesh_spec_model.specs.Horizons.{Clock}
use Rattle.mesh_spec_model.specs.Scratch.{from_scratch, inputs_of, piece_over}
use Rattle.mesh_spec_model.specs.Sources.{declared, inputs}
use Rattle.mesh_spec_changes.specs.steady.Steady.{is_steady}
use Rattle.mesh_law_steady.specs.Days.{IsOfDay}
use Rattle.mesh_law_steady.specs.Near.{inputs_with, near_model, near_source}
use Rattle.mesh_law_steady.proofs.Finding.{near_piece, tables_are}
use Rattle.mesh_law_steady.proofs.Staying.{its_items}

pub near_unit : (own : Own) (parents : Closures) → is_incremental own.kind ≡ true → is_steady (Model own parents) ≡ true → (u : Bounds) → IsOfDay u → (sources : Decl → List (List Cell)) (models : Closure → List (List Cell))
    → piece_over own (inputs_with sources models own parents) u ≡ piece_over own (inputs_with (near_source u sources) (near_model u models) own parents) u
near_unit own parents timed steady u of sources models = near_piece own parents u of sources models (its_items own parents own.kind timed steady)

pub such_inputs : (sources : List Input) (clock : Clock) (own : Own) (parents : Closures) → inputs_of sources clock (Model own parents) ≡ inputs_with (λ d. (declared sources d).rows) (from_scratch sources clock) own parents
such_inputs sources clock own parents = ap (inputs sources own) (tables_are sources clock parents)
