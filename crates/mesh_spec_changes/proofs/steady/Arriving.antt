-- Sources that stay as they are arrive.
use Rattle.std.proofs.Common.{List, [], ◌∷◌, refl}
use Rattle.std.specs.List.{All}
use Rattle.std.proofs.lemmas.List.Elements.{All-nil, All-cons}
use Rattle.mesh_base.specs.declared.definitions.Decl.{Decl}
use Rattle.mesh_base.specs.declared.jobs.Input.{Input}
use Rattle.mesh_house.specs.declared.world.World.{World}
use Rattle.mesh_spec_changes.specs.listed.Closing.{closing}
use Rattle.mesh_spec_model.specs.Horizons.{schedule}
use Rattle.mesh_base_values.specs.declared.times.Bounds.{Bounds}
use Rattle.mesh_spec_changes.specs.steady.Arrives.{Arrives, StaysStatic, KeepsUnits}

each_static : (sources : List Input) (ds : List Decl) → All (StaysStatic sources sources) ds
each_static sources [] = All-nil (StaysStatic sources sources)
each_static sources (d ∷ ds) = All-cons (StaysStatic sources sources) d ds (λ static. refl) (each_static sources ds)

each_timed : (sources : List Input) (units : List Bounds) (ds : List Decl) → All (KeepsUnits sources sources units) ds
each_timed sources units [] = All-nil (KeepsUnits sources sources units)
each_timed sources units (d ∷ ds) = All-cons (KeepsUnits sources sources units) d ds (λ time timed u known row. refl) (each_timed sources units ds)

pub as_they_are : (w : World) → Arrives w w.sources
as_they_are w = record {
  static = λ s known. each_static w.sources s.own.sources;
  timed = λ clock now s known incremental. each_timed w.sources (schedule clock (closing w.book.snapshots s)) s.own.sources;
}
