-- Sources that a model can't tell apart.
use Rattle.std.specs.Prelude.{List}
use Rattle.std.specs.List.{All}
use Rattle.mesh_base_values.specs.Bag.{IsSameBag}
use Rattle.mesh_base.specs.declared.jobs.Input.{Input}
use Rattle.mesh_base.specs.declared.definitions.Decl.{Decl}
use Rattle.mesh_base.specs.declared.definitions.Own.{Own}
use Rattle.mesh_spec_model.specs.Closures.{Closure, own_of, standing}
use Rattle.mesh_spec_model.specs.Sources.{declared}

-- each source that a definition declares, cut to the columns that it declares, has the same rows, each as often
abbrev pub HasSameSources : List Input → List Input → Own → Type 0
HasSameSources a b own = All (λ (d : Decl). IsSameBag (declared a d).rows (declared b d).rows) own.sources

-- so it is for a model and for all its ancestors
abbrev pub HaveSameSources : List Input → List Input → Closure → Type 0
HaveSameSources a b c = All (λ s. HasSameSources a b (own_of s)) (standing c)
