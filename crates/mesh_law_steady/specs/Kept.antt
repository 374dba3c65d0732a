-- What has to hold of a model, and of those that it stands on, so that its computed rows stay.
use Rattle.std.specs.Prelude.{◌≡◌, ◌≤ℤ◌, true, List}
use Rattle.std.specs.List.{All}
use Rattle.mesh_base_values.specs.Kinds.{is_incremental}
use Rattle.mesh_base.specs.declared.jobs.Input.{Input}
use Rattle.mesh_base.specs.rules.Proper.{is_body_of}
use Rattle.mesh_spec_model.specs.Closures.{Closure, own_of, standing}
use Rattle.mesh_spec_model.specs.Horizons.{Clock, horizon, schedule}
use Rattle.mesh_spec_changes.specs.steady.Arrives.{KeepsUnits, StaysStatic}
use Rattle.mesh_spec_changes.specs.steady.Steady.{is_steady}

-- The model is a seed exactly where its definition has rows, it is steady, its static sources stay, its timed ones
-- keep the units of its schedule where it is incremental, and its horizon is no earlier afterwards.
pub record IsKept (before after : List Input) (clock later : Clock) (c : Closure) : Type 0 where
  pub body : is_body_of (own_of c).kind (own_of c).defn ≡ true
  pub steady : is_steady c ≡ true
  pub static : All (StaysStatic before after) (own_of c).sources
  pub timed : is_incremental (own_of c).kind ≡ true → All (KeepsUnits before after (schedule clock c)) (own_of c).sources
  pub no_earlier : horizon clock c ≤ℤ horizon later c

-- so it is of a model and of all its ancestors
abbrev pub AreKept : List Input → List Input → Clock → Clock → Closure → Type 0
AreKept before after clock later c = All (IsKept before after clock later) (standing c)
