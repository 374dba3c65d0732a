-- A core has the same horizon and schedule.
use Rattle.std.proofs.Common.{◌≡◌, ℕ, List, ◌++◌, refl, ap, sym}
use Rattle.mesh_base.specs.declared.definitions.Own.{Own}
use Rattle.mesh_spec_model.specs.Closures.{Closure, Closures, Model, Alone, With, own_of}
use Rattle.mesh_spec_model.specs.Horizons.{Clock, with_horizon, horizon_under, horizons_from, horizons_of, horizon, units_from, schedule}
use Rattle.mesh_law_query.specs.Reads.{reads}
use Rattle.mesh_spec_changes.specs.reuse.Cores.{pruned_own, pruned, pruned_for, core}

module _ (clock : Clock) where
  mutual
    pub horizons_pruned : (wanted : List (List ℕ)) (c : Closure) → horizons_from clock (pruned wanted c) ≡ horizons_from clock c
    horizons_pruned wanted (Model own parents) = ap (with_horizon clock own) (horizons_for (pruned_own wanted own) parents)

    pub horizons_for : (own : Own) (cs : Closures) → horizons_of clock (pruned_for own cs) ≡ horizons_of clock cs
    horizons_for own Alone = refl
    horizons_for own (With c cs) = λ i. horizons_pruned (reads own (own_of c).name) c i ++ horizons_for own cs i

  pub horizon_pruned : (wanted : List (List ℕ)) (c : Closure) → horizon clock (pruned wanted c) ≡ horizon clock c
  horizon_pruned wanted (Model own parents) = ap (horizon_under clock own) (horizons_for (pruned_own wanted own) parents)

  pub schedule_pruned : (wanted : List (List ℕ)) (c : Closure) → schedule clock (pruned wanted c) ≡ schedule clock c
  schedule_pruned wanted (Model own parents) = ap (units_from own.start own.unit) (horizon_pruned wanted (Model own parents))

pub horizon_core : (clock : Clock) (c : Closure) → horizon clock c ≡ horizon clock (core c)
horizon_core clock (Model own parents) = sym (ap (horizon_under clock own) (horizons_for clock own parents))

pub schedule_core : (clock : Clock) (c : Closure) → schedule clock c ≡ schedule clock (core c)
schedule_core clock (Model own parents) = ap (units_from own.start own.unit) (horizon_core clock (Model own parents))
