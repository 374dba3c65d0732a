-- The models of a project's plan are apart and ranked.
use Rattle.std.proofs.Common.{◌≡◌, true, List, [], ap}
use Rattle.std.specs.declared.option.Option.{Option}
use Rattle.mesh_base.specs.declared.forgets.Restate.{Restate}
use Rattle.mesh_base.specs.declared.snapshots.Node.{Node}
use Rattle.mesh_base.specs.rules.Proper.{is_proper}
use Rattle.mesh_house_book.specs.declared.book.Book.{Book}
use Rattle.mesh_spec_model.specs.Horizons.{Clock}
use Rattle.mesh_law_query.proofs.Has.{Has_to}
use Rattle.mesh_spec_changes.specs.due.Plans.{Planned}
use Rattle.mesh_spec_changes.specs.Changes.{Plan}
use Rattle.mesh_spec_changes.specs.Planning.{IsPlan}
use Rattle.mesh_law_reuse.proofs.Single.{single}
use Rattle.mesh_spec_promise.specs.Sound.{IsBookSound}
use Rattle.mesh_law_changes.specs.along.Ready.{AreApart, AreRanked}
use Rattle.mesh_law_steps.proofs.opens.Ranked.{models_apart, models_ranked}

pub plan_apart_and_ranked : (clock : Clock) (b : Book) (nodes : List Node) (restate : Option Restate) (plan : Plan) → IsBookSound b → is_proper nodes ≡ true → IsPlan clock b nodes restate plan
    → AreApart plan.models × AreRanked plan.models [] plan.models
plan_apart_and_ranked clock b nodes restate plan sound proper is = (
  models_apart nodes proper plan.models is.models
      (λ p q k l same. ap (λ (r : Planned). r.node.own.name) (single clock b nodes restate plan sound.well_formed proper is sound.shared p q (Has_to plan.models p k) (Has_to plan.models q l) same)),
  models_ranked nodes proper plan.models is.models,
)
