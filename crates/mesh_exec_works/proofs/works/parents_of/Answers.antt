use Rattle.std.proofs.Common.{ℕ, map}
use Rattle.std.specs.List.{slice_get}
use Rattle.std.specs.Option.{option_to_list}
use Rattle.mesh_exec_works.specs.Plain.{plain_models, work_model}
use Rattle.mesh_exec_works.proofs.More.{one_place}
use Rattle.mesh_exec_works.proofs.works.parents_of.Goals as goal

pub loop-place-preserved : goal.loop-place-preserved
loop-place-preserved c =
    one_place (λ (k : ℕ). option_to_list (slice_get (plain_models c.args.nodes.now c.args.entries.now) k)) c.args.places.now c.loop-place.place-index (map work_model c.loop-place.models) _ c.loop-place-test.true c.loop-place.invariant
    c.in_ok-push_model.ensures
