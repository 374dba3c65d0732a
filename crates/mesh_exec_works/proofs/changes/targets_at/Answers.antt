use Rattle.std.proofs.Common.{ℕ}
use Rattle.std.specs.List.{slice_get}
use Rattle.std.specs.Option.{option_to_list}
use Rattle.mesh_spec_changes.specs.Changes.{target_of}
use Rattle.mesh_exec_works.specs.Plain.{plain_models}
use Rattle.mesh_exec_works.proofs.More.{one_made}
use Rattle.mesh_exec_works.proofs.changes.targets_at.Goals as goal

pub loop-place-preserved : goal.loop-place-preserved
loop-place-preserved c =
    one_made target_of (λ (k : ℕ). option_to_list (slice_get (plain_models c.args.nodes.now c.args.entries.now) k)) c.args.places.now c.loop-place.place-index c.loop-place.made _ c.loop-place-test.true c.loop-place.invariant
    c.in_ok-push_target_at.ensures
