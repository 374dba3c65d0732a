use Rattle.std.proofs.Common.{◌≡◌}
use Rattle.mesh_model_csv.proofs.external.sources.listed.Given as goal

abbrev pub invariant-loop-source : goal.invariant-loop-source
invariant-loop-source l = l.list ≡ l.yielded
