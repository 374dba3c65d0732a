use Rattle.mesh_keep_records.proofs.Things.{env_tells, head_tells, object_tells, snapshot_tells, source_tells, version_tells, view_tells}
use Rattle.mesh_keep_records.proofs.laws.one_body_one_thing.Goals as goal

pub returns-clause-heads : goal.returns-clause-heads
returns-clause-heads c = head_tells

pub returns-clause-snapshots : goal.returns-clause-snapshots
returns-clause-snapshots c = snapshot_tells

pub returns-clause-versions : goal.returns-clause-versions
returns-clause-versions c = version_tells

pub returns-clause-environments : goal.returns-clause-environments
returns-clause-environments c = env_tells

pub returns-clause-views : goal.returns-clause-views
returns-clause-views c = view_tells

pub returns-clause-objects : goal.returns-clause-objects
returns-clause-objects c = object_tells

pub returns-clause-sources : goal.returns-clause-sources
returns-clause-sources c = source_tells
