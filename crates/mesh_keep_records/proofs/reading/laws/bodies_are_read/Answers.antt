use Rattle.mesh_keep_records.proofs.reading.Read.{env_read, head_read, object_read, snapshot_read, source_read, version_read, view_read}
use Rattle.mesh_keep_records.proofs.reading.laws.bodies_are_read.Goals as goal

pub returns-clause-heads : goal.returns-clause-heads
returns-clause-heads c = head_read

pub returns-clause-snapshots : goal.returns-clause-snapshots
returns-clause-snapshots c = snapshot_read

pub returns-clause-versions : goal.returns-clause-versions
returns-clause-versions c = version_read

pub returns-clause-environments : goal.returns-clause-environments
returns-clause-environments c = env_read

pub returns-clause-views : goal.returns-clause-views
returns-clause-views c = view_read

pub returns-clause-objects : goal.returns-clause-objects
returns-clause-objects c = object_read

pub returns-clause-sources : goal.returns-clause-sources
returns-clause-sources c = source_read
