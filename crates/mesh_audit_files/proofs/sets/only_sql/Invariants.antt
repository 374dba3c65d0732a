use Rattle.std.proofs.Common.{◌≡◌, take}
use Rattle.std.specs.List.{filter}
use Rattle.mesh_project_files.specs.Places.{is_sql}
use Rattle.mesh_audit_files.proofs.sets.only_sql.Given as goal

abbrev pub invariant-loop-path : goal.invariant-loop-path
invariant-loop-path l = l.kept ≡ filter is_sql (take l.path-index l.paths)
