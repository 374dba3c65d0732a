use Rattle.std.proofs.Common.{◌≡◌, ◌≤◌, take, filter, length}
use Rattle.mesh_project_files.specs.Places.{is_sql}
use Rattle.mesh_project_files.proofs.files.sql_count.Given as goal

abbrev pub invariant-loop-path : goal.invariant-loop-path
invariant-loop-path l = record {
  within : l.count ≤ l.path-index;
  counted : l.count ≡ length (filter is_sql (take l.path-index l.paths));
}
