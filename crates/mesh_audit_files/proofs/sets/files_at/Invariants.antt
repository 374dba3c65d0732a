use Rattle.std.proofs.Common.{◌≡◌, ◌≤◌, [], map, drop}
use Rattle.std.specs.Option.{ForSome}
use Rattle.mesh_io.specs.Told.{FolderTold}
use Rattle.mesh_audit_files.specs.Files.{IsFileAdded}
use Rattle.mesh_audit_files.specs.Listing.{plain}
use Rattle.mesh_audit_files.proofs.Walking.{Goes}
use Rattle.mesh_audit_files.proofs.sets.files_at.Given as goal

abbrev pub invariant-loop-path : goal.invariant-loop-path
invariant-loop-path g l =
    let before : FolderTold = g.F.Folder.told l.fn.folder in
    let now : FolderTold = g.F.Folder.told l.folder in
    record {
      files : now.files ≡ before.files;
      faults : before.faults ≤ now.faults;
      rest : ForSome before.files (λ fs. Goes (IsFileAdded fs l.dir l.known (map plain l.all)) [] l.paths l.done (drop l.path-index l.paths));
    }
