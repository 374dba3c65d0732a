use Rattle.std.proofs.Common.{◌≡◌, ◌≤◌, drop}
use Rattle.std.specs.List.{All}
use Rattle.std.specs.Option.{ForSome}
use Rattle.mesh_io.specs.Told.{FolderTold}
use Rattle.mesh_project_files.specs.Kept.{IsReadFile}
use Rattle.mesh_project_files.proofs.Reading.{Goes}
use Rattle.mesh_project_files.proofs.read.gather.Given as goal

abbrev pub invariant-loop-path : goal.invariant-loop-path
invariant-loop-path g l =
    let before : FolderTold = g.F.Folder.told l.fn.folder in
    let now : FolderTold = g.F.Folder.told l.folder in
    record {
      files : now.files ≡ before.files;
      faults : before.faults ≤ now.faults;
      kept : All IsReadFile l.models;
      rest : ForSome before.files (λ fs. Goes fs l.dir l.paths (drop l.path-index l.paths) l.models);
    }
