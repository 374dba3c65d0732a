use Rattle.std.proofs.Common.{◌≡◌, ◌++◌, take, drop, length}
use Rattle.mesh_io.specs.Files.{deleted}
use Rattle.mesh_io.proofs.mem_folder.delete_in.Given as goal

abbrev pub invariant-loop-i : goal.invariant-loop-i
invariant-loop-i l = record {
  rest : deleted l.path l.files.items ≡ take l.i l.files.items ++ deleted l.path (drop l.i l.files.items);
  same : l.files.items ≡ l.fn.files.items;
  end : l.i-end ≡ length l.files.items;
}
