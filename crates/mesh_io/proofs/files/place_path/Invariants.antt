use Rattle.std.proofs.Common.{◌≡◌, ◌++◌, take, drop, length}
use Rattle.mesh_list.specs.Keyed.{placed}
use Rattle.mesh_base_values.specs.Names.{text_cmp}
use Rattle.mesh_io.specs.Files.{same_path}
use Rattle.mesh_io.proofs.files.place_path.Given as goal

abbrev pub invariant-loop-i : goal.invariant-loop-i
invariant-loop-i l = record {
  rest : placed text_cmp same_path l.path l.paths.items ≡ take l.i l.paths.items ++ placed text_cmp same_path l.path (drop l.i l.paths.items);
  same : l.paths.items ≡ l.fn.paths.items;
  end : l.i-end ≡ length l.paths.items;
}
