use Rattle.std.proofs.Common.{◌≡◌, ◌+◌, drop}
use Rattle.mesh_list.specs.Keyed.{place_of}
use Rattle.mesh_base_values.specs.Names.{name_cmp}
use Rattle.mesh_resolve.specs.Relations.{decl_name}
use Rattle.mesh_resolve.proofs.sources.place_of.Given as goal

abbrev pub invariant-loop-i : goal.invariant-loop-i
invariant-loop-i l = l.i + place_of name_cmp decl_name l.d.name (drop l.i l.list) ≡ place_of name_cmp decl_name l.d.name l.list
