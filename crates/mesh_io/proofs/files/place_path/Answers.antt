use Rattle.std.proofs.Common.{sym, ◌∙◌, ap, arith}
use Rattle.mesh_list.specs.Keyed.{placed}
use Rattle.mesh_list.proofs.Placed.{placed_same}
use Rattle.mesh_base_values.specs.Names.{text_cmp}
use Rattle.mesh_io.specs.Files.{same_path}
use Rattle.mesh_io.proofs.files.place_path.Goals as goal

pub returns-in-Equal-clause-ok : goal.returns-in-Equal-clause-ok
returns-in-Equal-clause-ok c =
    sym (placed_same text_cmp same_path c.args.path c.loop-i.paths.items c.loop-i.i c.index.result.now (omega arith) c.index.ensures (sym c.compare.ensures ∙ c.in-Equal.is))
    ∙ sym c.loop-i.invariant.rest ∙ ap (placed text_cmp same_path c.args.path) c.loop-i.invariant.same
