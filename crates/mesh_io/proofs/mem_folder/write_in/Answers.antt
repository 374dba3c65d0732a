use Rattle.std.proofs.Common.{◌≡◌, true, sym, ◌∙◌, ap, arith}
use Rattle.std.specs.Ordering.{is_eq}
use Rattle.mesh_base_values.specs.Names.{text_cmp}
use Rattle.mesh_io.specs.Files.{rewritten}
use Rattle.mesh_io.proofs.Edited.{rewritten_same}
use Rattle.mesh_io.proofs.mem_folder.write_in.Goals as goal

pub returns-then-is_eq-clause-ok : goal.returns-then-is_eq-clause-ok
returns-then-is_eq-clause-ok c =
    let same : is_eq (text_cmp c.index.result.now.path c.args.file.path) ≡ true = cc (ap is_eq c.compare.ensures) in
    sym (rewritten_same c.args.file c.loop-i.files.items c.loop-i.i c.index.result.now (omega arith) c.index.ensures same)
    ∙ sym c.loop-i.invariant.rest ∙ ap (rewritten c.args.file) c.loop-i.invariant.same
