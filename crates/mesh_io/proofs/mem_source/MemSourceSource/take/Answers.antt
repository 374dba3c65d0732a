use Rattle.std.proofs.Common.{◌≡◌, ◌∙◌, ap, Some, take, drop, arith}
use Rattle.std.proofs.lemmas.Grind.{common_steps}
use Rattle.mesh_io.proofs.Moved.{piece_and_rest, piece_within, piece_at_end}
use Rattle.mesh_io.proofs.mem_source.MemSourceSource.take.Goals as goal

pub returns-clause-told : goal.returns-clause-told
returns-clause-told c =
    let bytes = c.self.inside.bytes in
    let at = c.self.inside.at in
    let piece = c.in_ok-piece.piece in
    let is : piece ≡ take c.args.most (drop at bytes) = c.in_ok-piece.ensures.made ∙ ap (take c.args.most) c.rest_of.ensures.rest in
    rw (← c.self.view_is, c.len.ensures) (record {
      counts = grind (arith, common_steps);
      ok = ap Some (piece_and_rest bytes piece at c.args.most is);
      most_bytes = piece_within bytes piece at c.args.most is;
      at_end = piece_at_end bytes piece at c.args.most is c.requires;
      refused = tt;
    })
