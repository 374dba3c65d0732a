use Rattle.std.specs.Prelude.{codes}
use Rattle.mesh_canon_text.specs.Text.{lookback_by, text_of}
use Rattle.mesh_canon_text.proofs.Joined.{four}
use Rattle.mesh_canon_text.proofs.definition_text.put_incremental.Goals as goal

pub returns : goal.returns
returns c =
    four c.put.result c.args.out.now.items c.put_text_behind.new.out.items c.put_lookback.new.out.items c.put.new.out.items (codes "(incremental ") (text_of c.args.time.now) (lookback_by c.args.form c.args.lookback) (codes ")")
    c.in_ok-put_text_behind.ensures c.in_ok-put_lookback.ensures c.put.ensures
