use Rattle.std.proofs.Common.{◌≡◌, true}
use Rattle.mesh_canon_reading.specs.Fits.{text_fits}
use Rattle.mesh_keep_records.specs.Records.{view_text}
use Rattle.mesh_keep_records.specs.reading.Reading.{view_in}
use Rattle.mesh_keep_records.proofs.reading.Read.{view_read}
use Rattle.mesh_keep_house.proofs.stored.Bodies.{takes_any}
use Rattle.mesh_keep_house.proofs.stored.thing.ViewOfThing.read.Goals as goal

pub returns : goal.returns
returns c =
    let t = c.args.body.now in
    let read = c.read_view in
    rw c.as_taken.ensures (takes_any (text_fits t ≡ true) (λ x. t ≡ view_text x) (view_in t) (view_read t) c.lies_in_memory.ensures read.result read.ensures.found read.ensures.only)
