use Rattle.std.proofs.Common.{◌≡◌, true}
use Rattle.mesh_canon_reading.specs.Fits.{text_fits}
use Rattle.mesh_keep_records.specs.Records.{source_fits, source_text}
use Rattle.mesh_keep_records.specs.reading.Reading.{source_in}
use Rattle.mesh_keep_records.proofs.reading.Read.{source_read}
use Rattle.mesh_keep_house.proofs.stored.Bodies.{takes}
use Rattle.mesh_keep_house.proofs.stored.thing.InputThing.read.Goals as goal

pub returns : goal.returns
returns c =
    let t = c.args.body.now in
    let read = c.read_source in
    rw c.as_taken.ensures (takes (text_fits t ≡ true) (λ x. source_fits x ≡ true) (λ x. t ≡ source_text x) (source_in t) (source_read t) c.lies_in_memory.ensures read.result read.ensures.found read.ensures.fits read.ensures.only)
