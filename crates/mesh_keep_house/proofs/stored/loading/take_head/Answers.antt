use Rattle.std.proofs.Common.{◌≡◌, true}
use Rattle.mesh_canon_reading.specs.Fits.{text_fits}
use Rattle.mesh_keep_records.specs.Records.{head_fits, head_text}
use Rattle.mesh_keep_records.specs.reading.Reading.{head_in}
use Rattle.mesh_keep_records.proofs.reading.Read.{head_read}
use Rattle.mesh_keep_house.proofs.stored.Bodies.{takes}
use Rattle.mesh_keep_house.proofs.stored.loading.take_head.Goals as goal

pub returns : goal.returns
returns c =
    let t = c.args.body.now in
    let read = c.read_head in
    rw c.as_taken.ensures (takes (text_fits t ≡ true) (λ x. head_fits x ≡ true) (λ x. t ≡ head_text x) (head_in t) (head_read t) c.lies_in_memory.ensures read.result read.ensures.found read.ensures.fits read.ensures.only)
