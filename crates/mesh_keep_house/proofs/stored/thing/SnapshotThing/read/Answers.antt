use Rattle.std.proofs.Common.{◌≡◌, true}
use Rattle.mesh_canon_reading.specs.Fits.{text_fits}
use Rattle.mesh_keep_records.specs.Records.{IsSnapshotText, snapshot_fits}
use Rattle.mesh_keep_records.specs.reading.Reading.{snapshot_in}
use Rattle.mesh_keep_records.proofs.reading.Read.{snapshot_read}
use Rattle.mesh_keep_house.proofs.stored.Bodies.{takes}
use Rattle.mesh_keep_house.proofs.stored.thing.SnapshotThing.read.Goals as goal

pub returns : goal.returns
returns c =
    let t = c.args.body.now in
    let read = c.read_snapshot in
    rw c.as_taken.ensures (takes (text_fits t ≡ true) (λ x. snapshot_fits x ≡ true) (λ x. IsSnapshotText t x) (snapshot_in t) (snapshot_read t) c.lies_in_memory.ensures read.result read.ensures.found read.ensures.fits read.ensures.only)
