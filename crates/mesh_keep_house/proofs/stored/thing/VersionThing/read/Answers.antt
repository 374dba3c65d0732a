use Rattle.std.proofs.Common.{◌≡◌, true}
use Rattle.mesh_canon_reading.specs.Fits.{text_fits}
use Rattle.mesh_keep_records.specs.Records.{version_fits, version_text}
use Rattle.mesh_keep_records.specs.reading.Reading.{version_in}
use Rattle.mesh_keep_records.proofs.reading.Read.{version_read}
use Rattle.mesh_keep_house.proofs.stored.Bodies.{takes}
use Rattle.mesh_keep_house.proofs.stored.thing.VersionThing.read.Goals as goal

pub returns : goal.returns
returns c =
    let t = c.args.body.now in
    let read = c.read_version in
    rw c.as_taken.ensures (takes (text_fits t ≡ true) (λ x. version_fits x ≡ true) (λ x. t ≡ version_text x) (version_in t) (version_read t) c.lies_in_memory.ensures read.result read.ensures.found read.ensures.fits read.ensures.only)
