use Rattle.std.proofs.Common.{◌≡◌, true}
use Rattle.mesh_canon_reading.specs.Fits.{text_fits}
use Rattle.mesh_keep_records.specs.Records.{env_fits, env_text}
use Rattle.mesh_keep_records.specs.reading.Reading.{env_in}
use Rattle.mesh_keep_records.proofs.reading.Read.{env_read}
use Rattle.mesh_keep_house.proofs.stored.Bodies.{takes}
use Rattle.mesh_keep_house.proofs.stored.thing.EnvThing.read.Goals as goal

pub returns : goal.returns
returns c =
    let t = c.args.body.now in
    let read = c.read_env in
    rw c.as_taken.ensures (takes (text_fits t ≡ true) (λ x. env_fits x ≡ true) (λ x. t ≡ env_text x) (env_in t) (env_read t) c.lies_in_memory.ensures read.result read.ensures.found read.ensures.fits read.ensures.only)
