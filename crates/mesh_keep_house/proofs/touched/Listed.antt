-- What was listed is what follows a change.
use Rattle.std.proofs.Common.{◌≡◌, true, List, ◌++◌, sym, ap, ◌∙◌, map}
use Rattle.std.specs.List.{list_all}
use Rattle.mesh_house.specs.declared.world.Change.{Change}
use Rattle.mesh_house.specs.declared.world.World.{World}
use Rattle.mesh_house.specs.Step.{step}
use Rattle.mesh_keep.specs.declared.kept.Write.{Write}
use Rattle.mesh_keep_house.specs.declared.touched.things.Thing.{Thing}
use Rattle.mesh_keep_house.specs.touched.Touched.{Follows, about, noted, thing_fits, touched, write_of}

pub follows : (w v : World) (c : Change) (ws : List Write) (first more all : List Thing) → first ≡ noted w c → v ≡ step w c → more ≡ about v c → all ≡ first ++ more → ws ≡ map (write_of v) all → list_all (thing_fits v) all ≡ true → Follows w c v ws
follows w v c ws first more all before now after both made fits =
    let each : all ≡ touched w c = both ∙ (λ i. before i ++ (after ∙ ap (λ (x : World). about x c) now) i) in
    record {
      stepped = now;
      writes = made ∙ ap (map (write_of v)) each;
      fits = sym (ap (list_all (thing_fits v)) each) ∙ fits;
    }
