use Rattle.std.proofs.Common.{◌≡◌, true, take, map}
use Rattle.std.specs.List.{list_all}
use Rattle.mesh_keep_house.specs.touched.Touched.{thing_fits, write_of}
use Rattle.mesh_keep_house.proofs.touched.writing.writes_of.Given as goal

abbrev pub invariant-loop-thing : goal.invariant-loop-thing
invariant-loop-thing l = (l.made ≡ map (write_of l.world) (take l.thing-index l.things)) × (list_all (thing_fits l.world) (take l.thing-index l.things) ≡ true)
