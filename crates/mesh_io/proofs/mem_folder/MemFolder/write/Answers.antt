use Rattle.mesh_io.proofs.Edited.{are_distinct-rewritten}
use Rattle.mesh_io.proofs.mem_folder.MemFolder.write.Goals as goal

pub invariant_of-self-2 : goal.invariant_of-self-2
invariant_of-self-2 c = rw c.in_ok-write_in.ensures.ok (are_distinct-rewritten c.args.file c.self.inside.files.items c.self.invariant)
