use Rattle.mesh_io.proofs.Edited.{are_distinct-deleted}
use Rattle.mesh_io.proofs.mem_folder.MemFolder.delete.Goals as goal

pub invariant_of-self : goal.invariant_of-self
invariant_of-self c = rw c.delete_in.ensures (are_distinct-deleted c.args.path.now c.self.inside.files.items c.self.invariant)
