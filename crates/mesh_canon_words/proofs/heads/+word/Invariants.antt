use Rattle.std.proofs.Common.{length}
use Rattle.mesh_canon_words.proofs.heads.+word.Given as goal

abbrev pub decreases-word : goal.decreases-word
decreases-word g l = length l.table.now
