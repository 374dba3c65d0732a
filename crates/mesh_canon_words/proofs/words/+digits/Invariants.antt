use Rattle.std.proofs.Common.{length}
use Rattle.mesh_canon_words.proofs.words.+digits.Given as goal

abbrev pub decreases-digits : goal.decreases-digits
decreases-digits l = length l.bytes.now
