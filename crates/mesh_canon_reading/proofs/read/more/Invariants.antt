use Rattle.std.proofs.Common.{◌≡◌, ◌-◌, length}
use Rattle.mesh_canon_reading.specs.Reading.{more_at, with_front}
use Rattle.mesh_canon_reading.proofs.read.more.Given as goal

abbrev pub invariant-loop : goal.invariant-loop
invariant-loop g l = with_front l.made (more_at g.T.Readable.reading (length l.bytes - l.counter) l.rest) ≡ with_front l.fn.front (more_at g.T.Readable.reading (length l.bytes) l.bytes)
