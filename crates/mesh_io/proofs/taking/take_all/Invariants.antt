use Rattle.mesh_io.proofs.Taken.{Taken}
use Rattle.mesh_io.proofs.taking.take_all.Given as goal

abbrev pub invariant-loop : goal.invariant-loop
invariant-loop g l = Taken l.most l.counter l.all (g.S.Source.told l.initial.source) (g.S.Source.told l.source)
