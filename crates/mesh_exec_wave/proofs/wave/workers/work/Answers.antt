use Rattle.std.proofs.Common.{rules, arith, ap, ◌∙◌}
use Rattle.atomic_table.specs.declared.shared.Seat.{Seat}
use Rattle.mesh_exec_wave.specs.declared.claims.claimed.Claimed.{Claimed}
use Rattle.mesh_exec_wave.proofs.wave.Drawing.{started, one_more, ended, ran_out}
use Rattle.mesh_exec_wave.proofs.wave.workers.work.Goals.{else-loop-test, then-loop-test+then-number-count}
use Rattle.mesh_exec_wave.proofs.wave.workers.work.Goals as goal

pub loop-init : goal.loop-init
loop-init g c = (search rules, search rules, search rules, started _ _ _ c.requires.fresh.1 c.new.ensures)

pub loop-preserved : goal.loop-preserved
loop-preserved g c = (
  search rules,
  search rules,
  search rules,
  one_more _ c.loop.counter c.loop.seat.me.0.drawn _ _ _ c.draw-number.result c.loop.invariant.3 (omega (arith, c.if-number-count.false, c.count-count.ensures.number)) (ap (λ (v : Claimed). v.drawn) c.draw-number.ensures.drawn) c.with_part-made.ensures,
)

pub returns-clause-done : goal.returns-clause-done
returns-clause-done g c = elim c.loop-test.branch [
  | else-loop-test w ↦
      ran_out _ c.loop.counter 257 c.loop.seat.me.0.drawn _ c.loop.made c.loop.invariant.3 (omega (arith, c.loop.auto.counter-end, c.count-count.ensures.few)) (omega (arith, w.loop-test.false, c.count-count.ensures.number)) (ap (λ (s : Seat (Unit {0}) Claimed). s.me.0.drawn) w.seat-is)
  | then-loop-test+then-number-count w ↦
      ended _ c.loop.counter 257 c.loop.seat.me.0.drawn _ c.loop.made w.draw-number.result c.loop.invariant.3 (omega (arith, w.loop-test.true, c.count-count.ensures.few)) (omega (arith, w.if-number-count.true, c.count-count.ensures.number)) (ap (λ (s : Seat (Unit {0}) Claimed). s.me.0.drawn) w.seat-is ∙ ap (λ (v : Claimed). v.drawn) w.draw-number.ensures.drawn)
]
