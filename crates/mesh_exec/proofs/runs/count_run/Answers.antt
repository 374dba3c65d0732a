use Rattle.std.proofs.Common.{ℤ, ◌≤◌, ◌-◌, ◌+◌, ◌++◌, length, take, drop, sym, ap, ◌∙◌, arith}
use Rattle.std.specs.declared.option.Option.{Option}
use Rattle.std.proofs.lemmas.List.{take_all}
use Rattle.mesh_exec.specs.Runs.{onward}
use Rattle.mesh_exec.proofs.Running.{on_ends, on_more, on_stops}
use Rattle.mesh_exec.proofs.runs.count_run.Goals as goal

pub returns-then-not-goes_on-clause-front : goal.returns-then-not-goes_on-clause-front
returns-then-not-goes_on-clause-front c =
    sym (on_stops c.args.joins c.args.dues.now c.loop-i.i c.index-dues-i.result c.loop-i.last c.loop-i-test.true c.index-dues-i.is (sym c.goes_on.ensures ∙ c.if-not-goes_on.true)) ∙ c.loop-i.invariant

pub loop-i-preserved : goal.loop-i-preserved
loop-i-preserved c =
    let dues = c.args.dues.now in
    let i = c.loop-i.i in
    ap (λ (e : Option ℤ). take (i + 1) dues ++ onward (256 - (i + 1)) c.args.joins e (drop (i + 1) dues)) c.next_begin-last.ensures
    ∙ sym (on_more c.args.joins dues i c.index-dues-i.result c.loop-i.last c.loop-i-test.true c.index-dues-i.is (omega (arith, c.if-i-ge-MOST_UNITS.false)) (sym c.goes_on.ensures ∙ c.if-not-goes_on.false))
    ∙ c.loop-i.invariant

pub returns-clause-front : goal.returns-clause-front
returns-clause-front c =
    let dues = c.args.dues.now in
    let i = c.loop-i.i in
    let le : length dues ≤ i = omega (arith, c.loop-i-test.false) in
    take_all (length dues) dues (omega arith) ∙ sym (take_all i dues le) ∙ sym (on_ends c.args.joins dues i c.loop-i.last le) ∙ c.loop-i.invariant
