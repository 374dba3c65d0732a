use Rattle.std.proofs.Common.{◌≡◌, ◌-◌, ◌+◌, ◌≤◌, length, [], arith, true, false, sym, ◌∙◌}
use Rattle.mesh_io.proofs.Taken.{nothing_taken, one_more, ends, refuses, full, lost}
use Rattle.mesh_io.proofs.taking.take_all.Goals as goal

pub loop-init : goal.loop-init
loop-init g c = rw c.new-all.ensures (nothing_taken c.args.most _)

pub overflow_sub-room : goal.overflow_sub-room
overflow_sub-room g c = omega (arith, c.loop.invariant.most_bytes, c.len.ensures)

pub returns-then-room-eq0 : goal.returns-then-room-eq0
returns-then-room-eq0 g c = full _ _ _ _ _ c.loop.invariant (omega (arith, c.if-room-eq0.true, c.len.ensures))

pub returns-in_err-piece : goal.returns-in_err-piece
returns-in_err-piece g c =
    let within : (c.args.most - c.len.result) + length c.loop.all ≤ c.args.most = omega (arith, c.len.ensures, c.loop.invariant.most_bytes) in
    refuses _ _ _ _ _ _ _ c.loop.invariant within c.in_err-piece.field-0.0 _ c.in_err-piece.ensures c.from_residual.ensures.1

pub returns-then-is_empty : goal.returns-then-is_empty
returns-then-is_empty g c =
    let within : (c.args.most - c.len.result) + length c.loop.all ≤ c.args.most = omega (arith, c.len.ensures, c.loop.invariant.most_bytes) in
    ends _ _ _ _ _ _ _ c.loop.invariant within c.in_ok-piece.piece c.in_ok-piece.ensures (c.is_empty.ensures.0 c.if-is_empty.true)

pub returns-in_err-append : goal.returns-in_err-append
returns-in_err-append g c = lost _ _ _ _ _ c.loop.invariant _ c.in_ok-piece.piece _ _ c.in_ok-piece.ensures c.from_residual-in_err-append.ensures.1

pub loop-preserved : goal.loop-preserved
loop-preserved g c =
    let within : (c.args.most - c.len.result) + length c.loop.all ≤ c.args.most = omega (arith, c.len.ensures, c.loop.invariant.most_bytes) in
    let some : c.in_ok-piece.piece ≡ [] → ⊥ = λ none. let no : true ≡ false = sym (c.is_empty.ensures.1 none) ∙ c.if-is_empty.false in cc in
    rw c.in_ok-append.ensures (one_more _ _ _ _ _ _ _ c.loop.invariant within c.in_ok-piece.piece c.in_ok-piece.ensures some)

pub returns : goal.returns
returns g c = full _ _ _ _ _ c.loop.invariant (omega (arith, c.loop-test.false, c.loop.invariant.turns_bytes))
