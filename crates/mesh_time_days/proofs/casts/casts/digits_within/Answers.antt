use Rattle.std.proofs.Common.{sym, arith, refl, ◌∙◌}
use Rattle.std.proofs.lemmas.List.{drop_more}
use borrow.Author.Tests.{le-leb, lt-leb}
use Rattle.mesh_time_days.proofs.casts.Digits.{past_here, no_digit, one_more, all_read}
use Rattle.mesh_time_days.proofs.casts.casts.digits_within.Goals as goal

pub returns-then-n-most : goal.returns-then-n-most
returns-then-n-most c =
    let at = drop_more c.args.text.now c.loop-byte.byte-index 0 c.loop-byte-test.true in
    past_here c.args.most c.loop-byte.n _ c.args.text.now _ c.loop-byte.byte-index c.if-n-most.true at c.loop-byte.invariant.digits

pub returns-then-not-is_ascii_digit : goal.returns-then-not-is_ascii_digit
returns-then-not-is_ascii_digit c =
    let at = drop_more c.args.text.now c.loop-byte.byte-index 0 c.loop-byte-test.true in
    no_digit c.args.most c.loop-byte.n _ c.args.text.now _ c.loop-byte.byte-index (sym c.is_ascii_digit.ensures.value ∙ c.if-not-is_ascii_digit.true) at c.loop-byte.invariant.digits

pub loop-byte-preserved : goal.loop-byte-preserved
loop-byte-preserved c =
    let at = drop_more c.args.text.now c.loop-byte.byte-index 0 c.loop-byte-test.true in
    record {
      within = omega (arith, c.from.ensures, c.if-not-is_ascii_digit.ensures.cases);
      digits = rw c.from.ensures (one_more c.loop-byte.n _ c.args.text.now _ c.loop-byte.byte-index (sym c.is_ascii_digit.ensures.value ∙ c.if-not-is_ascii_digit.false) at c.loop-byte.invariant.digits);
    }

pub returns-then-n-most-2 : goal.returns-then-n-most-2
returns-then-n-most-2 c =
    let done = all_read c.args.most c.loop-byte.n c.args.text.now c.loop-byte.byte-index c.loop-byte-test.false c.loop-byte.invariant.digits in
    rw (done, le-leb c.loop-byte.n c.args.most c.if-n-most-2.true) refl

pub returns-else-n-most-2 : goal.returns-else-n-most-2
returns-else-n-most-2 c =
    let done = all_read c.args.most c.loop-byte.n c.args.text.now c.loop-byte.byte-index c.loop-byte-test.false c.loop-byte.invariant.digits in
    rw (done, lt-leb c.loop-byte.n c.args.most c.if-n-most-2.false) refl
