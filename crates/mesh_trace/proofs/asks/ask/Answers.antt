use Rattle.std.proofs.Common.{◌≡◌, ◌<◌, length, arith, sym, subst}
use Rattle.std.specs.Prelude.{slice_index_or}
use Rattle.mesh_trace.specs.Asks.{Ask}
use Rattle.mesh_trace.proofs.Asking.{asked_is}
use Rattle.mesh_trace.proofs.asks.ask.Goals as goal

pub returns-in_ok-all : goal.returns-in_ok-all
returns-in_ok-all c =
    let asks = c.args.asks.now.items in
    let place = c.args.place in
    let inside : place < length asks = omega (arith, c.if-at-len.true, c.len.ensures) in
    asked_is asks place c.args.more c.replace-asked.new.dest c.replace-asked.result c.in_ok-all.all inside
    (subst (λ (a : Ask). a ≡ slice_index_or asks place a) (sym c.replace-asked.ensures.value) c.index_mut.ensures.value) c.in_ok-all.ensures
