use Rattle.std.proofs.Common.{rules}
use Rattle.std.proofs.lemmas.List.Sorted.{answers_always}
use Rattle.mesh_time.proofs.Without.{sorted_seconds, sorted_rises}
use Rattle.mesh_time.proofs.cuts.in_order.Goals as goal

pub returns-clause-seconds : goal.returns-clause-seconds
returns-clause-seconds c = sorted_seconds c.args.gone.now c.in_ok-all.all.items c.sort_by_key.new.self.items c.in_ok-all.ensures c.in_ok-sort_by_key.ensures.permutation

pub returns-clause-order : goal.returns-clause-order
returns-clause-order c =
    sorted_rises c.args.gone.now c.in_ok-all.all.items c.sort_by_key.new.self.items c.in_ok-all.ensures c.in_ok-sort_by_key.ensures.permutation
    (c.in_ok-sort_by_key.ensures.sorted (λ b. b.start) (answers_always _ _ _ (λ f a r g h. search rules)))
