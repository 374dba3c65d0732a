use Rattle.std.proofs.Common.{rules}
use Rattle.std.specs.Ordering.{is_lt}
use Rattle.std.proofs.lemmas.List.Sorted.{answers_always, ranks_by}
use Rattle.mesh_base.specs.Keys.{ref_cmp, refs_total, snapshot_ref}
use Rattle.mesh_house_book.proofs.moves.orders.sorted.Goals as goal

pub returns-clause-order : goal.returns-clause-order
returns-clause-order c =
    c.in_ok-sort_by.ensures.sorted (λ x y. is_lt (ref_cmp (snapshot_ref x) (snapshot_ref y))) (ranks_by refs_total snapshot_ref)
    (answers_always _ _ _ (λ f a r g h. search rules))
