use Rattle.std.proofs.Common.{◌≡◌, sym, ◌∙◌, ap, subst, true, false, List, map}
use Rattle.std.specs.Prelude.{IfOk}
use Rattle.std.specs.List.Sorted.{IsPermutation, IsSortedBy}
use Rattle.std.specs.Ordering.{is_lt}
use Rattle.mesh_list.specs.Keyed.{ascends}
use Rattle.mesh_base.specs.declared.forgets.Rename.{Rename}
use Rattle.mesh_base.specs.declared.snapshots.Snapshot.{Snapshot}
use Rattle.mesh_base.specs.Keys.{ref_cmp, snapshot_ref}
use Rattle.mesh_house_book.specs.moves.Moves.{renames_of}
use Rattle.mesh_house_book.specs.moves.Renames.{renamed_all, renamed_env}
use Rattle.mesh_house_book.proofs.moves.Migrated.{goes, stays}
use Rattle.mesh_house_book.proofs.moves.migrations.migrate.Goals as goal

abbrev all_up : List Snapshot → Type 0
all_up all = IsSortedBy (λ x y. is_lt (ref_cmp (snapshot_ref x) (snapshot_ref y))) all

pub returns-then-not-ascend-clause-ok : goal.returns-then-not-ascend-clause-ok
returns-then-not-ascend-clause-ok c =
    let book = c.args.book.now in
    let all = c.in_ok-snapshots.snapshots.items in
    let by_moves : IsPermutation (renamed_all (renames_of c.in_ok-moves.moves) book.snapshots) all = subst (λ r. IfOk r (λ made. IsPermutation (renamed_all (renames_of c.in_ok-moves.moves) book.snapshots) made.items)) c.in_ok-snapshots.ensures.0 c.moved.ensures.moved in
    let moved : IsPermutation (renamed_all c.args.renames.now book.snapshots) all = subst (λ (rs : List Rename). IsPermutation (renamed_all rs book.snapshots) all) c.in_ok-moves.ensures by_moves in
    let order : all_up all = subst (λ r. IfOk r (λ made. all_up made.items)) c.in_ok-snapshots.ensures.0 c.moved.ensures.order in
    let not_up : ascends ref_cmp snapshot_ref all ≡ false = ap (ascends ref_cmp snapshot_ref) (sym c.as_slice-2.ensures.value) ∙ sym c.ascend.ensures ∙ c.if-not-ascend.true in
    stays book c.args.renames.now all moved order not_up

pub returns-clause-ok : goal.returns-clause-ok
returns-clause-ok c =
    let book = c.args.book.now in
    let all = c.in_ok-snapshots.snapshots.items in
    let by_moves : IsPermutation (renamed_all (renames_of c.in_ok-moves.moves) book.snapshots) all = subst (λ r. IfOk r (λ made. IsPermutation (renamed_all (renames_of c.in_ok-moves.moves) book.snapshots) made.items)) c.in_ok-snapshots.ensures.0 c.moved.ensures.moved in
    let moved : IsPermutation (renamed_all c.args.renames.now book.snapshots) all = subst (λ (rs : List Rename). IsPermutation (renamed_all rs book.snapshots) all) c.in_ok-moves.ensures by_moves in
    let up : ascends ref_cmp snapshot_ref all ≡ true = ap (ascends ref_cmp snapshot_ref) (sym c.as_slice-2.ensures.value) ∙ sym c.ascend.ensures ∙ c.if-not-ascend.false in
    let by_slice : c.in_ok-snapshots.environments.items ≡ map (renamed_env (renames_of c.in_ok-moves.moves)) c.as_slice.result.now = subst (λ r. IfOk r (λ made. made.items ≡ map (renamed_env (renames_of c.in_ok-moves.moves)) c.as_slice.result.now)) c.in_ok-snapshots.ensures.1 c.renamed_envs.ensures in
    let envs : c.in_ok-snapshots.environments.items ≡ map (renamed_env c.args.renames.now) book.environments = by_slice ∙ (λ i. map (renamed_env (c.in_ok-moves.ensures i)) (c.as_slice.ensures i)) in
    (λ i. record { version = 2; moment = book.moment; snapshots = c.from_vec.ensures i; versions = book.versions; environments = c.from_vec-2.ensures i })
    ∙ goes book c.args.renames.now all moved c.in_ok-snapshots.environments.items up envs
