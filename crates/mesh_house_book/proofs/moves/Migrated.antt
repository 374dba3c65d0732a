-- A book whose snapshots got their new fingerprints and were sorted.
use Rattle.std.proofs.Common.{◌≡◌, refl, sym, ◌∙◌, ap, Bool, true, false, cond, List, [], ◌∷◌, map}
use Rattle.std.specs.Ordering.{is_lt}
use Rattle.std.specs.List.Sorted.{IsPermutation, IsSortedBy}
use Rattle.mesh_list.specs.Keyed.{ascends, placed}
use Rattle.mesh_base.specs.declared.forgets.Rename.{Rename}
use Rattle.mesh_base.specs.declared.snapshots.Env.{Env}
use Rattle.mesh_base.specs.declared.snapshots.Snapshot.{Snapshot}
use Rattle.mesh_base.specs.Keys.{ref_cmp, refs_exact, refs_total, snapshot_ref}
use Rattle.mesh_house_book.specs.declared.book.Book.{Book}
use Rattle.mesh_house_book.specs.moves.Renames.{has_twins, in_order, migrate, renamed_all, renamed_env}
use Rattle.mesh_house_book.proofs.moves.Sorting.{ordered, twins_moved, no_twins, has_twins as sorted_twins, in_one_order}

order_is : (ss : List Snapshot) → ordered ref_cmp refs_total refs_exact snapshot_ref ss ≡ in_order ss
order_is [] = refl
order_is (s ∷ ss) = ap (placed ref_cmp snapshot_ref s) (order_is ss)

module _ (b : Book) (renames : List Rename) (all : List Snapshot) (moved : IsPermutation (renamed_all renames b.snapshots) all) where
  abbrev new : List Snapshot
  new = renamed_all renames b.snapshots

  abbrev done : List Snapshot → List Env → Book
  done ss es = record b { version = 2; snapshots = ss; environments = es }

  same_twins : has_twins new ≡ has_twins all
  same_twins = twins_moved ref_cmp refs_total refs_exact snapshot_ref new all moved

  pub stays : IsSortedBy (λ (x y : Snapshot). is_lt (ref_cmp (snapshot_ref x) (snapshot_ref y))) all → ascends ref_cmp snapshot_ref all ≡ false → b ≡ migrate b renames
  stays sorted not_up =
      sym (ap (λ (t : Bool). cond t b (done (in_order new) (map (renamed_env renames) b.environments)))
      (same_twins ∙ sorted_twins ref_cmp refs_total refs_exact snapshot_ref all sorted not_up))

  pub goes : (es : List Env) → ascends ref_cmp snapshot_ref all ≡ true → es ≡ map (renamed_env renames) b.environments → done all es ≡ migrate b renames
  goes es up envs =
      (λ i. done ((in_one_order ref_cmp refs_total refs_exact snapshot_ref new all moved up ∙ order_is new) i) (envs i))
      ∙ sym (ap (λ (t : Bool). cond t b (done (in_order new) (map (renamed_env renames) b.environments)))
      (same_twins ∙ no_twins ref_cmp refs_total refs_exact snapshot_ref all up))
