-- Snapshots that get other fingerprints keep their closures.
use Rattle.std.proofs.Common.{◌≡◌, ℕ, zero, suc, Bool, true, false, inl, inr, List, [], ◌∷◌, map, Some, None, refl, sym, ◌∙◌, ap, if◌then◌else◌}
use Rattle.std.specs.List.{All, slice_index_or}
use Rattle.std.specs.Option.{option_map}
use Rattle.std.specs.declared.option.Option.{Option}
use Rattle.mesh_list.specs.Keyed.{found}
use Rattle.mesh_base.specs.Keys.{ref_cmp, refs_exact, refs_total, snapshot_ref}
use Rattle.mesh_base.specs.declared.forgets.Rename.{Rename}
use Rattle.mesh_base.specs.declared.snapshots.Env.{Env}
use Rattle.mesh_base.specs.declared.snapshots.Ref.{Ref}
use Rattle.mesh_base.specs.declared.snapshots.Snapshot.{Snapshot}
use Rattle.mesh_house_book.specs.declared.book.Book.{Book}
use Rattle.mesh_house_book.specs.WellFormed.{are_kept, is_kept, snapshot_at, is_well_formed_book}
use Rattle.mesh_house_book.specs.moves.Renames.{has_twins, in_order, migrate, rename_old, renamed, renamed_all, renamed_by, renamed_env, renamed_snapshot}
use Rattle.mesh_spec_model.specs.Closures.{Model, with_parent}
use Rattle.mesh_law_query.proofs.Has.{Has}
use Rattle.mesh_spec_changes.specs.listed.Closing.{closed, closing, closure_at, parents_by, IsSnapshot}
use Rattle.mesh_list.proofs.Ascends.{and_left, and_right}
use Rattle.mesh_spec_changes.specs.listed.Listed.{is_list_fit}
use Rattle.mesh_spec_changes.proofs.listed.Books.{IsParent, fits, is_its_own, kept_at}
use Rattle.mesh_spec_changes.proofs.listed.Entries.{env_lists_fit}
use Rattle.mesh_spec_changes.proofs.Distinct.{found_anew, found_ordered}

-- a snapshot has its reference with the new fingerprint
ref_by : (o : Option Rename) (s : Snapshot) → snapshot_ref (record s { fingerprint = (renamed_by o (snapshot_ref s)).fingerprint }) ≡ renamed_by o (snapshot_ref s)
ref_by None s = refl
ref_by (Some m) s = refl

module _ (b : Book) (well : is_well_formed_book b ≡ true) (renames : List Rename) (fine : has_twins (renamed_all renames b.snapshots) ≡ false) where
  abbrev all : List Snapshot
  all = b.snapshots

  abbrev new : List Snapshot
  new = in_order (renamed_all renames all)

  its_ref : (s : Snapshot) → snapshot_ref (renamed_snapshot renames s) ≡ renamed renames (snapshot_ref s)
  its_ref s = ref_by (found ref_cmp rename_old (snapshot_ref s) renames) s

  there : (r : Ref) (s : Snapshot) → snapshot_at all r ≡ Some s → snapshot_at new (renamed renames r) ≡ Some (renamed_snapshot renames s)
  there r s e =
      found_ordered ref_cmp refs_total refs_exact snapshot_ref (renamed renames r) (renamed_all renames all)
      ∙ found_anew ref_cmp refs_total refs_exact snapshot_ref (renamed_snapshot renames) (renamed renames) its_ref r all s fine e

  parents_move : (depth : ℕ) → ((p : Snapshot) → IsSnapshot all p → closed new depth (renamed_snapshot renames p) ≡ closed all depth p)
      → (rank : ℕ) (refs : List Ref) → ((r : Ref) → Has r refs → IsParent all rank r) → parents_by (closed new depth) new (map (renamed renames) refs) ≡ parents_by (closed all depth) all refs
  parents_move depth same rank [] h = refl
  parents_move depth same rank (r ∷ rs) h =
      let p = h r (inl refl) in
      ap (λ (o : Option Snapshot). with_parent (option_map (closed new depth) o) (parents_by (closed new depth) new (map (renamed renames) rs))) (there r p.snapshot p.known)
      ∙ (λ i. with_parent (Some (same p.snapshot (is_its_own all r p.snapshot p.known) i)) (parents_move depth same rank rs (λ t k. h t (inr k)) i))
      ∙ sym (ap (λ (o : Option Snapshot). with_parent (option_map (closed all depth) o) (parents_by (closed all depth) all rs)) p.known)

  closed_moves : (depth : ℕ) (p : Snapshot) → IsSnapshot all p → closed new depth (renamed_snapshot renames p) ≡ closed all depth p
  closed_moves zero p known = refl
  closed_moves (suc depth) p known = ap (Model p.own) (parents_move depth (closed_moves depth) p.rank p.parents (fits b p well known).parents)

  abbrev after : List Snapshot
  after = (migrate b renames).snapshots

  moved : after ≡ new
  moved = ap (λ (t : Bool). (if t then b else record b { version = 2; snapshots = new; environments = map (renamed_env renames) b.environments }).snapshots) fine

  pub closure_moves : (r : Ref) (s : Snapshot) → snapshot_at all r ≡ Some s → closure_at after (renamed renames r) ≡ closure_at all r
  closure_moves r s e =
      ap (λ (l : List Snapshot). closure_at l (renamed renames r)) moved
      ∙ ap (option_map (closing new)) (there r s e)
      ∙ ap Some (closed_moves s.rank s (is_its_own all r s e))
      ∙ sym (ap (option_map (closing all)) e)

  each_moves : (refs : List Ref) → are_kept all refs ≡ true → map (closure_at after) (map (renamed renames) refs) ≡ map (closure_at all) refs
  each_moves [] h = refl
  each_moves (r ∷ rs) h =
      let (s, e) = kept_at all r (and_left (is_kept all r) (are_kept all rs) h) in
      λ i. closure_moves r s e i ∷ each_moves rs (and_right (is_kept all r) (are_kept all rs) h) i

  fit_moves : (e : Env) → is_list_fit all e.list ≡ true → map (closure_at after) (map (renamed renames) e.list) ≡ map (closure_at all) e.list
  fit_moves e fit = each_moves e.list (and_left (are_kept all e.list) _ fit)

  pub lists_move : All (λ (e : Env). map (closure_at after) (map (renamed renames) e.list) ≡ map (closure_at all) e.list) b.environments
  lists_move k d low = fit_moves (slice_index_or b.environments k d) (env_lists_fit b well k d low)
