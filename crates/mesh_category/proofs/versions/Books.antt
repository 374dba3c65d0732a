-- The snapshots of a well-formed book, each under its own name and fingerprint.
use Rattle.std.proofs.Common.{◌≡◌, ℕ, Bool, true, false, cond, ◌&&◌, inl, inr, List, [], ◌∷◌, Some, None, refl, ◌∙◌, ap, subst}
use Rattle.std.specs.Ordering.{is_eq}
use Rattle.std.specs.declared.cmp.Ordering.{Ordering}
use Rattle.std.specs.declared.option.Option.{Option}
use Rattle.std.proofs.lemmas.Cmp.{tied_itself}
use Rattle.std.proofs.lemmas.Bool.{and_from as and_both}
use Rattle.mesh_list.specs.Keyed.{ascends, below_first, found}
use Rattle.mesh_list.proofs.Ascends.{and_left, and_right}
use Rattle.mesh_base.specs.Keys.{ref_cmp, refs_total, snapshot_ref}
use Rattle.mesh_base.specs.declared.snapshots.Ref.{Ref}
use Rattle.mesh_base.specs.declared.snapshots.Snapshot.{Snapshot}
use Rattle.mesh_house_book.specs.declared.book.Book.{Book}
use Rattle.mesh_house_book.specs.WellFormed.{all_fit, is_above, is_moment, is_snapshot_fit, is_version, is_well_formed_book, snapshot_at}
use Rattle.mesh_law_query.proofs.Has.{Has}
use Rattle.mesh_spec_changes.specs.listed.Closing.{IsSnapshot}
use Rattle.mesh_spec_changes.proofs.listed.Lists.{below_each}

rising : (version : ℕ) (all : List Snapshot) (before : Option Snapshot) (ss : List Snapshot) → all_fit (is_snapshot_fit version all) before ss ≡ true → ascends ref_cmp snapshot_ref ss ≡ true
rising version all before [] ok = refl
rising version all before (s ∷ []) ok = refl
rising version all before (s ∷ t ∷ ts) ok =
    let rest = and_right (is_snapshot_fit version all before s) (all_fit (is_snapshot_fit version all) (Some s) (t ∷ ts)) ok in
    let fit = and_left (is_snapshot_fit version all (Some s) t) (all_fit (is_snapshot_fit version all) (Some t) ts) rest in
    and_both (below_first ref_cmp snapshot_ref (snapshot_ref s) (t ∷ ts)) (ascends ref_cmp snapshot_ref (t ∷ ts)) (and_left (is_above ref_cmp snapshot_ref (Some s) t) _ fit) (rising version all (Some s) (t ∷ ts) rest)

pub snapshots_ascend : (b : Book) → is_well_formed_book b ≡ true → ascends ref_cmp snapshot_ref b.snapshots ≡ true
snapshots_ascend b well =
    rising b.version b.snapshots None b.snapshots (and_left (all_fit (is_snapshot_fit b.version b.snapshots) None b.snapshots) _ (and_right (is_moment b.moment && is_version b.version) _ well))

pub its_own : (ss : List Snapshot) → ascends ref_cmp snapshot_ref ss ≡ true → (s : Snapshot) → Has s ss → IsSnapshot ss s
its_own [] up s h = absurd h
its_own (t ∷ ts) up s (inl e) =
    subst (λ (u : Snapshot). IsSnapshot (t ∷ ts) u) e (ap (λ (o : Ordering). cond (is_eq o) (Some t) (found ref_cmp snapshot_ref (snapshot_ref t) ts)) (tied_itself refs_total (snapshot_ref t)))
its_own (t ∷ ts) up s (inr h) =
    let first = and_left (below_first ref_cmp snapshot_ref (snapshot_ref t) ts) (ascends ref_cmp snapshot_ref ts) up in
    let later = and_right (below_first ref_cmp snapshot_ref (snapshot_ref t) ts) (ascends ref_cmp snapshot_ref ts) up in
    ap (λ (o : Ordering). cond (is_eq o) (Some t) (found ref_cmp snapshot_ref (snapshot_ref s) ts)) (below_each ref_cmp refs_total snapshot_ref (snapshot_ref t) ts first later s h)
    ∙ its_own ts later s h

pub is_there : (ss : List Snapshot) (r : Ref) (s : Snapshot) → snapshot_at ss r ≡ Some s → Has s ss
is_there [] r s e = absurd (let clash : None ≡ Some s = e in cc)
is_there (t ∷ ts) r s e = go (is_eq (ref_cmp (snapshot_ref t) r)) e (is_there ts r s)
  where
    go : (b : Bool) → cond b (Some t) (found ref_cmp snapshot_ref r ts) ≡ Some s → (snapshot_at ts r ≡ Some s → Has s ts) → Has s (t ∷ ts)
    go true f more = inl (let same : t ≡ s = cc in same)
    go false f more = inr (more f)
